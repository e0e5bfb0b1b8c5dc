use Rattle.script_cli.proofs.Common.{chars-nil}
use Rattle.script_cli.proofs.lines.answer_text.Goals as goal

pub returns-in-Empty : goal.returns-in-Empty
returns-in-Empty c = rw c.in-Empty.is chars-nil
