use Rattle.script_cli.proofs.RunLaws.{compared}
use Rattle.script_cli.proofs.laws.plain_run.Goals as goal

pub returns : goal.returns
returns c = λ world commands. compared commands world
