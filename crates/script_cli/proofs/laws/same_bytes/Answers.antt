use Rattle.script_cli.proofs.SameLaws.{same_or_wanting}
use Rattle.script_cli.proofs.laws.same_bytes.Goals as goal

pub returns : goal.returns
returns c = λ limits script one other summary another. same_or_wanting limits script one other summary another
