use Rattle.script_cli.proofs.RunLaws.{plain_runs}
use Rattle.script_cli.proofs.laws.some_run.Goals as goal

pub returns : goal.returns
returns c = λ world commands. plain_runs commands world
