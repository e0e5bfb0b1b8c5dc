use Rattle.script_cli.proofs.ToldLaws.{told_run, told_front, told_read}
use Rattle.script_cli.proofs.laws.told_bytes.Goals as goal

pub returns-clause-run : goal.returns-clause-run
returns-clause-run c = told_run

pub returns-clause-front : goal.returns-clause-front
returns-clause-front c = told_front

pub returns-clause-front_of_read : goal.returns-clause-front_of_read
returns-clause-front_of_read c = told_read
