use Rattle.tcl_words.proofs.Readings.{front_first, front_fault}
use Rattle.tcl_words.proofs.laws.front_stays.Goals as goal

pub returns-clause-commands : goal.returns-clause-commands
returns-clause-commands c = λ front more commands all fault f r. front_first commands front more all fault f r

pub returns-clause-fault : goal.returns-clause-fault
returns-clause-fault c = λ front more commands all met fault f r. front_fault commands front more all met fault f r
