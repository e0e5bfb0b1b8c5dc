use Rattle.tcl_words.proofs.Readings.{one_script}
use Rattle.tcl_words.proofs.laws.one_reading.Goals as goal

pub returns : goal.returns
returns c = λ bytes commands others fault other r s. one_script commands others bytes fault other r s
