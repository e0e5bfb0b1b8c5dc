use Rattle.tcl_words.proofs.Readings.{a_reading}
use Rattle.tcl_words.proofs.laws.some_reading.Goals as goal

pub returns : goal.returns
returns c = a_reading
