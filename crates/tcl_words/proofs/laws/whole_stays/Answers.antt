use Rattle.tcl_words.proofs.Readings.{whole_first}
use Rattle.tcl_words.proofs.laws.whole_stays.Goals as goal

pub returns : goal.returns
returns c = λ words used more commands fault w r. whole_first commands words used more fault w r
