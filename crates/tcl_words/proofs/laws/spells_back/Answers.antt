use Rattle.tcl_words.proofs.Common.{list_text}
use Rattle.tcl_words.proofs.SpellsBack.{spelled_back, one_list}
use Rattle.tcl_words.proofs.laws.spells_back.Goals as goal

pub returns : goal.returns
returns c = λ list. (spelled_back list, λ other r. one_list (list_text list) other list r (spelled_back list))
