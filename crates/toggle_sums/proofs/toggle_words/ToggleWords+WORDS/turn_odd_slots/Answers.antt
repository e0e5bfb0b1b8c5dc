use Rattle.toggle_sums.proofs.Common.{WORDS}
use Rattle.toggle_sums.proofs.UsedLaws.{ends-parity, used-le}
use Rattle.toggle_sums.proofs.toggle_words.ToggleWords+WORDS.turn_odd_slots.Goals as goal

pub flip_words-requires-clause-used : goal.flip_words-requires-clause-used
flip_words-requires-clause-used c = used-le WORDS _ _ _ c.self.invariant

pub flip_words-requires-clause-rest : goal.flip_words-requires-clause-rest
flip_words-requires-clause-rest c = ends-parity WORDS _ _ _ c.self.invariant
