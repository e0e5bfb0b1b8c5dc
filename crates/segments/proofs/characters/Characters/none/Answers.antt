use Rattle.segments.proofs.Common.{sym, ap, ◌∙◌, length, chars, chars-nil}
use Rattle.segments.proofs.characters.Characters.none.Goals as goal

pub invariant_of-result : goal.invariant_of-result
invariant_of-result c = sym (ap (λ bytes. length (chars bytes)) c.new.ensures.bytes ∙ ap length chars-nil)

pub returns : goal.returns
returns c = ap chars c.new.ensures.bytes ∙ chars-nil
