use Rattle.segments.proofs.Common.{sym, ◌∙◌}
use Rattle.segments.proofs.characters.first_character.Goals as goal

pub returns : goal.returns
returns c =
    (c.next.new.self.rest.now, sym c.chars.ensures.rest ∙ (rw c.unwrap.ensures at c.next.ensures.steps.0))
