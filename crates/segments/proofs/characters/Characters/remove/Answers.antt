use Rattle.segments.proofs.Common.{◌≡◌, ◌≤◌, ap, ◌∙◌, arith, length, chars, string_bytes, removed, length-removed}
use Rattle.segments.proofs.TextLaws.{removed_text}
use Rattle.segments.proofs.characters.Characters.remove.Goals.{In_ok-replace_range}
use Rattle.segments.proofs.characters.Characters.remove.Goals as goal

-- the characters then
new : (c : In_ok-replace_range) → chars (string_bytes c.replace_range.new.self)
    ≡ removed c.args.from c.args.to (chars (string_bytes c.self.inside.text))
new c =
    let start = c.byte_of-start.ensures in
    removed_text c.byte_of-start.result c.byte_of-long.result c.args.from c.args.to c.as_str-text.ensures.value
    c.as_str-text.utf8 start.boundary start.front start.behind c.range_from.ensures.value
    c.byte_of-long.ensures.behind c.requires.ordered c.in_ok-replace_range.ensures.bytes

pub invariant_of-self-2 : goal.invariant_of-self-2
invariant_of-self-2 c =
    let old = chars (string_bytes c.self.inside.text) in
    let within : c.args.to ≤ length old = omega (arith, c.requires.within, ap length c.self.view_is) in
    omega (
      arith,
      ap length (new (goal.at.invariant_of-self-2 c).In_ok-replace_range),
      length-removed c.args.from c.args.to old c.requires.ordered within,
      c.self.invariant,
    )

pub returns-clause-new : goal.returns-clause-new
returns-clause-new c =
    new (goal.at.returns-clause-new c).In_ok-replace_range ∙ ap (removed c.args.from c.args.to) c.self.view_is
