use Rattle.tag_table.proofs.Common.{ap, sym, ◌∙◌, refl, length, length-map, arith, nat_tests, chars, None, Tags, tag}
use Rattle.tag_table.proofs.TagLaws.{place_of_tag, placed, goes-highest, goes-above}
use Rattle.tag_table.proofs.tags.TagTable.place_above.Goals as goal

pub returns-in_default-clause-goes : goal.returns-in_default-clause-goes
returns-in_default-clause-goes c =
    rw c.in_default.is (goes-highest c.args.from c.len.result c.args.self.now.tags c.requires (c.len.ensures.value
    ∙ sym (length-map c.self.inside.names.entries tag) ∙ ap (λ (ts : Tags). length ts.tags) c.self.view_is))

pub returns-in_default-place-clause-fault : goal.returns-in_default-place-clause-fault
returns-in_default-place-clause-fault c = (
  refl,
  rw c.in-Some.is (placed (chars c.in-Some.other.now) c.args.self.now.tags None
      (place_of_tag _ c.self.inside.names c.args.self.now _ c.self.view_is c.place.ensures.value
      ∙ c.in_default-place.is)),
)

pub returns-then-at-from-clause-goes : goal.returns-then-at-from-clause-goes
returns-then-at-from-clause-goes c =
    let at = place_of_tag _ c.self.inside.names c.args.self.now _ c.self.view_is c.place.ensures.value
    ∙ c.in-Some-place.is in
    rw c.in-Some.is (goes-above c.args.from c.in-Some-place.at _ (chars c.in-Some.other.now) c.args.self.now.tags
    c.requires at (grind (arith, nat_tests)))

pub returns-else-at-from-clause-goes : goal.returns-else-at-from-clause-goes
returns-else-at-from-clause-goes c =
    let at = place_of_tag _ c.self.inside.names c.args.self.now _ c.self.view_is c.place.ensures.value
    ∙ c.in-Some-place.is in
    rw c.in-Some.is (goes-above c.args.from c.in-Some-place.at _ (chars c.in-Some.other.now) c.args.self.now.tags
    c.requires at (grind (arith, nat_tests)))
