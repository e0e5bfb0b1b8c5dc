use Rattle.tag_table.proofs.Common.{◌∙◌, refl, arith, nat_tests, chars, None}
use Rattle.tag_table.proofs.TagLaws.{place_of_tag, placed, goes-lowest, goes-below}
use Rattle.tag_table.proofs.tags.TagTable.place_below.Goals as goal

pub returns-in_default-clause-goes : goal.returns-in_default-clause-goes
returns-in_default-clause-goes c = rw c.in_default.is (goes-lowest c.args.from c.args.self.now.tags c.requires)

pub returns-in_default-place-clause-fault : goal.returns-in_default-place-clause-fault
returns-in_default-place-clause-fault c = (
  refl,
  rw c.in-Some.is (placed (chars c.in-Some.other.now) c.args.self.now.tags None
      (place_of_tag _ c.self.inside.names c.args.self.now _ c.self.view_is c.place.ensures.value
      ∙ c.in_default-place.is)),
)

pub returns-then-from-at-clause-goes : goal.returns-then-from-at-clause-goes
returns-then-from-at-clause-goes c =
    let at = place_of_tag _ c.self.inside.names c.args.self.now _ c.self.view_is c.place.ensures.value
    ∙ c.in-Some-place.is in
    rw c.in-Some.is (goes-below c.args.from c.in-Some-place.at _ (chars c.in-Some.other.now) c.args.self.now.tags
    c.requires at (grind (arith, nat_tests)))

pub returns-else-from-at-clause-goes : goal.returns-else-from-at-clause-goes
returns-else-from-at-clause-goes c =
    let at = place_of_tag _ c.self.inside.names c.args.self.now _ c.self.view_is c.place.ensures.value
    ∙ c.in-Some-place.is in
    rw c.in-Some.is (goes-below c.args.from c.in-Some-place.at _ (chars c.in-Some.other.now) c.args.self.now.tags
    c.requires at (grind (arith, nat_tests)))
