use Rattle.line_tree.proofs.Common.{◌∙◌, sym}
use Rattle.line_tree.proofs.spread.is_roomy.Goals as goal

pub has_room-requires-clause-row : goal.has_room-requires-clause-row
has_room-requires-clause-row g c = (c.requires.spread.each c.args.slot c.in-Some.child (sym c.kid.ensures ∙ c.in-Some.is)).0

pub returns-in-Some-clause-yes : goal.returns-in-Some-clause-yes
returns-in-Some-clause-yes g c = λ yes. record {
  child = c.in-Some.child;
  is = sym c.kid.ensures ∙ c.in-Some.is;
  few = c.has_room.ensures.yes yes;
}
