use Rattle.line_lists.proofs.Common.{◌-◌, ◌≤◌, max, IsKnown}
use Rattle.line_lists.proofs.drafts.Known.forth_to.Given as goal

abbrev pub invariant-loop-self : goal.invariant-loop-self
invariant-loop-self g l = record {
  known : IsKnown (g.L.LineList.lines l.list) l.stops l.self;
  least : l.fn.self.count ≤ l.self.count;
  most : l.self.count ≤ max l.fn.self.count l.count;
}

abbrev pub decreases-loop-self : goal.decreases-loop-self
decreases-loop-self g l = l.count - l.self.count
