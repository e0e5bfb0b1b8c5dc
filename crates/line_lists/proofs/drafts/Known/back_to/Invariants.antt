use Rattle.line_lists.proofs.Common.{◌-◌, ◌≤◌, min, IsKnown}
use Rattle.line_lists.proofs.drafts.Known.back_to.Given as goal

abbrev pub invariant-loop-self : goal.invariant-loop-self
invariant-loop-self g l = record {
  known : IsKnown (g.L.LineList.lines l.list) l.stops l.self;
  least : min l.fn.self.count l.count ≤ l.self.count;
  most : l.self.count ≤ l.fn.self.count;
}

abbrev pub decreases-loop-self : goal.decreases-loop-self
decreases-loop-self g l = l.self.count - l.count
