use Rattle.segments.proofs.Common.{ℕ, ◌+◌, ◌-◌, ◌≤◌, length, StandIn}
use Rattle.segments.proofs.MarkLaws.{MergesAt}
use Rattle.segments.proofs.marks.joined_marks.Given as goal

abbrev pub invariant-loop-two : goal.invariant-loop-two
invariant-loop-two l = record {
  within : l.one ≤ length l.fn.first;
  merges : MergesAt l.fn.len l.fn.first l.fn.second l.one l.two l.marks.items;
  stand : (more : ℕ) → StandIn l.fn.len l.fn.first → StandIn more l.fn.second → StandIn (l.fn.len + more) l.marks.items;
}

abbrev pub decreases-loop-two : goal.decreases-loop-two
decreases-loop-two l = (length l.first - l.one) + (length l.second - l.two)
