use Rattle.line_lists.proofs.Common.{◌≡◌, ◌≤◌, ◌-◌, IsTextIn, text_in, with_cleared}
use Rattle.line_lists.proofs.drafts.Draft.clear.Given as goal

abbrev pub invariant-loop-at : goal.invariant-loop-at
invariant-loop-at g l =
    (l.self.list.now ≡ l.fn.self.list.now)
    × IsTextIn g.L.LineList.lines l.self
    × (l.from ≤ l.at) × (l.at ≤ l.to)
    × (text_in g.L.LineList.lines l.self
    ≡ with_cleared l.slot.0 l.from l.at (text_in g.L.LineList.lines l.fn.self))

abbrev pub decreases-loop-at : goal.decreases-loop-at
decreases-loop-at g l = l.to - l.at
