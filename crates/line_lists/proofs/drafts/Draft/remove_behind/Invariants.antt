use Rattle.line_lists.proofs.Common.{◌≡◌, ◌+◌, after_removal, HoldsMore, IsHeld, held_at, held_text}
use Rattle.line_lists.proofs.drafts.Draft.remove_behind.Given as goal

abbrev pub invariant-loop-left : goal.invariant-loop-left
invariant-loop-left g l =
    let lines = g.L.LineList.lines l.self.list.now in
    let at = held_at lines l.self.front.items l.stop.copy l.column in
    (l.self.list.now ≡ l.initial.self.list.now)
    × (l.self.front ≡ l.initial.self.front)
    × (l.stop.copy.kept ≡ l.initial.stop.copy.kept)
    × IsHeld lines l.self.front.items l.self.back.items l.stop l.column
    × HoldsMore lines l.self.front.items l.self.back.items l.stop.copy l.column l.left
    × (after_removal at (at + l.left) (held_text lines l.self.front.items l.self.back.items l.stop.copy)
    ≡ after_removal at (at + l.count) (held_text (g.L.LineList.lines l.initial.self.list.now) l.initial.self.front.items
    l.initial.self.back.items l.initial.stop.copy))

abbrev pub decreases-loop-left : goal.decreases-loop-left
decreases-loop-left g l = l.left
