use Rattle.line_lists.proofs.Common.{◌≡◌, vec_len, free_end, IsDraftIn, lines_in, IsReached, copies_of}
use Rattle.line_lists.proofs.drafts.Draft.next_toggled.Given as goal

abbrev pub invariant-loop-reached : goal.invariant-loop-reached
invariant-loop-reached g l =
    (l.self.list.now ≡ l.initial.self.list.now)
    × IsDraftIn g.L.LineList.lines l.self
    × (lines_in g.L.LineList.lines l.self
    ≡ lines_in g.L.LineList.lines l.initial.self)
    × IsReached l.reached (copies_of l.self.front.items) (g.L.LineList.lines l.self.list.now)
    × (free_end l.slot.0 (g.L.LineList.lines l.self.list.now) l.self.front.items l.self.back.items
    ≡ free_end l.slot.0 (g.L.LineList.lines l.initial.self.list.now) l.initial.self.front.items
    l.initial.self.back.items)

abbrev pub decreases-loop-reached : goal.decreases-loop-reached
decreases-loop-reached g l = vec_len l.self.back
