use Rattle.line_lists.proofs.Common.{◌≡◌, vec_len, IsDraftIn, lines_in}
use Rattle.line_lists.proofs.drafts.Draft.forth_to_end.Given as goal

abbrev pub invariant-loop-self : goal.invariant-loop-self
invariant-loop-self g l =
    (l.self.list.now ≡ l.initial.self.list.now)
    × IsDraftIn g.L.LineList.lines l.self
    × (lines_in g.L.LineList.lines l.self
    ≡ lines_in g.L.LineList.lines l.initial.self)

abbrev pub decreases-loop-self : goal.decreases-loop-self
decreases-loop-self g l = vec_len l.self.back
