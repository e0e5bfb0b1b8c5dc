use Rattle.line_lists.proofs.Common.{◌≡◌, vec_len, IsDraftIn, lines_in, BeginsBy}
use Rattle.line_lists.proofs.drafts.Draft.forth_to.Given as goal

abbrev pub invariant-loop : goal.invariant-loop
invariant-loop g l =
    (l.self.list.now ≡ l.initial.self.list.now)
    × IsDraftIn g.L.LineList.lines l.self
    × (lines_in g.L.LineList.lines l.self
    ≡ lines_in g.L.LineList.lines l.initial.self)
    × BeginsBy (g.L.LineList.lines l.self.list.now) l.offset l.self.front.items

abbrev pub decreases-loop : goal.decreases-loop
decreases-loop g l = vec_len l.self.back
