use Rattle.line_lists.proofs.Common.{◌≡◌, None, IsReached, made_lines, whole}
use Rattle.line_lists.proofs.StandLaws.{copies_to}
use Rattle.std.specs.FinMap as finite
use Rattle.line_lists.proofs.drafts.Draft.find_behind.Given as goal

abbrev pub invariant-loop-index : goal.invariant-loop-index
invariant-loop-index g l =
    let lines = g.L.LineList.lines l.self.list.now in
    let copies = copies_to l.self.front.items l.self.back.items l.index in
    IsReached l.reached copies lines × (finite.get (whole (made_lines copies lines)).marks l.number.0 ≡ None)
