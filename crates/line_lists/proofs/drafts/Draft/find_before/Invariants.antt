use Rattle.line_lists.proofs.Common.{◌≡◌, None, take, copies_of, made_lines, whole}
use Rattle.std.specs.FinMap as finite
use Rattle.line_lists.proofs.drafts.Draft.find_before.Given as goal

abbrev pub invariant-loop-stop : goal.invariant-loop-stop
invariant-loop-stop g l =
    finite.get (whole (made_lines (copies_of (take l.stop-index l.self.front.items))
    (g.L.LineList.lines l.self.list.now))).marks l.number.0 ≡ None
