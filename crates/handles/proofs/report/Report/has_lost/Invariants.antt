use Rattle.handles.proofs.Common.{◌≡◌, drop, has_lost}
use Rattle.handles.proofs.report.Report.has_lost.Given as goal

abbrev pub invariant-loop-mark : goal.invariant-loop-mark
invariant-loop-mark l =
    has_lost l.self.homes l.home l.self.marks ≡ has_lost l.self.homes l.home (drop l.mark-index l.self.marks)
