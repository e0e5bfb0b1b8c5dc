use Rattle.segments.proofs.Common.{ap, slice_get}
use Rattle.segments.proofs.MarkOrderLaws.{marks_at-marks_of}
use Rattle.segments.proofs.marks.mark_at.Goals as goal

pub loop-mark-init : goal.loop-mark-init
loop-mark-init c =
    ap (λ marks. slice_get marks c.args.index) (marks_at-marks_of c.args.column c.args.marks.now c.requires)
