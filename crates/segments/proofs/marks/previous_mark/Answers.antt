use Rattle.segments.proofs.MarkOrderLaws.{previous_mark-marks_of}
use Rattle.segments.proofs.marks.previous_mark.Goals as goal

pub loop-mark-init : goal.loop-mark-init
loop-mark-init c = previous_mark-marks_of c.args.column c.args.marks.now c.requires
