use Rattle.edit_ops.proofs.Common.{log_of}
use Rattle.edit_ops.proofs.deletions.plan_delete.Goals as goal

pub prepare-requires : goal.prepare-requires
prepare-requires g c = (c.in_ok-outline.ensures.makes (log_of c.args.text.now.history)).0
