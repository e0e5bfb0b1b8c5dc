use Rattle.edit_ops.proofs.Common.{sym}
use Rattle.edit_ops.proofs.tagging.plan_tag.Goals as goal

pub prepare_steps-requires : goal.prepare_steps-requires
prepare_steps-requires g c = (c.in_ok-steps.ensures (g.S.TextStore.content c.args.text.now.store) (sym c.len.ensures)).0
