use Rattle.line_lists.proofs.Common.{◌∙◌, ap, sym, Slots}
use Rattle.line_lists.proofs.SwitchLaws.{opposite, same_flag, switched_one, unswitched}
use Rattle.std.specs.FinSet as set
use Rattle.line_lists.proofs.steps.switched_slots.Goals as goal

pub returns-then-has-is_on : goal.returns-then-has-is_on
returns-then-has-is_on c =
    c.empty.ensures
    ∙ unswitched c.args.before.now c.args.slot.0 c.args.is_on (sym c.has.ensures ∙ same_flag _ _ c.if-has-is_on.true)

pub returns-else-has-is_on : goal.returns-else-has-is_on
returns-else-has-is_on c =
    c.with.ensures ∙ ap (λ (s : Slots). set.insert s c.args.slot.0) c.empty-else-has-is_on.ensures
    ∙ switched_one c.args.before.now c.args.slot.0 c.args.is_on (sym c.has.ensures
    ∙ opposite _ _ c.if-has-is_on.false)
