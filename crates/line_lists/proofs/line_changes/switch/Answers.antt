use Rattle.line_lists.proofs.Common.{◌∙◌, ap, sym, on_ok_weaker, with_toggled, Slots}
use Rattle.line_lists.proofs.LineChangeLaws.{toggled-one}
use Rattle.line_lists.proofs.StepTexts.{toggled-empty}
use Rattle.line_lists.proofs.SwitchLaws.{opposite, same_flag, switched_one, unswitched}
use Rattle.std.specs.FinSet as set
use Rattle.line_lists.proofs.line_changes.switch.Goals as goal

pub returns-then-was_on-is_on : goal.returns-then-was_on-is_on
returns-then-was_on-is_on c = λ tags was.
    toggled-empty c.args.column _ c.args.line.now
    (sym (unswitched tags c.args.slot.0 c.args.is_on (sym was ∙ same_flag _ _ c.if-was_on-is_on.true)))

pub returns : goal.returns
returns c =
    let line = c.args.line.now in
    let slots = set.insert set.empty c.args.slot.0 in
    on_ok_weaker c.toggle_slot.result (λ columns tags was.
    toggled-one c.args.column slots line c.toggle_slot.new.self c.requires.within columns c.toggle_slot.ensures.marks
    ∙ ap (λ (s : Slots). with_toggled c.args.column s line)
    (switched_one tags c.args.slot.0 c.args.is_on (sym was ∙ opposite _ _ c.if-was_on-is_on.false)))
    c.toggle_slot.ensures.columns
