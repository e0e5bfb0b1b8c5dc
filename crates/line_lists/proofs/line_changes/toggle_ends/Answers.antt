use Rattle.line_lists.proofs.Common.{◌∙◌, ap, arith, length, on_ok_weaker, LineContent, with_toggled}
use Rattle.line_lists.proofs.LineChangeLaws.{toggled-one}
use Rattle.line_lists.proofs.StepTexts.{toggled-empty}
use Rattle.line_lists.proofs.WholeLaws.{length-toggled}
use Rattle.line_lists.proofs.line_changes.toggle_ends.Goals as goal

pub returns-then-is_empty : goal.returns-then-is_empty
returns-then-is_empty c =
    let none = c.is_empty.ensures.none c.if-is_empty.true in
    toggled-empty c.args.from c.args.slots.now c.args.line.now none
    ∙ ap (with_toggled c.args.from c.args.slots.now) (toggled-empty c.args.to c.args.slots.now c.args.line.now none)

pub returns : goal.returns
returns c =
    let slots = c.args.slots.now in
    let last = toggled-one c.args.to slots c.args.line.now c.toggle.new.self c.requires.to
    c.in_ok-toggle.ensures.columns c.toggle.ensures.marks in
    let long = ap (λ (line : LineContent). length line.columns) last
    ∙ length-toggled c.args.to slots c.args.line.now.columns in
    on_ok_weaker c.toggle-2.result (λ columns.
    toggled-one c.args.from slots c.toggle.new.self c.toggle-2.new.self (omega (arith, long, c.requires.from)) columns
    c.toggle-2.ensures.marks ∙ ap (with_toggled c.args.from slots) last) c.toggle-2.ensures.columns
