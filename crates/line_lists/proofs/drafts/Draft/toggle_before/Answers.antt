use Rattle.line_lists.proofs.Common.{arith, text_in}
use Rattle.line_lists.proofs.StepTexts.{toggled-empty, toggled-end}
use Rattle.line_lists.proofs.drafts.Draft.toggle_before.Goals.{then-len-offset-via-then-len-offset}
use Rattle.line_lists.proofs.drafts.Draft.toggle_before.Goals.{then-len-offset-via-else-len-offset+then-is_empty}
use Rattle.line_lists.proofs.drafts.Draft.toggle_before.Goals as goal

pub returns-then-len-offset-clause-new : goal.returns-then-len-offset-clause-new
returns-then-len-offset-clause-new g c =
    let text = text_in g.L.LineList.lines c.args.self.now in
    elim c.then-len-offset.branch [
      | then-len-offset-via-then-len-offset w ↦ toggled-end c.args.offset c.args.slots.now text
          (omega (arith, w.if-len-offset, c.requires.len))
      | then-len-offset-via-else-len-offset+then-is_empty w ↦ toggled-empty c.args.offset c.args.slots.now text (w.is_empty.ensures.none
          w.if-is_empty.true)
    ]
