use Rattle.line_lists.proofs.Common.{take, drop, sym, ap, ◌∙◌, differing, copies_of, tags_after, whole, tags_left_of}
use Rattle.line_lists.proofs.ClearingLaws.{tags-before}
use Rattle.line_lists.proofs.drafts.Draft.tags_up_to.Goals as goal

pub returns-clause-value : goal.returns-clause-value
returns-clause-value g c =
    let lines = g.L.LineList.lines c.args.self.now.list.now in
    let stop = c.args.stop.now in
    let kept = tags_left_of (whole (take stop.copy.kept (drop stop.reached.used lines))).columns in
    c.turn_kept.ensures.turned
    ∙ ap (λ s. differing s kept) (c.all-slots.ensures.value ∙ ap (tags_after lines) c.deref.ensures.value)
    ∙ sym (tags-before lines (copies_of c.args.self.now.front.items) stop.reached stop.copy c.requires.placed.reached)
