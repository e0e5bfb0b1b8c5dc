use Rattle.line_lists.proofs.Common.{sym, ap, ◌∙◌, differing, tags_before, lines_in}
use Rattle.line_lists.proofs.StepTexts.{tags-taken}
use Rattle.line_lists.proofs.drafts.Draft.tags_at.Goals as goal

pub returns-clause-value : goal.returns-clause-value
returns-clause-value g c =
    let lines = g.L.LineList.lines c.take.new.self.list.now in
    let found = c.in_ok-stop.field-0 in
    let taken = c.in_ok-stop.ensures in
    let old = lines_in g.L.LineList.lines c.args.self.now in
    c.turn_tags_before.ensures
    ∙ ap (λ s. differing s (tags_before found.column found.stop.copy.line.columns)) c.tags_up_to-slots.ensures.value
    ∙ sym (tags-taken lines old c.take.new.self.front.items c.take.new.self.back.items found.stop.copy c.args.offset
    found.column taken.same taken.place)
