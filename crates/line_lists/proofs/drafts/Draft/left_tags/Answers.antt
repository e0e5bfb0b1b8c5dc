use Rattle.line_lists.proofs.Common.{sym, ap₂, ◌∙◌, differing, lines_in}
use Rattle.line_lists.proofs.StepTexts.{tags-left}
use Rattle.line_lists.proofs.drafts.Draft.left_tags.Goals as goal

pub returns-clause-value : goal.returns-clause-value
returns-clause-value g c =
    let lines = g.L.LineList.lines c.take.new.self.list.now in
    let found = c.in_ok-stop.field-0 in
    let taken = c.in_ok-stop.ensures in
    let old = lines_in g.L.LineList.lines c.args.self.now in
    c.flip.ensures ∙ ap₂ differing c.tags_up_to-slots.ensures.value c.tags_left_of.ensures
    ∙ sym (tags-left lines old c.take.new.self.front.items c.take.new.self.back.items found.stop.copy c.args.offset
    found.column taken.same taken.place)
