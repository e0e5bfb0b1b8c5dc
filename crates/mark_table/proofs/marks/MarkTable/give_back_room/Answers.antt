use Rattle.mark_table.proofs.Common.{ap, ◌∙◌, marks_kept}
use Rattle.mark_table.proofs.MarkLaws.{marks-take}
use Rattle.mark_table.proofs.marks.MarkTable.give_back_room.Goals as goal

pub returns-then-len-saturating_sub : goal.returns-then-len-saturating_sub
returns-then-len-saturating_sub c =
    let inside = c.self.inside in
    ap (marks_kept inside.names) (c.shrink_to.ensures.items ∙ c.truncate.ensures.items)
    ∙ marks-take inside.names inside.gravities.items c.number_bound.result c.number_bound.ensures ∙ c.self.view_is

pub returns-else-len-saturating_sub : goal.returns-else-len-saturating_sub
returns-else-len-saturating_sub c =
    let inside = c.self.inside in
    ap (marks_kept inside.names) c.truncate.ensures.items
    ∙ marks-take inside.names inside.gravities.items c.number_bound.result c.number_bound.ensures ∙ c.self.view_is
