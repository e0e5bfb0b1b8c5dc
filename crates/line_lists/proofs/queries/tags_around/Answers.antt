use Rattle.line_lists.proofs.Common.{◌<◌, ◌∙◌, ap, ap₂, sym, subst, differing, tags_before, Some}
use Rattle.line_lists.proofs.BareLaws.{bare-at, bare-before}
use Rattle.line_lists.proofs.PlaceRows.{length-content, tags-at, tags-before}
use Rattle.line_lists.proofs.queries.tags_around.Goals as goal

pub returns-then-is_bare-clause-before : goal.returns-then-is_bare-clause-before
returns-then-is_bare-clause-before g c =
    let bare = c.is_bare.ensures.yes c.if-is_bare.true in
    c.empty.ensures
    ∙ sym (bare-before (g.L.LineList.lines c.args.list.now) c.args.offset bare.presence c.requires)

pub returns-then-is_bare-clause-at : goal.returns-then-is_bare-clause-at
returns-then-is_bare-clause-at g c =
    let bare = c.is_bare.ensures.yes c.if-is_bare.true in
    bare-at (g.L.LineList.lines c.args.list.now) c.args.offset bare.presence c.requires
    ∙ ap (λ s. Some s) (sym c.empty-then-is_bare.ensures)

pub line_at-index-requires : goal.line_at-index-requires
line_at-index-requires g c =
    subst (λ n. c.args.offset < n) (length-content (g.L.LineList.lines c.args.list.now)) c.requires

pub returns-clause-before : goal.returns-clause-before
returns-clause-before g c =
    let list = g.L.LineList.lines c.args.list.now in
    c.differing-before.ensures
    ∙ ap₂ differing c.odd_slots-here.ensures c.tags_left_of.ensures
    ∙ sym (tags-before list c.args.offset c.line_at-index.result.0 c.line_at-index.result.1
    c.line_at-index.result.2.now
    c.line_at-index.ensures.place
    c.line_at-index.ensures.line)

pub returns-clause-at : goal.returns-clause-at
returns-clause-at g c =
    let list = g.L.LineList.lines c.args.list.now in
    tags-at list c.args.offset c.line_at-index.result.0 c.line_at-index.result.1 c.line_at-index.result.2.now
    c.line_at-index.ensures.place
    c.line_at-index.ensures.line
    ∙ ap (λ s. Some s) (sym (c.turn_tags_before.ensures
    ∙ ap (λ s. differing s (tags_before c.line_at-index.result.1 c.line_at-index.result.2.now.columns))
    c.odd_slots-here.ensures))
