use Rattle.line_lists.proofs.Common.{◌<◌, ◌∙◌, sym, ap, subst, differing, tags_before, Some}
use Rattle.line_lists.proofs.BareLaws.{bare-at}
use Rattle.line_lists.proofs.PlaceRows.{length-content, tags-at}
use Rattle.line_lists.proofs.queries.tags_at.Goals as goal

pub returns-then-is_bare : goal.returns-then-is_bare
returns-then-is_bare g c =
    let bare = c.is_bare.ensures.yes c.if-is_bare.true in
    bare-at (g.L.LineList.lines c.args.list.now) c.args.offset bare.presence c.requires
    ∙ ap (λ s. Some s) (sym c.empty.ensures)

pub line_at-index-requires : goal.line_at-index-requires
line_at-index-requires g c =
    subst (λ n. c.args.offset < n) (length-content (g.L.LineList.lines c.args.list.now)) c.requires

pub returns : goal.returns
returns g c =
    let list = g.L.LineList.lines c.args.list.now in
    tags-at list c.args.offset c.line_at-index.result.0 c.line_at-index.result.1 c.line_at-index.result.2.now
    c.line_at-index.ensures.place
    c.line_at-index.ensures.line
    ∙ ap (λ s. Some s) (sym (c.turn_tags_before.ensures
    ∙ ap (λ s. differing s (tags_before c.line_at-index.result.1 c.line_at-index.result.2.now.columns))
    c.odd_slots-tags.ensures))
