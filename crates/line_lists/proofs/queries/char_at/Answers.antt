use Rattle.line_lists.proofs.Common.{◌<◌, subst}
use Rattle.line_lists.proofs.PlaceRows.{character-at, length-content}
use Rattle.line_lists.proofs.queries.char_at.Goals as goal

-- src/queries.rt:31:27
pub line_at-column-requires : goal.line_at-column-requires
line_at-column-requires g c =
    subst (λ n. c.args.offset < n) (length-content (g.L.LineList.lines c.args.list.now)) c.requires

-- src/queries.rt:27:1
pub returns : goal.returns
returns g c = character-at _ _ _ _ _ _ c.line_at-column.ensures.place c.line_at-column.ensures.line c.char_at.ensures
