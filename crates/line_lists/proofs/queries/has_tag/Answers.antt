use Rattle.line_lists.proofs.Common.{◌<◌, ◌∙◌, ap, sym, subst, arith, nat_cmp, content_of, differing, count_of, take}
use Rattle.line_lists.proofs.Common.{tags_before, Some}
use Rattle.line_lists.proofs.BareLaws.{bare-at}
use Rattle.line_lists.proofs.CountRows.{count-characters}
use Rattle.line_lists.proofs.PlaceRows.{flag-at, length-content, tags-at}
use Rattle.line_lists.proofs.SwitchLaws.{in_one}
use Rattle.std.specs.FinSet as set
use Rattle.line_lists.proofs.queries.has_tag.Goals as goal

pub returns-then-is_bare : goal.returns-then-is_bare
returns-then-is_bare g c =
    let list = g.L.LineList.lines c.args.list.now in
    let slot = c.args.slot.0 in
    let bare = c.is_bare.ensures.yes c.if-is_bare.true in
    flag-at slot (content_of list).cells c.args.offset _ (bare-at list c.args.offset bare.presence c.requires.within)
    ∙ ap (λ b. Some b) (set.contains-empty nat_cmp slot)

pub line_at-index-requires : goal.line_at-index-requires
line_at-index-requires g c =
    subst (λ n. c.args.offset < n) (length-content (g.L.LineList.lines c.args.list.now)) c.requires.within

pub overflow_add-column : goal.overflow_add-column
overflow_add-column g c =
    let list = g.L.LineList.lines c.args.list.now in
    let at = c.line_at-index.ensures.place in
    omega (
      arith,
      at.behind,
      c.requires.within,
      length-content list,
      (g.L.LineList.are_lines c.args.list.now).counted.characters,
      count-characters list,
    )

pub returns : goal.returns
returns g c =
    let list = g.L.LineList.lines c.args.list.now in
    let slot = c.args.slot.0 in
    let index = c.line_at-index.result.0 in
    let column = c.line_at-index.result.1 in
    let here = c.line_at-index.result.2.now in
    let before = (count_of (take index list)).parity in
    let inside = tags_before column here.columns in
    flag-at slot (content_of list).cells c.args.offset (differing before inside)
    (tags-at list c.args.offset index column here c.line_at-index.ensures.place c.line_at-index.ensures.line)
    ∙ ap (λ b. Some b)
    (sym (in_one before inside slot c.is_odd.result c.is_odd_left_of.result c.is_odd.ensures c.is_odd_left_of.ensures))
