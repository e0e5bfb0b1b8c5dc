use Rattle.edit_ops.proofs.Common.{◌-◌, ◌<◌, length, get_or, ap, sym, ◌∙◌, arith, nat_lt, eqb-true, eqb-false}
use Rattle.edit_ops.proofs.Common.{get_or_default, characters, is_newline, Span, AreApart, ◌&&◌}
use Rattle.edit_ops.proofs.RunLaws.{apart-short, last-out, none-spared, spared-is}
use Rattle.edit_ops.proofs.deletions.spare_shown.Goals.{then-is_empty-via-then-is_empty}
use Rattle.edit_ops.proofs.deletions.spare_shown.Goals.{then-is_empty-via-else-is_empty+then-index-end}
use Rattle.edit_ops.proofs.deletions.spare_shown.Goals as goal
use Rattle.edit_ops.proofs.deletions.spare_shown.Given as given

-- the runs end before the last character that is shown
ends : (g : given.Over) (c : goal.Joined-then-is_empty g) → AreApart c.args.end c.args.runs.now.items
ends g c = apart-short c.args.end c.args.runs.now.items (record { from = 0; to = 0 }) c.requires.apart (λ some.
    elim c.then-is_empty.branch [
      | then-is_empty-via-then-is_empty w ↦
          let none = eqb-true _ 0 (sym c.is_empty.ensures ∙ w.if-is_empty.true) in
          absurd (omega (arith, some, none, c.args.runs.now.ok.0))
      | then-is_empty-via-else-is_empty+then-index-end w ↦
          let same = ap (λ (s : Span). s.to) (w.index.ensures
          ∙ get_or_default c.args.runs.now.items 0 w.index.result.now (record { from = 0; to = 0 }) some) in
          omega (arith, same, w.if-index-end.true)
    ])

pub returns-then-is_empty-clause-takes : goal.returns-then-is_empty-clause-takes
returns-then-is_empty-clause-takes g c =
    sym (last-out c.args.end c.args.runs.now.items (omega (arith, c.requires.shows)) (ends g c))

pub returns-then-is_empty-clause-covers : goal.returns-then-is_empty-clause-covers
returns-then-is_empty-clause-covers g c =
    none-spared (characters (g.S.TextStore.content c.args.store.now).cells) c.args.start c.args.end
    c.args.runs.now.items (omega (arith, c.requires.shows)) (ends g c)

pub returns-clause-covers : goal.returns-clause-covers
returns-clause-covers g c =
    let text = characters (g.S.TextStore.content c.args.store.now).cells in
    let runs = c.args.runs.now.items in
    let first = c.index-2.result.now in
    let none = eqb-false _ 0 (sym c.is_empty.ensures ∙ c.if-is_empty.false) in
    let some : 0 < length runs = omega (arith, none, c.args.runs.now.ok.0) in
    let same = ap (λ (s : Span). s.to) (c.index.ensures ∙ get_or_default runs 0 c.index.result.now first some) in
    spared-is text c.args.start c.args.end runs c.spare_last.new.runs.items c.newline_before-joins.result first
    (omega (arith, c.requires.shows)) some c.requires.apart
    (omega (arith, same, c.if-index-end.false))
    (c.newline_before-joins.ensures ∙ ap (λ (s : Span). nat_lt c.args.start s.from
    && is_newline (get_or text (s.from - 1) 0)) c.index-2.ensures)
    (c.spare_last.ensures.covers first)
