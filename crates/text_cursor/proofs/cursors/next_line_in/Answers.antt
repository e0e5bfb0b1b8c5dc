use Rattle.text_cursor.proofs.Common.{◌-◌, ◌≤◌, ap, sym, subst, ◌∙◌, line_start}
use Rattle.text_cursor.proofs.LookLaws.{old-next-in, new-text, first-bound}
use Rattle.text_cursor.proofs.cursors.next_line_in.Goals as goal

pub overflow_sub-result : goal.overflow_sub-result
overflow_sub-result g c =
    let cells = (g.S.TextStore.content c.args.store.now).cells in
    subst (λ n. c.args.part.now.from ≤ n) (sym c.min.ensures)
    (old-next-in cells c.args.fresh.now c.line_behind.result c.in-None.is c.requires c.line_behind.ensures).0

pub returns-in-None-clause-value : goal.returns-in-None-clause-value
returns-in-None-clause-value g c =
    let cells = (g.S.TextStore.content c.args.store.now).cells in
    ap (λ n. n - c.args.part.now.from) c.min.ensures
    ∙ (old-next-in cells c.args.fresh.now c.line_behind.result c.in-None.is c.requires c.line_behind.ensures).1

pub returns-in-Some-clause-value : goal.returns-in-Some-clause-value
returns-in-Some-clause-value g c =
    c.first_newline.ensures
    ∙ ap (line_start 1)
    (sym (new-text c.args.part.now c.in-Some.field-0 (g.S.TextStore.content c.args.store.now).cells c.args.fresh.now
    c.in-Some.is))

pub returns-in-Some-clause-bound : goal.returns-in-Some-clause-bound
returns-in-Some-clause-bound g c =
    let cells = (g.S.TextStore.content c.args.store.now).cells in
    subst (λ n. n ≤ c.args.part.now.to - c.args.part.now.from)
    (sym (c.first_newline.ensures
    ∙ ap (line_start 1) (sym (new-text c.args.part.now c.in-Some.field-0 cells c.args.fresh.now c.in-Some.is))))
    (first-bound cells c.args.fresh.now c.requires)
