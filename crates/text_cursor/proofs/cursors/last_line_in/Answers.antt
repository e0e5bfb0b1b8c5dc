use Rattle.text_cursor.proofs.Common.{◌-◌, ◌≤◌, ap, sym, subst, ◌∙◌, last_line}
use Rattle.text_cursor.proofs.LookLaws.{old-last-in, new-text, last-bound}
use Rattle.text_cursor.proofs.cursors.last_line_in.Goals as goal

pub returns-in-None-clause-value : goal.returns-in-None-clause-value
returns-in-None-clause-value g c =
    let cells = (g.S.TextStore.content c.args.store.now).cells in
    c.saturating_sub.ensures ∙ ap (λ n. n - c.args.part.now.from) c.line_at.ensures
    ∙ old-last-in cells c.args.fresh.now c.in-None.is c.requires

pub returns-in-None-clause-bound : goal.returns-in-None-clause-bound
returns-in-None-clause-bound g c =
    let cells = (g.S.TextStore.content c.args.store.now).cells in
    subst (λ n. n ≤ c.args.part.now.to - c.args.part.now.from)
    (sym (c.saturating_sub.ensures ∙ ap (λ n. n - c.args.part.now.from) c.line_at.ensures
    ∙ old-last-in cells c.args.fresh.now c.in-None.is c.requires)) (last-bound cells c.args.fresh.now c.requires)

pub returns-in-Some-clause-value : goal.returns-in-Some-clause-value
returns-in-Some-clause-value g c =
    c.last_newline.ensures
    ∙ ap last_line (sym (new-text c.args.part.now c.in-Some.field-0 (g.S.TextStore.content c.args.store.now).cells
    c.args.fresh.now c.in-Some.is))

pub returns-in-Some-clause-bound : goal.returns-in-Some-clause-bound
returns-in-Some-clause-bound g c =
    let cells = (g.S.TextStore.content c.args.store.now).cells in
    subst (λ n. n ≤ c.args.part.now.to - c.args.part.now.from)
    (sym (c.last_newline.ensures
    ∙ ap last_line (sym (new-text c.args.part.now c.in-Some.field-0 cells c.args.fresh.now c.in-Some.is))))
    (last-bound cells c.args.fresh.now c.requires)
