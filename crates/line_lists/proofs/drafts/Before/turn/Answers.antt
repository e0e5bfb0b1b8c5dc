use Rattle.line_lists.proofs.Common.{take, sym, ap, ◌∙◌, differing, differing-empty, count_of}
use Rattle.line_lists.proofs.drafts.Before.turn.Goals as goal

pub returns-then-line-eq0-clause-turned : goal.returns-then-line-eq0-clause-turned
returns-then-line-eq0-clause-turned g c =
    let lines = g.L.LineList.lines c.args.list.now in let slots = c.args.slots.now in
    sym (ap (λ n. differing slots (count_of (take n lines)).parity) c.if-line-eq0.true ∙ differing-empty slots)

pub returns-clause-turned : goal.returns-clause-turned
returns-clause-turned g c =
    let lines = g.L.LineList.lines c.args.list.now in let slots = c.args.slots.now in
    c.flip.ensures
    ∙ ap (differing slots) (c.go_to.ensures.before.tags
    ∙ ap (λ n. (count_of (take n lines)).parity) c.go_to.ensures.line)
