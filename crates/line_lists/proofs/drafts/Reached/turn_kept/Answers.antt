use Rattle.line_lists.proofs.Common.{◌+◌, take, drop, sym, ap, ◌∙◌, arith, differing, differing-associative}
use Rattle.line_lists.proofs.Common.{differing-empty, count_of, whole, tags_left_of}
use Rattle.line_lists.proofs.CountRows.{count-lines}
use Rattle.line_lists.proofs.DraftLaws.{parity-between}
use Rattle.line_lists.proofs.drafts.Reached.turn_kept.Goals as goal

pub returns-then-count-eq0-clause-turned : goal.returns-then-count-eq0-clause-turned
returns-then-count-eq0-clause-turned g c =
    let lines = g.L.LineList.lines c.args.list.now in
    let slots = c.args.slots.now in
    sym (ap (λ n. differing slots (tags_left_of (whole (take n (drop c.args.self.now.used lines))).columns))
    c.if-count-eq0.true ∙ differing-empty slots)

pub overflow_add-self : goal.overflow_add-self
overflow_add-self g c =
    let lines = g.L.LineList.lines c.args.list.now in
    let few = (g.L.LineList.are_lines c.args.list.now).counted.lines in
    omega (arith, few, count-lines lines, c.requires.there)

pub returns-clause-turned : goal.returns-clause-turned
returns-clause-turned g c =
    let lines = g.L.LineList.lines c.args.list.now in
    let slots = c.args.slots.now in
    let from = c.args.self.now.used in
    let kept = (count_of (take (from + c.args.count) lines)).parity in
    c.turn-2.ensures.turned
    ∙ ap (λ s. differing s kept) c.turn.ensures.turned
    ∙ differing-associative slots (count_of (take from lines)).parity kept
    ∙ ap (differing slots) (parity-between from c.args.count lines)
