use Rattle.line_lists.proofs.Common.{◌≡◌, ◌+◌, ◌-◌, ◌∙◌, ap, sym, arith, take, differing, tags_left_of, differing-empty}
use Rattle.line_lists.proofs.line_changes.slots_before.Goals as goal

pub returns-then-column-gt0 : goal.returns-then-column-gt0
returns-then-column-gt0 c =
    let next : (c.args.column - 1) + 1 ≡ c.args.column = omega (arith, c.if-column-gt0.true) in
    c.turn_tags_before.ensures
    ∙ ap (λ n. differing c.args.tags.now (tags_left_of (take n c.args.line.now.columns))) next

pub returns-else-column-gt0 : goal.returns-else-column-gt0
returns-else-column-gt0 c =
    let none : c.args.column ≡ 0 = omega (arith, c.if-column-gt0.false) in
    sym (ap (λ n. differing c.args.tags.now (tags_left_of (take n c.args.line.now.columns))) none
    ∙ differing-empty c.args.tags.now)
