use Rattle.line_tree.proofs.Common.{sym, ap, ◌∙◌, arith, Count, less, records, sums}
use Rattle.line_tree.proofs.LessLaws.{less-plus}
use Rattle.line_tree.proofs.fill.lessen_sum.Goals as goal

pub lose_counts-requires : goal.lose_counts-requires
lose_counts-requires g c =
    let now = c.requires.sum in
    let lines = ap (λ (s : Count). s.lines) now in let characters = ap (λ (s : Count). s.characters) now in
    let marks = ap (λ (s : Count). s.marks) now in
    let a = c.lines.ensures in let b = c.characters.ensures in let d = c.marks.ensures in
    (omega arith, record { lines = omega arith; characters = omega arith; marks = omega arith })

pub returns-then-is_bare : goal.returns-then-is_bare
returns-then-is_bare g c =
    let bare = c.is_bare.ensures.yes c.if-is_bare.true in
    c.lose_counts.ensures ∙ (λ i. less (c.lines.ensures i) (c.characters.ensures i) (c.marks.ensures i) (sym c.requires.sum i))
    ∙ less-plus (sums (records c.args.store.now) c.args.nodes.now) c.args.gone.now bare
