use Rattle.line_tree.proofs.Common.{refl, sym, ◌∙◌, subst, IsSome, slice_get-get_or, kids, records}
use Rattle.line_tree.proofs.RowLaws.{child_is}
use Rattle.line_tree.proofs.insert.lead.Goals as goal

pub unwrap-child-requires : goal.unwrap-child-requires
unwrap-child-requires g c = let m = records c.args.store.now in let cs = kids m c.args.node in
    subst (λ o. IsSome o) (sym (child_is m c.args.node c.requires.row c.child.result 0 c.child.ensures.value
    ∙ slice_get-get_or cs 0 c.args.node c.requires.some)) refl

pub lines-requires : goal.lines-requires
lines-requires g c = let m = records c.args.store.now in
    c.requires.row.each 0 c.unwrap-child.result
    (sym (child_is m c.args.node c.requires.row c.child.result 0 c.child.ensures.value) ∙ c.unwrap-child.ensures)
