use Rattle.line_tree.proofs.Common.{◌+◌, sym, ap, ◌∙◌, subst, IsSome, names, records, tree_at, Without}
use Rattle.line_tree.proofs.GivingLaws.{no-line, node-room, without-node}
use Rattle.line_tree.proofs.LowestLaws.{lowest-below}
use Rattle.line_tree.proofs.RowLaws.{lines_is}
use Rattle.line_tree.proofs.TreeLaws.{count-tree, named-tree, whole-below}
use Rattle.line_tree.proofs.branches.give_back_all.Goals as goal

pub lines-lines-requires : goal.lines-lines-requires
lines-lines-requires g c = named-tree (records c.args.store.now) 1 c.args.node c.requires.tree

pub give_back_lines-requires-clause-all : goal.give_back_lines-requires-clause-all
give_back_lines-requires-clause-all g c = let m = records c.args.store.now in let p = c.args.node in
    let tree = c.requires.tree in
    lines_is m p c.lines-lines.result (named-tree m 1 p tree) c.lines-lines.ensures.value ∙ whole-below m 0 p tree
    ∙ lowest-below m p tree

pub let_go-requires : goal.let_go-requires
let_go-requires g c = let m = records c.args.store.now in let p = c.args.node in
    subst (λ o. IsSome o) (sym (c.give_back_lines.ensures.without.other p (no-line m p c.requires.tree)))
    (named-tree m 1 p c.requires.tree)

pub returns-clause-lines : goal.returns-clause-lines
returns-clause-lines g c = let m = records c.args.store.now in let p = c.args.node in let tree = c.requires.tree in
    lines_is m p c.lines-lines.result (named-tree m 1 p tree) c.lines-lines.ensures.value ∙ count-tree m 1 p tree

pub returns-clause-without : goal.returns-clause-without
returns-clause-without g c = let m = records c.args.store.now in let p = c.args.node in
    subst (λ v. Without m v (names 1 (tree_at m 1 p))) (sym c.let_go.ensures.records)
    (without-node m (records c.give_back_lines.new.store) p c.give_back_lines.ensures.without)

pub returns-clause-rooms : goal.returns-clause-rooms
returns-clause-rooms g c = node-room (records c.args.store.now) (records c.give_back_lines.new.store) c.args.node _ _
    c.requires.tree c.give_back_lines.ensures.without c.let_go.ensures.rooms
    ∙ ap (λ n. n + 1) c.give_back_lines.ensures.rooms
