use Rattle.line_tree.proofs.Common.{◌≡◌, ℕ, ◌≤◌, ◌<◌, suc, length, refl, sym, ◌∙◌, subst, arith, IsSome}
use Rattle.line_tree.proofs.Common.{slice_get-get_or, IsTree, NodePtr, Records, kids, records, lines_below}
use Rattle.line_tree.proofs.LowestLaws.{lowest-before, lowest-below, lowest-child, one-line}
use Rattle.line_tree.proofs.RowLaws.{child_is}
use Rattle.line_tree.proofs.TreeLaws.{child-tree, named-tree, row-tree}
use Rattle.line_tree.proofs.select.find_at.Goals as goal

-- above the lines
low : (m : Records) (n : ℕ) (p : NodePtr) → n ≤ 0 → IsTree m (suc n) p → IsTree m 1 p
low m n p least tree = let e : suc n ≡ 1 = omega arith in subst (λ h. IsTree m h p) e tree

slot : (m : Records) (p : NodePtr) (k : ℕ) → IsTree m 1 p → k < lines_below m p → k < length (kids m p)
slot m p k tree within = subst (λ n. k < n) (lowest-below m p tree) within

pub find_among-requires-clause-row : goal.find_among-requires-clause-row
find_among-requires-clause-row g c = row-tree (records c.args.store.now) c.args.level c.args.node c.requires.tree

pub child-requires-clause-name : goal.child-requires-clause-name
child-requires-clause-name g c = named-tree (records c.args.store.now) (suc c.args.level) c.args.node c.requires.tree

pub child-requires-clause-index : goal.child-requires-clause-index
child-requires-clause-index g c = let m = records c.args.store.now in let p = c.args.node in
    let tree = low m c.args.level p c.if-level-gt0.false c.requires.tree in
    let less = slot m p c.args.k tree c.requires.within in let few = (row-tree m 0 p tree).few in omega arith

pub unwrap-child-requires : goal.unwrap-child-requires
unwrap-child-requires g c = let m = records c.args.store.now in let p = c.args.node in let k = c.args.k in
    let tree = low m c.args.level p c.if-level-gt0.false c.requires.tree in
    subst (λ o. IsSome o) (sym (child_is m p (row-tree m 0 p tree) c.child.result k c.child.ensures.value
    ∙ slice_get-get_or (kids m p) k p (slot m p k tree c.requires.within))) refl

pub returns : goal.returns
returns g c = let m = records c.args.store.now in let p = c.args.node in let k = c.args.k in
    let tree = low m c.args.level p c.if-level-gt0.false c.requires.tree in
    let here = sym (child_is m p (row-tree m 0 p tree) c.child.result k c.child.ensures.value)
    ∙ c.unwrap-child.ensures in
    let less = slot m p k tree c.requires.within in let before = lowest-before m p k tree (omega arith) in
    let one = c.child.ensures.tick in
    record {
      found = record {
        child = here;
        place = omega arith;
        rest = lowest-child m p k c.unwrap-child.result tree here;
        lines = sym (one-line m c.unwrap-child.result
            (child-tree m 0 (kids m p) k c.unwrap-child.result tree.2 here));
      };
      ticks = omega arith;
    }
