use Rattle.line_tree.proofs.Common.{◌≡◌, ℕ, ap, sym, ◌∙◌, arith, sum_by, take_all, NodePtr, Records, kids, lines_at}
use Rattle.line_tree.proofs.Common.{records, HasRow, characters_at, characters_below, characters_before}
use Rattle.line_tree.proofs.RowLaws.{size_is}
use Rattle.line_tree.proofs.TreeLaws.{named-row}
use Rattle.line_tree.proofs.climb.characters_ahead.Goals as goal

-- all that the node has is what all its slots have
all-slots : (m : Records) (p : NodePtr) (size : ℕ × ℕ) → HasRow m p → characters_at m p ≡ characters_below m p →
    size ≡ (lines_at m p, characters_at m p) → size.1 ≡ characters_before m p 12
all-slots m p size has whole is = ap (λ (n : ℕ × ℕ). n.1) is ∙ whole
    ∙ sym (ap (sum_by (characters_at m)) (take_all 12 (kids m p) has.few))

pub size-all-requires : goal.size-all-requires
size-all-requires g c = named-row (records c.args.store.now) c.args.node c.requires.row

pub characters_between-requires-2-clause-fits : goal.characters_between-requires-2-clause-fits
characters_between-requires-2-clause-fits g c = let m = records c.args.store.now in let p = c.args.node in
    let has = c.requires.row in
    let all = all-slots m p c.size-all.result has c.requires.whole
    (size_is m p c.size-all.result (named-row m p has) c.size-all.ensures.value) in omega (arith, all)
