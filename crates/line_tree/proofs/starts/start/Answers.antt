use Rattle.line_tree.proofs.Common.{ℕ, refl, ap, ◌∙◌, Count, records, sum_at}
use Rattle.line_tree.proofs.PrefixLaws.{all-lines, some-left}
use Rattle.line_tree.proofs.RowLaws.{size_is}
use Rattle.line_tree.proofs.TreeLaws.{named-tree}
use Rattle.line_tree.proofs.starts.start.Goals as goal

pub size-lines-requires : goal.size-lines-requires
size-lines-requires g c = named-tree (records c.args.store.now) c.args.height c.args.root c.requires.tree

pub returns-then-k-lines : goal.returns-then-k-lines
returns-then-k-lines g c = let m = records c.args.store.now in let r = c.args.root in let h = c.args.height in
    let size = size_is m r c.size-lines.result (named-tree m h r c.requires.tree) c.size-lines.ensures.value in
    ap (λ (n : ℕ × ℕ). n.1) size
    ∙ ap (λ (s : Count). s.characters) (all-lines m h r c.args.k c.size-lines.result.0 (sum_at m r) c.requires.tree refl
    (ap (λ (n : ℕ × ℕ). n.0) size) c.if-k-lines.true)

pub place-requires-clause-size : goal.place-requires-clause-size
place-requires-clause-size g c = let m = records c.args.store.now in let r = c.args.root in
    size_is m r c.size-lines.result (named-tree m c.args.height r c.requires.tree) c.size-lines.ensures.value

pub place-requires-clause-within : goal.place-requires-clause-within
place-requires-clause-within g c = let m = records c.args.store.now in let r = c.args.root in
    let h = c.args.height in
    let size = size_is m r c.size-lines.result (named-tree m h r c.requires.tree) c.size-lines.ensures.value in
    some-left m h r c.args.k c.size-lines.result.0 (sum_at m r) c.requires.tree refl
    (ap (λ (n : ℕ × ℕ). n.0) size) c.if-k-lines.false c.requires.within
