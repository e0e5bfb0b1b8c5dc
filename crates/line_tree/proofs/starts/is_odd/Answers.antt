use Rattle.line_tree.proofs.Common.{true, ◌≡◌, take, refl, sym, ap, ◌∙◌, arith, nat_cmp, Count, IsBare, lines_in}
use Rattle.line_tree.proofs.Common.{sum_at, records, total, SlotBefore}
use Rattle.line_tree.proofs.BareLaws.{bare-front}
use Rattle.line_tree.proofs.PrefixLaws.{all-lines, some-left}
use Rattle.line_tree.proofs.RowLaws.{lines_is, said, tells}
use Rattle.line_tree.proofs.SearchLaws.{arrives-before}
use Rattle.line_tree.proofs.SlotLaws.{either-none}
use Rattle.line_tree.proofs.TreeLaws.{named-tree, sum-tree, total-lines}
use Rattle.std.specs.FinSet as set
use Rattle.line_tree.proofs.starts.is_odd.Goals as goal

pub lines-lines-requires : goal.lines-lines-requires
lines-lines-requires g c = named-tree (records c.args.store.now) c.args.height c.args.root c.requires.tree

pub is_bare-requires : goal.is_bare-requires
is_bare-requires g c = named-tree (records c.args.store.now) c.args.height c.args.root c.requires.tree

pub returns-then-k-eq0 : goal.returns-then-k-eq0
returns-then-k-eq0 g c =
    let ls = lines_in (records c.args.store.now) c.args.height c.args.root in let slot = c.args.slot.0 in
    sym (ap (λ k. set.contains (total (take k ls)).parity slot) c.if-k-eq0.true ∙ set.contains-empty nat_cmp slot)

pub returns-then-is_bare : goal.returns-then-is_bare
returns-then-is_bare g c = let m = records c.args.store.now in let r = c.args.root in let h = c.args.height in
    let tree = c.requires.tree in
    let bare = tells (λ (s : Count). c.is_bare.result ≡ true → IsBare s) m r (named-tree m h r tree)
    c.is_bare.ensures.yes c.if-is_bare.true in
    sym (ap (λ s. set.contains s c.args.slot.0) (bare-front (lines_in m h r) c.args.k
    (ap (λ (s : Count). s.presence) (sym (sum-tree m h r tree)) ∙ bare.presence))
    ∙ set.contains-empty nat_cmp c.args.slot.0)

pub is_odd-requires-clause-name : goal.is_odd-requires-clause-name
is_odd-requires-clause-name g c = named-tree (records c.args.store.now) c.args.height c.args.root c.requires.tree

pub returns-then-k-lines : goal.returns-then-k-lines
returns-then-k-lines g c = let m = records c.args.store.now in let r = c.args.root in let h = c.args.height in
    let named = named-tree m h r c.requires.tree in let slot = c.args.slot.0 in
    said (λ (s : Count). set.contains s.parity slot) m r _ named c.is_odd.ensures.value
    ∙ ap (λ (s : Count). set.contains s.parity slot) (all-lines m h r c.args.k c.lines-lines.result (sum_at m r)
    c.requires.tree refl (lines_is m r c.lines-lines.result named c.lines-lines.ensures.value) c.if-k-lines.true)

pub descend-requires-clause-size : goal.descend-requires-clause-size
descend-requires-clause-size g c = let m = records c.args.store.now in let r = c.args.root in
    lines_is m r c.lines-lines.result (named-tree m c.args.height r c.requires.tree) c.lines-lines.ensures.value

pub descend-requires-clause-within : goal.descend-requires-clause-within
descend-requires-clause-within g c = let m = records c.args.store.now in let r = c.args.root in
    let h = c.args.height in let count = total-lines (lines_in m h r) in
    let less = some-left m h r c.args.k c.lines-lines.result (sum_at m r) c.requires.tree refl
    (lines_is m r c.lines-lines.result (named-tree m h r c.requires.tree) c.lines-lines.ensures.value)
    c.if-k-lines.false c.requires.within in omega arith

pub returns : goal.returns
returns g c = let m = records c.args.store.now in
    let all = total (take c.args.k (lines_in m c.args.height c.args.root)) in
    ap (λ (a : SlotBefore). a.is_odd) (arrives-before c.descend.ensures.arrives)
    ∙ either-none (set.contains all.parity c.args.slot.0)
