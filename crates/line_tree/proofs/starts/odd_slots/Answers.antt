use Rattle.line_tree.proofs.Common.{true, ◌≡◌, take, refl, sym, ap, ◌∙◌, arith, differing, empty-differing, Count}
use Rattle.line_tree.proofs.Common.{IsBare, lines_in, sum_at, records, total, SlotsBefore}
use Rattle.line_tree.proofs.BareLaws.{bare-front}
use Rattle.line_tree.proofs.PrefixLaws.{all-lines, some-left}
use Rattle.line_tree.proofs.RowLaws.{lines_is, said, tells}
use Rattle.line_tree.proofs.SearchLaws.{arrives-before}
use Rattle.line_tree.proofs.TreeLaws.{named-tree, sum-tree, total-lines}
use Rattle.line_tree.proofs.starts.odd_slots.Goals as goal

pub lines-lines-requires : goal.lines-lines-requires
lines-lines-requires g c = named-tree (records c.args.store.now) c.args.height c.args.root c.requires.tree

pub is_bare-requires : goal.is_bare-requires
is_bare-requires g c = named-tree (records c.args.store.now) c.args.height c.args.root c.requires.tree

pub returns-then-is_bare : goal.returns-then-is_bare
returns-then-is_bare g c = let m = records c.args.store.now in let r = c.args.root in let h = c.args.height in
    let tree = c.requires.tree in
    let bare = tells (λ (s : Count). c.is_bare.result ≡ true → IsBare s) m r (named-tree m h r tree)
    c.is_bare.ensures.yes c.if-is_bare.true in
    c.empty.ensures ∙ sym (bare-front (lines_in m h r) c.args.k
    (ap (λ (s : Count). s.presence) (sym (sum-tree m h r tree)) ∙ bare.presence))

pub turn_odd_slots-requires : goal.turn_odd_slots-requires
turn_odd_slots-requires g c = named-tree (records c.args.store.now) c.args.height c.args.root c.requires.tree

pub returns-then-k-lines : goal.returns-then-k-lines
returns-then-k-lines g c = let m = records c.args.store.now in let r = c.args.root in let h = c.args.height in
    let named = named-tree m h r c.requires.tree in
    let odd = said (λ (s : Count). differing c.empty.result s.parity) m r _ named c.turn_odd_slots.ensures.value in
    odd ∙ ap (λ s. differing s (sum_at m r).parity) c.empty.ensures ∙ empty-differing (sum_at m r).parity
    ∙ ap (λ (s : Count). s.parity) (all-lines m h r c.args.k c.lines-lines.result (sum_at m r) c.requires.tree refl
    (lines_is m r c.lines-lines.result named c.lines-lines.ensures.value) c.if-k-lines.true)

pub descend-requires-clause-size : goal.descend-requires-clause-size
descend-requires-clause-size g c = let m = records c.args.store.now in let r = c.args.root in
    lines_is m r c.lines-lines.result (named-tree m c.args.height r c.requires.tree) c.lines-lines.ensures.value

pub descend-requires-clause-within : goal.descend-requires-clause-within
descend-requires-clause-within g c = let m = records c.args.store.now in let r = c.args.root in
    let h = c.args.height in let count = total-lines (lines_in m h r) in
    let less = some-left m h r c.args.k c.lines-lines.result (sum_at m r) c.requires.tree refl
    (lines_is m r c.lines-lines.result (named-tree m h r c.requires.tree) c.lines-lines.ensures.value)
    c.if-k-lines.false c.requires.within in omega arith

pub returns : goal.returns
returns g c = let m = records c.args.store.now in
    let all = total (take c.args.k (lines_in m c.args.height c.args.root)) in
    ap (λ (a : SlotsBefore). a.slots) (arrives-before c.descend.ensures.arrives)
    ∙ ap (λ s. differing s all.parity) c.empty.ensures ∙ empty-differing all.parity
