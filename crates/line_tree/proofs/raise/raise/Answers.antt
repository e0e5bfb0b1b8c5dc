use Rattle.line_tree.proofs.Common.{◌≡◌, ℕ, ◌+◌, ◌-◌, ◌*◌, ◌<◌, ◌≤◌, inl, inr, List, [], ◌∷◌, ◌++◌, length, take, drop}
use Rattle.line_tree.proofs.Common.{sym, ap, ◌∙◌, subst, arith, length-take, length-drop, cases_lt, length_push}
use Rattle.line_tree.proofs.Common.{take_all, NodePtr, records, CanRaise, Raises}
use Rattle.line_tree.proofs.RaiseLaws.{next-fits, next-there, raises-more, three-parts, two-parts}
use Rattle.line_tree.proofs.raise.raise.Goals as goal

-- how long the next part is
long-part : (xs : List NodePtr) (from count : ℕ) → from + count ≤ length xs →
    length (take count (drop from xs)) ≡ count
long-part xs from count within = omega (arith, length-take count (drop from xs), length-drop from xs, within)

enough : (all from count least : ℕ) → from < all → least ≤ 6 → least ≤ all → (from + 6 ≤ all → 6 ≤ count)
    → (0 < from → from + 6 ≤ all) → (all ≤ from + 12 → all ≤ from + count) → least ≤ count
enough all from count least some six low many left whole = elim (cases_lt 0 from) [
  | inl later ↦ let a = many (left later) in omega arith
  | inr first ↦ elim (cases_lt all (from + 6)) [
    | inl few ↦ let a = whole (omega arith) in omega arith
    | inr more ↦ let a = many more in omega arith
  ]
]

-- how many are made, of what there is so far
step-more : (all from count made : ℕ) → from < all → (all - from ≤ 12 → count ≡ all - from) →
    (from + 12 < all → 12 * made ≤ from) → from + count < all → 12 * (made + 1) < all
step-more all from count made some whole full less = elim (cases_lt (from + 12) all) [
  | inl many ↦ let a = full many in omega arith
  | inr few ↦ let a = whole (omega arith) in omega arith
]

step-full : (all from count made : ℕ) → from < all → (18 ≤ all - from → count ≡ 12) →
    (all - from ≤ 17 → all - from ≤ count + 12) → (from + 12 < all → 12 * made ≤ from) → from + count + 12 < all →
    12 * (made + 1) ≤ from + count
step-full all from count made some twelve halves full less = elim (cases_lt (all - from) 18) [
  | inl few ↦ let a = halves (omega arith) in omega arith
  | inr many ↦ let a = twelve many in let b = full (omega arith) in omega arith
]

pub loop-from-preserved : goal.loop-from-preserved
loop-from-preserved g c =
    let xs = c.args.below.now in let from = c.loop-from.from in let count = c.next_part-count.result in
    let m = records c.args.store.now in let l = records c.loop-from.store in let n = records c.above-node.new.store in
    let test = c.loop-from-test.true in let part = c.next_part-count.ensures in let now = c.loop-from.invariant in
    let part_within = part.within in let part_left = part.left in let part_low = part.low in let part_all = part.all in
    let within : from + count ≤ length xs = omega (arith, test, part_within) in
    let made = ap length c.push_reserved.ensures.items ∙ length_push c.loop-from.row.items c.above-node.result in
    let more = now.more test in
    record {
      within = within;
      raises = λ h can.
          let front = take from xs in let next = take count (drop from xs) in let rest = drop count (drop from xs) in
          let ps = c.loop-from.row.items in let a = c.above-node.result in
          let long = long-part xs from count within in let few = part.few in
          subst (λ zs. Raises m n h (take (from + count) xs) (length xs) zs) (sym c.push_reserved.ensures.items)
          (subst (λ ds. Raises m n h ds (length xs) (ps ++ a ∷ [])) (two-parts xs from count)
          (raises-more m l h front next rest (length xs) ps
          (subst (CanRaise m h) (sym (three-parts xs from count)) can) (now.raises h can) n a c.above-node.ensures.root
          (omega arith) (λ least six low.
          subst (λ j. least ≤ j) (sym long) (enough (length xs) from count least test six low
          (λ six_left. part_low (omega arith)) (λ later. now.left later test) (λ last.
          let e = part_all (omega arith) in omega arith)))));
      more = λ less. let a = step-more (length xs) from count (length c.loop-from.row.items) test part.all now.full less in
          omega arith;
      full = λ less. let a = step-full (length xs) from count (length c.loop-from.row.items) test part.full part.halves
          now.full less in omega arith;
      few = omega arith;
      left = λ later less. let a = part_left (omega arith) in omega arith;
      spares = let s = c.above-node.ensures.spares in let t = now.spares in omega arith;
      rooms = let s = c.above-node.ensures.rooms in let t = now.rooms in omega arith;
      nodes = c.above-node.ensures.nodes ∙ now.nodes;
      names = c.push_reserved.ensures.capacity ∙ now.names;
    }

pub above-node-requires-clause-named : goal.above-node-requires-clause-named
above-node-requires-clause-named g c =
    let xs = c.args.below.now in let from = c.loop-from.from in let count = c.next_part-count.result in
    let m = records c.args.store.now in let h = c.requires.raise.0 in
    next-there m (records c.loop-from.store) h (take from xs) (take count (drop from xs)) (drop count (drop from xs))
    (length xs) c.loop-from.row.items (subst (CanRaise m h) (sym (three-parts xs from count)) c.requires.raise.1)
    (c.loop-from.invariant.raises h c.requires.raise.1)

pub above-node-requires-clause-fits : goal.above-node-requires-clause-fits
above-node-requires-clause-fits g c =
    let xs = c.args.below.now in let from = c.loop-from.from in let count = c.next_part-count.result in
    let m = records c.args.store.now in let h = c.requires.raise.0 in
    next-fits m (records c.loop-from.store) h (take from xs) (take count (drop from xs)) (drop count (drop from xs))
    (length xs) c.loop-from.row.items (subst (CanRaise m h) (sym (three-parts xs from count)) c.requires.raise.1)
    (c.loop-from.invariant.raises h c.requires.raise.1)

pub returns-clause-raises : goal.returns-clause-raises
returns-clause-raises g c h can =
    let xs = c.args.below.now in let m = records c.args.store.now in let l = records c.loop-from.store in
    let within = c.loop-from.invariant.within in let end = c.loop-from-test.false in
    let all : length xs ≤ c.loop-from.from = omega arith in
    subst (λ ds. Raises m l h ds (length xs) c.loop-from.row.items) (take_all c.loop-from.from xs all)
    (c.loop-from.invariant.raises h can)
