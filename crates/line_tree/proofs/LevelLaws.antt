-- How many levels a tree of so many lines has at most.
use Rattle.line_tree.proofs.Common.{◌≡◌, ℕ, zero, suc, ◌+◌, ◌-◌, ◌*◌, ◌/◌, ◌^◌, ◌<◌, ◌≤◌, max, inl, inr, ap, subst}
use Rattle.line_tree.proofs.Common.{arith, lit≤, lit<, length, nat_le, pow-le-pow_right, pow-succ', cases_lt}
use Rattle.line_tree.proofs.Common.{cond-false, cond-true, le-leb, lt-leb, NodePtr, Records, lines_in, tree_at, names}
use Rattle.line_tree.proofs.Common.{Stands, levels_up_to}
use Rattle.line_tree.specs.Room.{levels_at_most}
use Rattle.line_tree.proofs.CountLaws.{names-many-root}
use Rattle.line_tree.proofs.FrameLaws.{names-held}
use Rattle.line_tree.proofs.RoomLaws.{len-many}
use Rattle.line_tree.proofs.RootLaws.{stands-few, stands-least}
use Rattle.std.specs.FinMap as finite

-- ---- one step of the count
more-levels : (h n : ℕ) → 2 * 6 ^ suc h ≤ n → levels_up_to (suc h) n ≡ suc (suc h)
more-levels h n many =
    cond-true (nat_le (2 * 6 ^ suc h) n) (suc (suc h)) (levels_up_to h n) (le-leb (2 * 6 ^ suc h) n many)

same-levels : (h n : ℕ) → n < 2 * 6 ^ suc h → levels_up_to (suc h) n ≡ levels_up_to h n
same-levels h n few =
    cond-false (nat_le (2 * 6 ^ suc h) n) (suc (suc h)) (levels_up_to h n) (lt-leb (2 * 6 ^ suc h) n few)

levels-few : (h n : ℕ) → levels_up_to h n ≤ suc h
levels-few zero n = omega arith
levels-few (suc h) n = elim (cases_lt n (2 * 6 ^ suc h)) [
  | inl few ↦ let e = same-levels h n few in let r = levels-few h n in omega arith
  | inr many ↦ let e = more-levels h n many in omega arith
]

-- a height that the law of heights lets stand is counted
levels-hold : (f n h : ℕ) → h ≤ suc f → (2 ≤ h → 2 * 6 ^ (h - 1) ≤ n) → h ≤ levels_up_to f n
levels-hold zero n h low least = omega arith
levels-hold (suc f) n h low least = elim (cases_lt n (2 * 6 ^ suc f)) [
  | inl few ↦ let e = same-levels f n few in elim (cases_lt (suc f) h) [
    | inl high ↦ let top : h - 1 ≡ suc f = omega arith in
        let many = subst (λ k. 2 * 6 ^ k ≤ n) top (least (omega arith)) in absurd (omega arith)
    | inr lower ↦ let r = levels-hold f n h lower least in omega arith
  ]
  | inr many ↦ let e = more-levels f n many in omega arith
]

-- no other is
levels-below : (f n k : ℕ) → n < 2 * 6 ^ suc k → levels_up_to f n ≤ suc k
levels-below zero n k few = omega arith
levels-below (suc f) n k few = elim (cases_lt n (2 * 6 ^ suc f)) [
  | inl fewer ↦ let e = same-levels f n fewer in let r = levels-below f n k few in omega arith
  | inr many ↦ let e = more-levels f n many in elim (cases_lt f k) [
    | inl low ↦ omega arith
    | inr high ↦ let up =
        pow-le-pow_right {n = 6} (lit< tt) {i = suc k} {j = suc f} (omega arith) in absurd (omega arith)
  ]
]

levels-grow : (f a b : ℕ) → a ≤ b → levels_up_to f a ≤ levels_up_to f b
levels-grow zero a b h = omega arith
levels-grow (suc f) a b h = elim (cases_lt b (2 * 6 ^ suc f)) [
  | inl few ↦ let p =
      same-levels f a (omega arith) in let q = same-levels f b few in let r = levels-grow f a b h in omega arith
  | inr many ↦ let p = levels-few (suc f) a in let q = more-levels f b many in omega arith
]

-- ---- 25 at most
pub low-levels : (n : ℕ) → levels_at_most n ≤ 25
unfolding levels_at_most
low-levels n = levels-few 24 n

pub more-lines : (a b : ℕ) → a ≤ b → levels_at_most a ≤ levels_at_most b
unfolding levels_at_most
more-lines a b h = levels-grow 24 a b h

pub low-height : (h n : ℕ) → (2 ≤ h → 2 * 6 ^ (h - 1) ≤ n) → n < 2 ^ 64 → h ≤ 25
low-height h n least few = elim (cases_lt 25 h) [
  | inl high ↦
      let many = least (omega arith) in
      let up = pow-le-pow_right {n = 6} (lit< tt) {i = 25} {j = h - 1} (omega arith) in
      let big : 2 ^ 64 ≤ 2 * 6 ^ 25 = lit≤ tt in absurd (omega arith)
  | inr low ↦ omega arith
]

-- lines that are among so many nodes, and stand below a tree of a height
pub levels-many : (n lines h : ℕ) → (2 ≤ h → 2 * 6 ^ (h - 1) ≤ lines) → lines < 2 ^ 64 → lines ≤ n →
    h ≤ levels_at_most n
unfolding levels_at_most
levels-many n lines h least few within =
    levels-hold 24 n h (low-height h lines least few) (λ two. let l = least two in omega arith)

-- ---- by a logarithm
pub levels-log : (n k : ℕ) → n < 2 ^ 64 → 6 ^ k ≤ max (n / 2) 1 → max (n / 2) 1 < 6 * 6 ^ k → k + 1 ≡ levels_at_most n
unfolding levels_at_most
levels-log n k small low high =
    let p = pow-succ' 6 k in
    let a = levels-below 24 n k (omega arith) in
    let least : 2 ≤ suc k → 2 * 6 ^ (suc k - 1) ≤ n = λ two.
    let some = pow-le-pow_right {n = 6} (lit< tt) {i = 1} {j = k} (omega arith) in
    let e : suc k - 1 ≡ k = omega arith in let q = ap (λ j. 6 ^ j) e in omega arith in
    let b = levels-hold 24 n (suc k) (low-height (suc k) n least small) least in omega arith

-- ---- a tree among so many nodes
pub many-records : (m : Records) (h : ℕ) (r : NodePtr) → Stands m h r → length (lines_in m h r) + 1 ≤ finite.len m
many-records m h r stands = let t = tree_at m h r in
    let n = len-many (names h t) m stands.distinct (names-held m h t stands.tree) in
    let many = names-many-root h t stands.balanced in omega arith

pub levels-held : (m : Records) (h : ℕ) (r : NodePtr) (spares : ℕ) → Stands m h r →
    h ≤ levels_at_most (spares + finite.len m)
unfolding levels_at_most
levels-held m h r spares stands =
    let least = stands-least m h r stands in let many = many-records m h r stands in
    levels-hold 24 (spares + finite.len m) h (low-height h (length (lines_in m h r)) least (stands-few m h r stands))
    (λ two. let l = least two in omega arith)
