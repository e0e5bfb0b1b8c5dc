-- How many lines a balanced tree has.
use Rattle.line_tree.proofs.Common.{◌≡◌, ℕ, zero, suc, ◌+◌, ◌*◌, ◌^◌, ◌<◌, ◌≤◌, List, [], ◌∷◌, length, refl, arith}
use Rattle.line_tree.proofs.Common.{length-append, IsSome, Option, None, Some, AllByRecursion, mul-le-mul_right}
use Rattle.line_tree.proofs.Common.{pow-succ', Holds, IsBalanced, IsBalancedRoot, Tree, lines, names, LineContent}
use Rattle.line_tree.proofs.Common.{NodePtr, Records, lines_of, names_of}
use mathlib.Core.Bool.{false≢true}

pub one-line : (p : NodePtr) (o : Option LineContent) → IsSome o → length (lines zero (p, o)) ≡ 1
one-line p None s = absurd (false≢true s)
one-line p (Some l) s = refl

-- each of these trees has so many lines
pub many-lines : (m : Records) (h least : ℕ) → ((t : Tree h) → Holds m h t → IsBalanced h t → least ≤ length (lines h t)) →
    (ts : List (Tree h)) → AllByRecursion (Holds m h) ts → AllByRecursion (IsBalanced h) ts
    → length ts * least ≤ length (lines_of h ts)
many-lines m h least one [] all balanced = omega arith
many-lines m h least one (t ∷ ts) all balanced =
    let here = one t all.0 balanced.0 in let rest = many-lines m h least one ts all.1 balanced.1 in
    let n = length-append (lines h t) (lines_of h ts) in omega arith

pub least-lines : (m : Records) (h : ℕ) (t : Tree h) → Holds m h t → IsBalanced h t → 6 ^ h ≤ length (lines h t)
least-lines m zero t holds balanced = let e = one-line t.0 t.1 holds.some in omega arith
least-lines m (suc h) t holds balanced =
    let all = many-lines m h (6 ^ h) (least-lines m h) t.1 holds.2 balanced.2 in
    let more = mul-le-mul_right (6 ^ h) balanced.0 in let p = pow-succ' 6 h in omega arith

pub least-lines-root : (m : Records) (h : ℕ) (t : Tree (suc (suc h))) → Holds m (suc (suc h)) t →
    IsBalancedRoot (suc (suc h)) t → 2 * 6 ^ suc h ≤ length (lines (suc (suc h)) t)
least-lines-root m h t holds balanced =
    let all = many-lines m (suc h) (6 ^ suc h) (least-lines m (suc h)) t.1 holds.2 balanced.2 in
    let more = mul-le-mul_right (6 ^ suc h) balanced.0 in omega arith

pub pow-more : (h : ℕ) → h < 6 ^ h
pow-more zero = omega arith
pow-more (suc h) = let r = pow-more h in let p = pow-succ' 6 h in omega arith

-- ---- how many records a tree has
names-sum : (m : Records) (h : ℕ) → ((t : Tree h) → Holds m h t → IsBalanced h t →
    5 * length (names h t) + 1 ≤ 6 * length (lines h t)) → (ts : List (Tree h)) → AllByRecursion (Holds m h) ts →
    AllByRecursion (IsBalanced h) ts
    → 5 * length (names_of h ts) + length ts ≤ 6 * length (lines_of h ts)
names-sum m h one [] all balanced = omega arith
names-sum m h one (t ∷ ts) all balanced =
    let here = one t all.0 balanced.0 in let rest = names-sum m h one ts all.1 balanced.1 in
    let a = length-append (names h t) (names_of h ts) in let b = length-append (lines h t) (lines_of h ts) in
    omega arith

pub names-few : (m : Records) (h : ℕ) (t : Tree h) → Holds m h t → IsBalanced h t →
    5 * length (names h t) + 1 ≤ 6 * length (lines h t)
names-few m zero t holds balanced = let e = one-line t.0 t.1 holds.some in omega arith
names-few m (suc h) t holds balanced = let all = names-sum m h (names-few m h) t.1 holds.2 balanced.2 in
    let low = balanced.0 in omega arith

-- so many spares are never needed in all:  a line, and a fifth of a node for each line
pub names-few-root : (m : Records) (h : ℕ) (t : Tree h) → Holds m h t → IsBalancedRoot h t →
    5 * length (names h t) ≤ 6 * length (lines h t) + 4
names-few-root m zero t holds balanced = absurd balanced
names-few-root m (suc zero) t holds balanced = let all = names-sum m 0 (names-few m 0) t.1 holds.2 balanced.2 in
    let low = balanced.0 in omega arith
names-few-root m (suc (suc h)) t holds balanced = let all = names-sum m (suc h) (names-few m (suc h)) t.1 holds.2
    balanced.2 in let low = balanced.0 in omega arith

-- ---- each line has a record, and each other node
one-name : (p : NodePtr) (o : Option LineContent) → length (lines zero (p, o)) ≤ length (names zero (p, o))
one-name p None = omega arith
one-name p (Some l) = omega arith

pub lines-sum : (h : ℕ) → ((t : Tree h) → length (lines h t) ≤ length (names h t)) → (ts : List (Tree h)) →
    length (lines_of h ts) ≤ length (names_of h ts)
lines-sum h one [] = omega arith
lines-sum h one (t ∷ ts) =
    let here = one t in let rest = lines-sum h one ts in
    let a = length-append (names h t) (names_of h ts) in let b = length-append (lines h t) (lines_of h ts) in
    omega arith

pub lines-within : (h : ℕ) (t : Tree h) → length (lines h t) ≤ length (names h t)
lines-within zero t = one-name t.0 t.1
lines-within (suc h) t = let all = lines-sum h (lines-within h) t.1 in omega arith

pub names-many-root : (h : ℕ) (t : Tree h) → IsBalancedRoot h t → length (lines h t) + 1 ≤ length (names h t)
names-many-root zero t balanced = absurd balanced
names-many-root (suc h) t balanced = let all = lines-sum h (lines-within h) t.1 in omega arith
