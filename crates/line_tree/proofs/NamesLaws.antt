-- The names of a tree's lines are distinct.
use Rattle.line_tree.proofs.Common.{ℕ, zero, suc, inl, inr, List, [], ◌∷◌, sym, subst, Option, None, Some, map-append}
use Rattle.line_tree.proofs.Common.{Among, Distinct, LineContent, Named, Tree, lines, names, NodePtr, lines_of}
use Rattle.line_tree.proofs.Common.{names_of, line_names}
use Rattle.line_tree.proofs.AmongLaws.{among-cases, among-left, among-right}
use Rattle.line_tree.proofs.DistinctLaws.{distinct-apart, distinct-append, distinct-left, distinct-right}

lines-among : (h : ℕ) → ((t : Tree h) (q : NodePtr) → Among q (line_names (lines h t)) → Among q (names h t)) →
    (ts : List (Tree h)) (q : NodePtr) → Among q (line_names (lines_of h ts)) → Among q (names_of h ts)
lines-among h one [] q a = a
lines-among h one (t ∷ ts) q a =
    elim (among-cases q (line_names (lines h t)) (line_names (lines_of h ts))
    (subst (Among q) (map-append (λ (l : Named). l.0) (lines h t) (lines_of h ts)) a)) [
      | inl b ↦ among-left q (names h t) (names_of h ts) (one t q b)
      | inr b ↦ among-right q (names h t) (names_of h ts) (lines-among h one ts q b)
    ]

line-among : (h : ℕ) (t : Tree h) (q : NodePtr) → Among q (line_names (lines h t)) → Among q (names h t)
line-among zero t q a = one t.1 a where
  one : (o : Option LineContent) → Among q (line_names (lines zero (t.0, o))) → Among q (t.0 ∷ [])
  one None a = absurd a
  one (Some l) a = a
line-among (suc h) t q a = inr (lines-among h (line-among h) t.1 q a)

lines-distinct : (h : ℕ) → ((t : Tree h) → Distinct (names h t) → Distinct (line_names (lines h t))) →
    (ts : List (Tree h)) → Distinct (names_of h ts) → Distinct (line_names (lines_of h ts))
lines-distinct h one [] d = tt
lines-distinct h one (t ∷ ts) d =
    subst Distinct (sym (map-append (λ (l : Named). l.0) (lines h t) (lines_of h ts)))
    (distinct-append (line_names (lines h t)) (line_names (lines_of h ts))
    (one t (distinct-left (names h t) (names_of h ts) d))
    (lines-distinct h one ts (distinct-right (names h t) (names_of h ts) d))
    (λ q a b. distinct-apart (names h t) (names_of h ts) d q (line-among h t q a)
    (lines-among h (line-among h) ts q b)))

pub line-distinct : (h : ℕ) (t : Tree h) → Distinct (names h t) → Distinct (line_names (lines h t))
line-distinct zero t d = one t.1 where
  one : (o : Option LineContent) → Distinct (line_names (lines zero (t.0, o)))
  one None = tt
  one (Some l) = ((λ a. a), tt)
line-distinct (suc h) t d = lines-distinct h (line-distinct h) t.1 d.1
