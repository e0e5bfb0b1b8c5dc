-- Names among others.
use Rattle.line_tree.proofs.Common.{◌≡◌, ℕ, zero, suc, ◌⊎◌, inl, inr, List, [], ◌∷◌, ◌++◌, take, drop, sym, ap, subst}
use Rattle.line_tree.proofs.Common.{slice_get, Some, insert, take-append-drop, none-some, same_Some, Among, NodePtr}
use Rattle.line_tree.proofs.Common.{same_or_other}

pub among-left : (q : NodePtr) (xs ys : List NodePtr) → Among q xs → Among q (xs ++ ys)
among-left q [] ys a = absurd a
among-left q (x ∷ xs) ys a = elim a [ inl e ↦ inl e | inr b ↦ inr (among-left q xs ys b) ]

pub among-right : (q : NodePtr) (xs ys : List NodePtr) → Among q ys → Among q (xs ++ ys)
among-right q [] ys a = a
among-right q (x ∷ xs) ys a = inr (among-right q xs ys a)

pub among-cases : (q : NodePtr) (xs ys : List NodePtr) → Among q (xs ++ ys) → Among q xs ⊎ Among q ys
among-cases q [] ys a = inr a
among-cases q (x ∷ xs) ys a =
    elim a [ inl e ↦ inl (inl e) | inr b ↦ elim (among-cases q xs ys b) [ inl h ↦ inl (inr h) | inr h ↦ inr h ] ]

pub among-take : (q : NodePtr) (n : ℕ) (xs : List NodePtr) → Among q (take n xs) → Among q xs
among-take q n xs a = subst (Among q) (take-append-drop n xs) (among-left q (take n xs) (drop n xs) a)

pub among-drop : (q : NodePtr) (n : ℕ) (xs : List NodePtr) → Among q (drop n xs) → Among q xs
among-drop q n xs a = subst (Among q) (take-append-drop n xs) (among-right q (take n xs) (drop n xs) a)

pub among-insert : (q : NodePtr) (xs : List NodePtr) (i : ℕ) (y : NodePtr) → Among q (insert xs i y) →
    Among q xs ⊎ (q ≡ y)
among-insert q xs i y a = elim (among-cases q (take i xs) (y ∷ drop i xs) a) [
  | inl h ↦ inl (among-take q i xs h)
  | inr h ↦ elim h [ inl e ↦ inr e | inr b ↦ inl (among-drop q i xs b) ]
]

pub get-among : (xs : List NodePtr) (i : ℕ) (q : NodePtr) → slice_get xs i ≡ Some q → Among q xs
get-among [] i q e = absurd (none-some q e)
get-among (x ∷ xs) zero q e = inl (sym (same_Some x q e))
get-among (x ∷ xs) (suc i) q e = inr (get-among xs i q e)

pub among-get : (q : NodePtr) (xs : List NodePtr) → Among q xs → (i : ℕ) × (slice_get xs i ≡ Some q)
among-get q [] a = absurd a
among-get q (x ∷ xs) a =
    elim a [ inl e ↦ (0, ap (λ y. Some y) (sym e)) | inr b ↦ let r = among-get q xs b in (suc r.0, r.1) ]

pub among-or : (q : NodePtr) (xs : List NodePtr) → Among q xs ⊎ (Among q xs → ⊥)
among-or q [] = inr (λ a. a)
among-or q (x ∷ xs) = elim (same_or_other q x) [
  | inl e ↦ inl (inl e)
  | inr n ↦ elim (among-or q xs) [ inl a ↦ inl (inr a) | inr out ↦ inr (λ a. elim a [ inl e ↦ n e | inr b ↦ out b ]) ]
]
