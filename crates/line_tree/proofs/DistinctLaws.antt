-- Distinct names.
use Rattle.line_tree.proofs.Common.{inl, inr, List, [], ◌∷◌, ◌++◌, refl, subst, Among, Distinct, NodePtr}
use Rattle.line_tree.proofs.AmongLaws.{among-cases, among-left, among-right}

pub distinct-left : (xs ys : List NodePtr) → Distinct (xs ++ ys) → Distinct xs
distinct-left [] ys d = tt
distinct-left (x ∷ xs) ys d = (λ a. d.0 (among-left x xs ys a), distinct-left xs ys d.1)

pub distinct-right : (xs ys : List NodePtr) → Distinct (xs ++ ys) → Distinct ys
distinct-right [] ys d = d
distinct-right (x ∷ xs) ys d = distinct-right xs ys d.1

pub distinct-apart : (xs ys : List NodePtr) → Distinct (xs ++ ys) → (q : NodePtr) → Among q xs → Among q ys → ⊥
distinct-apart [] ys d q a b = a
distinct-apart (x ∷ xs) ys d q a b =
    elim a [ inl e ↦ d.0 (among-right x xs ys (subst (λ z. Among z ys) e b)) | inr c ↦ distinct-apart xs ys d.1 q c b ]

pub distinct-append : (xs ys : List NodePtr) → Distinct xs → Distinct ys →
    ((q : NodePtr) → Among q xs → Among q ys → ⊥) → Distinct (xs ++ ys)
distinct-append [] ys d e apart = e
distinct-append (x ∷ xs) ys d e apart = (
  λ a. elim (among-cases x xs ys a) [ inl b ↦ d.0 b | inr b ↦ apart x (inl refl) b ],
  distinct-append xs ys d.1 e (λ q b c. apart q (inr b) c),
)

-- other names in the middle
pub distinct-replace : (xs old new ys : List NodePtr) → Distinct (xs ++ (old ++ ys)) → Distinct new →
    ((q : NodePtr) → Among q new → Among q xs → ⊥) → ((q : NodePtr) → Among q new → Among q ys → ⊥) →
    Distinct (xs ++ (new ++ ys))
distinct-replace xs old new ys d n left right =
    distinct-append xs (new ++ ys) (distinct-left xs (old ++ ys) d)
    (distinct-append new ys n (distinct-right old ys (distinct-right xs (old ++ ys) d)) right)
    (λ q a b. elim (among-cases q new ys b) [
      | inl c ↦ left q c a
      | inr c ↦ distinct-apart xs (old ++ ys) d q a
          (among-right q old ys c)
    ])

-- new names in the middle
pub distinct-more : (xs new ys : List NodePtr) → Distinct (xs ++ ys) → Distinct new →
    ((q : NodePtr) → Among q new → Among q (xs ++ ys) → ⊥) → Distinct (xs ++ (new ++ ys))
distinct-more xs new ys d n out = distinct-replace xs [] new ys d n (λ q a b. out q a (among-left q xs ys b)) (λ q a b.
    out q a (among-right q xs ys b))
