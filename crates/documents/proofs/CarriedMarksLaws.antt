-- Marks that are taken along with a text, one by one and change by change.
use Rattle.documents.proofs.Common.{◌≡◌, ℕ, zero, suc, ◌+◌, ◌<◌, ◌≤◌, List, [], ◌∷◌, ◌++◌, None, Some, map, take, drop}
use Rattle.documents.proofs.Common.{length, get_or, set, refl, sym, ap, ◌∙◌, subst, arith, option_map, Option, Place}
use Rattle.documents.proofs.Common.{TextChange, all_carried_within, carried_within, mark_taken, MarkChange}

-- a function is applied to one element more of a list
set-next : {A : Type 0} (f : A → A) (xs : List A) (at : ℕ) (x : A) → at < length xs →
    set (map f (take at xs) ++ drop at xs) at (f (get_or (map f (take at xs) ++ drop at xs) at x))
    ≡ map f (take (suc at) xs) ++ drop (suc at) xs
set-next f [] at x within = absurd (omega arith)
set-next f (y ∷ ys) zero x within = refl
set-next f (y ∷ ys) (suc at) x within = ap (λ rest. f y ∷ rest) (set-next f ys at x (omega (arith, within)))

pub marks-next : (goes : Place → Place) (xs items : List MarkChange) (at : ℕ) (x made : MarkChange) →
    at < length xs → items ≡ map (mark_taken goes) (take at xs) ++ drop at xs
    → made ≡ mark_taken goes (get_or items at x)
    → set items at made ≡ map (mark_taken goes) (take (at + 1) xs) ++ drop (at + 1) xs
marks-next goes xs items at x made within before is =
    let one : suc at ≡ at + 1 = omega arith in
    ap (set items at) is
    ∙ ap (λ (ms : List MarkChange). set ms at (mark_taken goes (get_or ms at x))) before
    ∙ set-next (mark_taken goes) xs at x within
    ∙ ap (λ n. map (mark_taken goes) (take n xs) ++ drop n xs) one

pub option-through : (f g : Place → Place) (found : Option Place) →
    option_map (λ (place : Place). g (f place)) found ≡ option_map g (option_map f found)
option-through f g None = refl
option-through f g (Some place) = refl

pub option-same : (found : Option Place) → option_map (λ (place : Place). place) found ≡ found
option-same None = refl
option-same (Some place) = refl

-- by a change and then by the others
taken-through : (most : ℕ) (change : TextChange) (changes : List TextChange) (marks : List MarkChange) →
    map (mark_taken (all_carried_within most (change ∷ changes))) marks
    ≡ map (mark_taken (all_carried_within most changes)) (map (mark_taken (carried_within most change)) marks)
taken-through most change changes [] = refl
taken-through most change changes (mark ∷ marks) =
    let rest = taken-through most change changes marks in
    let one = option-through (carried_within most change) (all_carried_within most changes) mark.new in
    λ i. record mark { new = one i } ∷ rest i

taken-none : (most : ℕ) (marks : List MarkChange) → map (mark_taken (all_carried_within most [])) marks ≡ marks
taken-none most [] = refl
taken-none most (mark ∷ marks) =
    let rest = taken-none most marks in
    let one = option-same mark.new in
    λ i. record mark { new = one i } ∷ rest i

drop-next : (changes : List TextChange) (at : ℕ) (change : TextChange) → at < length changes →
    change ≡ get_or changes at change → drop at changes ≡ change ∷ drop (at + 1) changes
drop-next changes at change within is =
    subst (λ n. drop at changes ≡ change ∷ drop n changes) (let one : suc at ≡ at + 1 = omega arith in one)
    (by changes at change within is)
  where
    by : (changes : List TextChange) (at : ℕ) (change : TextChange) → at < length changes →
        change ≡ get_or changes at change → drop at changes ≡ change ∷ drop (suc at) changes
    by [] at change within is = absurd (omega arith)
    by (first ∷ changes) zero change within is = ap (λ (c : TextChange). c ∷ changes) (sym is)
    by (first ∷ changes) (suc at) change within is = by changes at change (omega (arith, within)) is

pub changes-next : (most : ℕ) (changes : List TextChange) (at : ℕ) (change : TextChange)
    (start marks more : List MarkChange) → at < length changes → change ≡ get_or changes at change
    → map (mark_taken (all_carried_within most (drop at changes))) marks ≡ start
    → more ≡ map (mark_taken (carried_within most change)) marks
    → map (mark_taken (all_carried_within most (drop (at + 1) changes))) more ≡ start
changes-next most changes at change start marks more within is before after =
    ap (map (mark_taken (all_carried_within most (drop (at + 1) changes)))) after
    ∙ sym (taken-through most change (drop (at + 1) changes) marks)
    ∙ ap (λ (cs : List TextChange). map (mark_taken (all_carried_within most cs)) marks)
    (sym (drop-next changes at change within is))
    ∙ before

pub changes-done : (most : ℕ) (changes : List TextChange) (at : ℕ) (start marks : List MarkChange) →
    length changes ≤ at → map (mark_taken (all_carried_within most (drop at changes))) marks ≡ start → marks ≡ start
changes-done most changes at start marks past before =
    sym (taken-none most marks)
    ∙ ap (λ (cs : List TextChange). map (mark_taken (all_carried_within most cs)) marks) (sym (by changes at past))
    ∙ before
  where
    by : (changes : List TextChange) (at : ℕ) → length changes ≤ at → drop at changes ≡ []
    by [] zero past = refl
    by [] (suc at) past = refl
    by (change ∷ changes) zero past = absurd (omega (arith, past))
    by (change ∷ changes) (suc at) past = by changes at (omega (arith, past))
