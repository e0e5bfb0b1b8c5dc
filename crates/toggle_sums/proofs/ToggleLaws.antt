-- What lists of toggles add up to.
use Rattle.toggle_sums.proofs.Common.{◌≡◌, ℕ, zero, suc, ◌+◌, ◌%◌, ◌<◌, Bool, true, false, cond, ◌==◌, List, [], ◌∷◌}
use Rattle.toggle_sums.proofs.Common.{◌++◌, length, take, sym, ap, ◌∙◌, arith, add-one, nat_tests, nat_cmp, Slots}
use Rattle.toggle_sums.proofs.Common.{differing, contains-differing, differing-associative, differing-empty, either}
use Rattle.toggle_sums.proofs.Common.{empty-differing, empty-union, union-associative}
use Rattle.std.proofs.lemmas.List.Sums.{sum_by-cons}
use Rattle.std.specs.Prelude.{slice_get, Some}
use Rattle.toggle_sums.specs.Toggles.{parity, presence, tags_from, toggle_count}
use Rattle.std.specs.FinSet as set

pub parity-append : (first second : List Slots) → parity (first ++ second) ≡ differing (parity first) (parity second)
parity-append [] second = sym (empty-differing (parity second))
parity-append (here ∷ first) second =
    ap (differing here) (parity-append first second) ∙ sym (differing-associative here (parity first) (parity second))

pub presence-append : (first second : List Slots) → presence (first ++ second)
    ≡ set.union (presence first) (presence second)
presence-append [] second = sym (empty-union (presence second))
presence-append (here ∷ first) second =
    ap (set.union here) (presence-append first second) ∙ sym (union-associative here (presence first) (presence second))

tags_up_to : (toggles : List Slots) (start : Slots) (at : ℕ) → at < length toggles →
    slice_get (tags_from start toggles) at ≡ Some (differing start (parity (take (suc at) toggles)))
tags_up_to [] start at within = absurd (omega arith)
tags_up_to (here ∷ toggles) start zero within = ap (λ s. Some (differing start s)) (sym (differing-empty here))
tags_up_to (here ∷ toggles) start (suc at) within =
    tags_up_to toggles (differing start here) at (omega arith)
    ∙ ap (λ s. Some s) (differing-associative start here (parity (take (suc at) toggles)))

pub tags_by_parity : (toggles : List Slots) (start : Slots) (at : ℕ) → at < length toggles →
    slice_get (tags_from start toggles) at ≡ Some (differing start (parity (take (at + 1) toggles)))
tags_by_parity toggles start at within =
    tags_up_to toggles start at within ∙ ap (λ n. Some (differing start (parity (take n toggles)))) (sym (add-one at))

one_more : (b : Bool) (n : ℕ) → either b (n % 2 == 1) ≡ ((cond b 1 0 + n) % 2 == 1)
one_more true n = grind (arith, nat_tests)
one_more false n = grind (arith, nat_tests)

toggle_count-cons : (slot : ℕ) (here : Slots) (toggles : List Slots) →
    toggle_count slot (here ∷ toggles) ≡ cond (set.contains here slot) 1 0 + toggle_count slot toggles
toggle_count-cons slot here toggles = sum_by-cons (λ (s : Slots). cond (set.contains s slot) 1 0) here toggles

pub odd_toggles : (toggles : List Slots) (slot : ℕ) → set.contains (parity toggles) slot
    ≡ (toggle_count slot toggles % 2 == 1)
odd_toggles [] slot = set.contains-empty nat_cmp slot
odd_toggles (here ∷ toggles) slot =
    contains-differing here (parity toggles) slot
    ∙ ap (either (set.contains here slot)) (odd_toggles toggles slot)
    ∙ one_more (set.contains here slot) (toggle_count slot toggles)
    ∙ ap (λ n. n % 2 == 1) (sym (toggle_count-cons slot here toggles))
