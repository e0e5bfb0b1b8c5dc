-- The order of keys, and sets of none.
use Rattle.reports.proofs.Common.{◌≡◌, ℕ, zero, suc, Bool, true, false, List, refl, sym, ap, ◌∙◌, nat_cmp, IsTotalOrder}
use Rattle.reports.proofs.Common.{nat_cmp_total, Key, key_cmp, rank}
use Rattle.std.proofs.lemmas.Map.Lookups.{CmpEqualImpliesEq, exact_pairs, exact_unsigned}
use Rattle.std.specs.FinMap.{nat_cmp-IsAntisymmetric, slice_cmp-IsAntisymmetric}
use Rattle.std.specs.Cmp.Lexicographic.{slice_cmp, nat_list_cmp_total}
use Rattle.std.proofs.lemmas.Cmp.{on_total, then_total}

pub key_cmp_total : IsTotalOrder key_cmp
key_cmp_total = then_total (on_total (λ (key : Key). rank key.selects) nat_cmp_total)
    (on_total (λ (key : Key). key.name) nat_list_cmp_total)

is_above : ℕ → Bool
is_above zero = false
is_above (suc n) = true

back : (b : Bool) → is_above (rank b) ≡ b
unfolding is_above
back true = refl
back false = refl

-- keys that compare alike are one
pub key_cmp_exact : CmpEqualImpliesEq key_cmp
key_cmp_exact a b alike =
    let pairs = exact_pairs nat_cmp (slice_cmp nat_cmp) exact_unsigned
    (slice_cmp-IsAntisymmetric nat_cmp-IsAntisymmetric) (rank a.selects, a.name) (rank b.selects, b.name) alike in
    let selects : a.selects ≡ b.selects = sym (back a.selects) ∙ ap (λ (p : ℕ × List ℕ). is_above p.0) pairs
    ∙ back b.selects in
    let name : a.name ≡ b.name = ap (λ (p : ℕ × List ℕ). p.1) pairs in
    λ i. record { selects = selects i; name = name i }
