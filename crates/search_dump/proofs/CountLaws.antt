-- What `count` answers needs no quotes in a list.
use Rattle.search_dump.proofs.Common.{◌≡◌, ℕ, ◌<◌, ◌-◌, ◌^◌, ◌∷◌, true, false, nat_lt, decimal, arith, needs_quotes}
use Rattle.search_dump.proofs.Common.{difference, if◌then◌else◌, plain-decimal, plain-negative}

pub plain-difference : (from to : ℕ) → from < 10 ^ 64 → to < 10 ^ 64 → needs_quotes (difference from to) ≡ false
plain-difference from to first second =
    elim (nat_lt to from) as (λ b. needs_quotes (if b then 45 ∷ decimal (from - to) else decimal (to - from)) ≡ false) [
      | true ↦ plain-negative (from - to) (omega (arith, first))
      | false ↦ plain-decimal (to - from) (omega (arith, second))
    ]
