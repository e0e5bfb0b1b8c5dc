-- One count of so many.
use Rattle.undo_stack.proofs.Common.{◌≡◌, ℕ, suc, ◌-◌, ◌+◌, ◌<◌, ap, arith, Modified, times}

pub times-left : (n i : ℕ) (count : Modified → Modified) (modified : Modified) → i < n →
    times (n - i) count modified ≡ times (n - (i + 1)) count (count modified)
times-left n i count modified below =
    ap (λ k. times k count modified) (let e : n - i ≡ suc (n - (i + 1)) = omega arith in e)
