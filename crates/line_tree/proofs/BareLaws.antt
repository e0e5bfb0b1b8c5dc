-- Lines in which no slot is toggled: none is before any of them.
use Rattle.line_tree.proofs.Common.{◌≡◌, ℕ, zero, suc, List, [], ◌∷◌, take, refl, Named, total, toggles}
use Rattle.toggle_sums.specs.Toggles.{parity, presence}
use Rattle.line_lists.proofs.BareLaws.{both-none, none-first, none-odd, none-second}
use Rattle.std.specs.FinSet as set

-- where no slot is toggled in any line, none is toggled an odd number of times in the first ones
pub bare-front : (ls : List Named) (k : ℕ) → (total ls).presence ≡ set.empty → (total (take k ls)).parity ≡ set.empty
bare-front ls zero none = refl
bare-front [] (suc k) none = refl
bare-front (l ∷ ls) (suc k) none =
    let here = toggles l.1.columns in
    both-none (parity here) (total (take k ls)).parity (none-odd here (none-first (presence here) (total ls).presence none))
    (bare-front ls k (none-second (presence here) (total ls).presence none))
