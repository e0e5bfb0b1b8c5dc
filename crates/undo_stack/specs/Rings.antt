-- How the groups are kept: one row of actions, and the lengths of the groups.
use Rattle.std.specs.Prelude.{◌≡◌, ℕ, ◌<◌, ◌≤◌, Bool, true, List, [], ◌∷◌, length, take, drop, sum, Option}
use Rattle.undo_stack.specs.declared.actions.Action.{Action}
use Rattle.undo_stack.specs.declared.actions.EditKind.{EditKind}
use Rattle.undo_stack.specs.History.{History}
use Rattle.undo_stack.specs.Modified.{Modified}

-- the row in groups of these lengths
abbrev pub grouped : {A : Type 0} → List ℕ → List A → List (List A)
grouped [] xs = []
grouped (n ∷ lengths) xs = take n xs ∷ grouped lengths (drop n xs)

-- the first so many groups, of so many actions, are done, and the others are undone
abbrev pub history_of : List ℕ → List Action → ℕ → ℕ → Bool → Option EditKind → History
history_of lengths actions groups done takes_more last = record {
  groups = grouped (take groups lengths) actions;
  takes_more = takes_more;
  last = last;
  undone = grouped (drop groups lengths) (drop done actions);
}

-- the lengths are those of the whole row, and of its part that is done
pub record AreGroups (lengths : List ℕ) (count groups done : ℕ) (takes_more : Bool) : Type 0 where
  pub within : groups ≤ length lengths
  pub whole : sum lengths ≡ count
  pub part : sum (take groups lengths) ≡ done
  pub some : takes_more ≡ true → 0 < groups

-- all that an undo stack keeps, and for how many actions there is room
pub record Kept : Type 0 where
  pub history : History
  pub modified : Modified
  pub most : ℕ
  pub room : ℕ
