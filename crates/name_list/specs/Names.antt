-- Names in an order, each with a number of its own.
use Rattle.std.specs.Prelude.{◌≡◌, ℕ, ◌<◌, ◌≤◌, Option, Some, List, map, length, position, bytes_eq, slice_get}
use Rattle.std.specs.Prelude.{Contains}

pub record Named : Type 0 where
  pub name : List ℕ
  pub number : ℕ

-- the names in their order, and how many there may be
pub record Names : Type 0 where
  pub entries : List Named
  pub limit : ℕ

abbrev pub names_of : List Named → List (List ℕ)
names_of entries = map (λ (entry : Named). entry.name) entries

abbrev pub numbers_of : List Named → List ℕ
numbers_of entries = map (λ (entry : Named). entry.number) entries

-- the place of a name in the order
abbrev pub place_of : List ℕ → List Named → Option ℕ
place_of name entries = position (λ (entry : Named). bytes_eq name entry.name) entries

abbrev pub IsFull : Names → Type 0
IsFull names = names.limit ≤ length names.entries

-- no element stands at two places
abbrev pub AreApart : {A : Type 0} → List A → Type 0
AreApart {A} xs = (i j : ℕ) (x : A) → slice_get xs i ≡ Some x → slice_get xs j ≡ Some x → i ≡ j

-- the least number that isn't among these
pub record IsLeastFree (numbers : List ℕ) (number : ℕ) : Type 0 where
  pub free : ¬ Contains numbers number
  pub below : (k : ℕ) → k < number → Contains numbers k

-- names are distinct, numbers are distinct and below the limit, and there are no more names than that
pub record AreNames (names : Names) : Type 0 where
  pub names_apart : AreApart (names_of names.entries)
  pub numbers_apart : AreApart (numbers_of names.entries)
  pub below : (at number : ℕ) → slice_get (numbers_of names.entries) at ≡ Some number → number < names.limit
  pub room : length names.entries ≤ names.limit
