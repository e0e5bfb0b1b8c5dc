-- The order of tags by priority, from the lowest to the highest: `raise`, `lower`, and `delete`.
use Rattle.std.specs.Prelude.{◌≡◌, ℕ, Bool, true, false, Option, None, Some, List, [], ◌∷◌, ◌++◌, length, bytes_eq}
use Rattle.std.specs.Prelude.{if◌then◌else◌, IfSome, MatchOption}
use Rattle.std.specs.List.{list_any}
use Rattle.name_list.specs.Moves.{without, put_behind, put_before}
use Rattle.tag_table.specs.declared.faults.NoSuchTag.{NoSuchTag}
use Rattle.tag_table.specs.declared.faults.NoSuchTag.TheVariants.{Moved, Neighbour}
use Rattle.tag_table.specs.Tags.{Tag, sel, is_named, names_of, slot_of}

-- the names in another order, by the name that moves and the one next to which it goes
abbrev pub Order : Type 0
Order = List (List ℕ) → List ℕ → Option (List ℕ) → List (List ℕ)

-- the names with one highest, or just above another; against itself it stays where it is
abbrev pub raised : List (List ℕ) → List ℕ → Option (List ℕ) → List (List ℕ)
raised names name None = without (bytes_eq name) names ++ name ∷ []
raised names name (Some other) =
    if bytes_eq name other then names else put_behind (bytes_eq other) name (without (bytes_eq name) names)

-- the names with one lowest, or just below another; against itself it stays where it is
abbrev pub lowered : List (List ℕ) → List ℕ → Option (List ℕ) → List (List ℕ)
lowered names name None = name ∷ without (bytes_eq name) names
lowered names name (Some other) =
    if bytes_eq name other then names else put_before (bytes_eq other) name (without (bytes_eq name) names)

abbrev pub is_tag : List ℕ → List Tag → Bool
is_tag name tags = list_any (bytes_eq name) (names_of tags)

-- the names are known, and the tags are in the new order, each with its slot
pub record IsOrdered (order : Order) (name : List ℕ) (other : Option (List ℕ)) (old new : List Tag) : Type 0 where
  pub known : is_tag name old ≡ true
  pub neighbour : IfSome other (λ o. is_tag o old ≡ true)
  pub names : names_of new ≡ order (names_of old) name other
  pub slots : (n : List ℕ) → slot_of n new ≡ slot_of n old
  pub many : length new ≡ length old

-- which of the names isn't known
abbrev pub IsUnknown : List ℕ → Option (List ℕ) → List Tag → NoSuchTag → Type 0
IsUnknown name other tags Moved = is_tag name tags ≡ false
IsUnknown name other tags Neighbour = (is_tag name tags ≡ true) × MatchOption other ⊥ (λ o. is_tag o tags ≡ false)

-- the tags without one; `sel` stays
abbrev pub deleted : List ℕ → List Tag → List Tag
deleted name tags = if bytes_eq name sel then tags else without (is_named name) tags
