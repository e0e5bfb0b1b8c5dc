-- The keys of a cell: the names of tags, and `sel` of a widget.
use Rattle.std.specs.Prelude.{ℕ, Bool, true, false, not, ◌&&◌, List, [], ◌∷◌, ◌++◌, map, filter, refl, if◌then◌else◌}
use Rattle.std.specs.FinSet as set
use Rattle.std.specs.Coded.{Coded, code_by, coded×, coded_ℕ, coded_bool, coded_list}
use Rattle.std.specs.declared.cmp.Ordering.{Ordering}
use Rattle.std.specs.Ordering.{nat_cmp, ordering_then}
use Rattle.std.specs.Cmp.Lexicographic.{slice_cmp}
use Rattle.name_list.specs.Names.{Named, numbers_of}
use Rattle.text_model.specs.Content.{Slots}
use Rattle.tag_table.specs.Tags.{Tag, sel}
use Rattle.command_effects.specs.Words.{is_among, is_same}
pub use Rattle.reports.specs.declared.keys.Key.{Key}

abbrev pub rank : Bool → ℕ
rank false = 0
rank true = 1

-- tags before selections, and else by name
abbrev pub key_cmp : Key → Key → Ordering
key_cmp a b = ordering_then (nat_cmp (rank a.selects) (rank b.selects)) (slice_cmp nat_cmp a.name b.name)

abbrev pub key_code : Coded Key
key_code =
    code_by (Bool × List ℕ) (coded× coded_bool (coded_list coded_ℕ)) (λ key. (key.selects, key.name))
    (λ pair. record { selects = pair.0; name = pair.1 }) (λ _. refl)

abbrev pub Keys : Type 0
Keys = set.FinSet key_cmp

-- A store knows a key by a slot: of these pairs of a slot and a key, the keys whose slots are in the set.
abbrev pub keys_of : List (ℕ × Key) → Slots → Keys
keys_of [] slots = set.empty
keys_of (pair ∷ pairs) slots =
    elim (set.contains slots pair.0) [ true ↦ set.insert (keys_of pairs slots) pair.1 | false ↦ keys_of pairs slots ]

-- the key of a tag by its name; of `sel` each widget has its own, by the widget's name
abbrev pub key_named : List ℕ → List ℕ → Key
key_named widget name =
    if is_same name sel then record { selects = true; name = widget } else record { selects = false; name = name }

-- A seat is a widget's name with the slot of its `sel`.
abbrev pub seat_pair : Named → ℕ × Key
seat_pair seat = (seat.number, record { selects = true; name = seat.name })

abbrev pub tag_pair : Tag → ℕ × Key
tag_pair tag = (tag.slot, record { selects = false; name = tag.name })

abbrev pub is_shared : Tag → Bool
is_shared tag = not (is_same tag.name sel)

-- the slots of the seats and of a table of tags, each with its key; `sel` is the seats' alone
abbrev pub key_pairs : List Named → List Tag → List (ℕ × Key)
key_pairs seats tags = map seat_pair seats ++ map tag_pair (filter is_shared tags)

abbrev pub pair_slots : List (ℕ × Key) → List ℕ
pair_slots pairs = map (λ (pair : ℕ × Key). pair.0) pairs

-- the seats without those of some widgets, and the slots of these
abbrev pub seats_left : List (List ℕ) → List Named → List Named
seats_left names seats = filter (λ (seat : Named). not (is_among seat.name names)) seats

abbrev pub numbers_gone : List (List ℕ) → List Named → List ℕ
numbers_gone names seats = numbers_of (filter (λ (seat : Named). is_among seat.name names) seats)

-- a key stays that isn't the selection of one of these widgets
abbrev pub selection_stays : List (List ℕ) → Key → Bool
selection_stays names key = not (key.selects && is_among key.name names)

-- the keys of a tag list
abbrev pub keys_named : List ℕ → List (List ℕ) → Keys
keys_named widget names = set.from_list (map (key_named widget) names)

-- keys with one of them among them, or without it
abbrev pub set_key : Key → Bool → Keys → Keys
set_key key on keys = if on then set.insert keys key else set.remove keys key
