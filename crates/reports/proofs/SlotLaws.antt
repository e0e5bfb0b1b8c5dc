-- Which slot stands for a key.
use Rattle.reports.proofs.Common.{◌≡◌, ◌≢◌, ℕ, ◌<◌, ◌≤◌, Bool, true, false, not, cond, List, ◌++◌, Option, None, Some}
use Rattle.reports.proofs.Common.{filter, map, length, drop, refl, sym, ap, subst, ◌∙◌, true≢false, arith, inl, inr}
use Rattle.reports.proofs.Common.{ne_eqb, option_map, ◌==◌, Contains, list_any, false_from_ne_true, map-append}
use Rattle.reports.proofs.Common.{take-append-drop, Contains-append_cases, Contains-append_left, Contains-append_right}
use Rattle.reports.proofs.Common.{none-some, same_Some, slice_get-map, bytes_eq-Decides, AreNames, Named, Names}
use Rattle.reports.proofs.Common.{Contains-from_stands, stands_from_Contains, stands_map, stood_at, MOST_WIDGETS}
use Rattle.reports.proofs.Common.{AreTags, Tag, Tags, sel, slot_of, known_tags, IsFront, is_same, Key, is_shared}
use Rattle.reports.proofs.Common.{key_named, key_pairs, pair_slots, seat_pair, tag_pair, AreSeats, slice_get}
use Rattle.reports.proofs.Common.{if◌then◌else◌, names_of, AreApart, Stands}
use Rattle.tag_table.specs.Tags.{names_of as tag_names}
use Rattle.reports.proofs.LookupLaws.{filter_stood, looked, looked-filter, looked-front, looked-stands, looked-standing}

-- the number of the seat of a name
abbrev pub seat_number : List ℕ → List Named → Option ℕ
seat_number name seats = looked (λ (seat : Named). seat.name) (λ (seat : Named). seat.number) name seats

-- the slot of a tag other than `sel`
abbrev pub tag_slot : List ℕ → List Tag → Option ℕ
tag_slot name tags = cond (not (is_same name sel)) (slot_of name tags) None

abbrev pub slot_for : List Named → List Tag → Key → Option ℕ
slot_for seats tags key = if key.selects then seat_number key.name seats else tag_slot key.name tags

abbrev key_of : Bool → List ℕ → Key
key_of selects name = record { selects = selects; name = name }

abbrev selection : List ℕ → Key
selection name = key_of true name

abbrev tag_key : List ℕ → Key
tag_key name = key_of false name

-- the names of a list that has room for as many as there may be widgets
pub AreSeats-names : (names : Names) → AreNames names → names.limit ≤ MOST_WIDGETS → AreSeats names.entries
AreSeats-names names sound few = record {
  names_apart = sound.names_apart;
  numbers_apart = sound.numbers_apart;
  below = λ at number is. (let h = sound.below at number is in omega (arith, h, few));
}

-- ---- where a slot for a key stands

abbrev HasSeat : List Named → List ℕ → ℕ → Type 0
HasSeat seats name slot =
    (at : ℕ) × (seat : Named) × (slice_get seats at ≡ Some seat) × (seat.name ≡ name) × (seat.number ≡ slot)

abbrev HasTag : List Tag → List ℕ → ℕ → Type 0
HasTag tags name slot = (at : ℕ) × (tag : Tag) × (slice_get tags at ≡ Some tag) × (tag.name ≡ name) × (tag.slot ≡ slot)

pub seat_stands : (seats : List Named) (name : List ℕ) (slot : ℕ) → seat_number name seats ≡ Some slot →
    HasSeat seats name slot
seat_stands seats name slot is =
    looked-stands (λ (seat : Named). seat.name) (λ (seat : Named). seat.number) name slot seats is

pub tag_stands : (tags : List Tag) (name : List ℕ) (slot : ℕ) → slot_of name tags ≡ Some slot → HasTag tags name slot
tag_stands tags name slot is = looked-stands (λ (tag : Tag). tag.name) (λ (tag : Tag). tag.slot) name slot tags is

pub seat_standing : (seats : List Named) (at : ℕ) (seat : Named) → AreApart (names_of seats) →
    slice_get seats at ≡ Some seat → seat_number seat.name seats ≡ Some seat.number
seat_standing seats at seat apart is =
    looked-standing (λ (s : Named). s.name) (λ (s : Named). s.number) seats at seat apart is

pub slot_standing : (tags : List Tag) (at : ℕ) (tag : Tag) → AreApart (tag_names tags) → slice_get tags at ≡ Some tag →
    slot_of tag.name tags ≡ Some tag.slot
slot_standing tags at tag apart is = looked-standing (λ (t : Tag). t.name) (λ (t : Tag). t.slot) tags at tag apart is

-- where a tag stands, its name has its slot to a widget, or the widget's own
pub known_standing : (tags : List Tag) (at : ℕ) (tag : Tag) (widget : ℕ) → AreApart (tag_names tags) →
    slice_get tags at ≡ Some tag
    → known_tags tags widget tag.name ≡ Some (if tag.slot == 0 then widget else tag.slot)
known_standing tags at tag widget apart is =
    ap (option_map (λ slot. if slot == 0 then widget else slot)) (slot_standing tags at tag apart is)

pub tag_slot-is : (tags : List Tag) (name : List ℕ) (slot : ℕ) → tag_slot name tags ≡ Some slot →
    (is_same name sel ≡ false) × (slot_of name tags ≡ Some slot)
tag_slot-is tags name slot is =
    elim (is_same name sel) as (λ b. is_same name sel ≡ b → cond (not b) (slot_of name tags) None ≡ Some slot →
    (is_same name sel ≡ false) × (slot_of name tags ≡ Some slot)) [
      | true ↦ λ _ never. absurd (none-some slot never)
      | false ↦ λ other there. (other, there)
    ] refl is

pub shared_slot : (tags : List Tag) (name : List ℕ) → slot_of name (filter is_shared tags) ≡ tag_slot name tags
shared_slot tags name =
    looked-filter (λ (tag : Tag). tag.name) (λ (tag : Tag). tag.slot) (λ n. not (is_same n sel)) name tags

abbrev first_of : ℕ × Key → ℕ
first_of pair = pair.0

-- the slot of an element that a list of pairs is made from
among_pairs : {A : Type 0} (f : A → ℕ × Key) (xs : List A) (at : ℕ) (x : A) (slot : ℕ) → slice_get xs at ≡ Some x →
    (f x).0 ≡ slot → Contains (pair_slots (map f xs)) slot
among_pairs f xs at x slot is same =
    Contains-from_stands (pair_slots (map f xs)) slot
    (subst (Stands (pair_slots (map f xs))) same (stands_map first_of (map f xs) (f x) (stands_map f xs x (at, is))))

abbrev Makes : {A : Type 0} → (A → ℕ × Key) → List A → ℕ → Type 0
Makes {A} f xs slot = (at : ℕ) × (x : A) × (slice_get xs at ≡ Some x) × ((f x).0 ≡ slot)

made_pair : {A : Type 0} (f : A → ℕ × Key) (xs : List A) (slot : ℕ) → Contains (pair_slots (map f xs)) slot →
    Makes f xs slot
made_pair f xs slot there =
    let found = stands_from_Contains (pair_slots (map f xs)) slot there in
    let pair = stood_at first_of (map f xs) found.0 slot found.1 in
    let from = stood_at f xs found.0 pair.0 pair.1 in
    (found.0, from.0, from.1, ap first_of from.2 ∙ pair.2)

-- the slot for a key is one of the pairs
pub slot_among : (seats : List Named) (tags : List Tag) (key : Key) (slot : ℕ) → slot_for seats tags key ≡ Some slot →
    Contains (pair_slots (key_pairs seats tags)) slot
slot_among seats tags key slot is =
    let shared = filter is_shared tags in
    let parts = map-append first_of (map seat_pair seats) (map tag_pair shared) in
    subst (λ slots. Contains slots slot) (sym parts)
    (elim key.selects as (λ b. (if b then seat_number key.name seats else tag_slot key.name tags) ≡ Some slot →
    Contains (pair_slots (map seat_pair seats) ++ pair_slots (map tag_pair shared)) slot) [
      | true ↦ λ number.
          let found = seat_stands seats key.name slot number in
          Contains-append_left (pair_slots (map seat_pair seats)) (pair_slots (map tag_pair shared)) slot
          (among_pairs seat_pair seats found.0 found.1 slot found.2 found.4)
      | false ↦ λ there.
          let found = tag_stands shared key.name slot (shared_slot tags key.name ∙ there) in
          Contains-append_right (pair_slots (map seat_pair seats)) (pair_slots (map tag_pair shared)) slot
          (among_pairs tag_pair shared found.0 found.1 slot found.2 found.4)
    ] is)

-- the seats of a document and the table of its tags
module _ (seats : List Named) (table : Tags) (seated : AreSeats seats) (sound : AreTags table) where
  abbrev tags : List Tag
  tags = table.tags

  -- tags of one slot are one
  pub same_slot : (name other : List ℕ) (slot : ℕ) → slot_of name tags ≡ Some slot → slot_of other tags ≡ Some slot →
      name ≡ other
  same_slot name other slot is also =
      let one = tag_stands tags name slot is in
      let two = tag_stands tags other slot also in
      let same = sound.slots_apart one.0 two.0 slot (slice_get-map (λ (tag : Tag). tag.slot) tags one.0
      ∙ ap (option_map (λ (tag : Tag). tag.slot)) one.2 ∙ ap Some one.4)
      (slice_get-map (λ (tag : Tag). tag.slot) tags two.0 ∙ ap (option_map (λ (tag : Tag). tag.slot)) two.2
      ∙ ap Some two.4) in
      sym one.3 ∙ ap (λ (tag : Tag). tag.name) (same_Some one.1 two.1 (sym one.2 ∙ ap (slice_get tags) same ∙ two.2))
      ∙ two.3

  same_seat : (name other : List ℕ) (slot : ℕ) → seat_number name seats ≡ Some slot →
      seat_number other seats ≡ Some slot → name ≡ other
  same_seat name other slot is also =
      let one = seat_stands seats name slot is in
      let two = seat_stands seats other slot also in
      let same = seated.numbers_apart one.0 two.0 slot (slice_get-map (λ (seat : Named). seat.number) seats one.0
      ∙ ap (option_map (λ (seat : Named). seat.number)) one.2 ∙ ap Some one.4)
      (slice_get-map (λ (seat : Named). seat.number) seats two.0 ∙ ap (option_map (λ (seat : Named). seat.number)) two.2
      ∙ ap Some two.4) in
      sym one.3 ∙ ap (λ (seat : Named). seat.name)
      (same_Some one.1 two.1 (sym one.2 ∙ ap (slice_get seats) same ∙ two.2)) ∙ two.3

  -- the slots for selections are low, the others high
  pub number_low : (name : List ℕ) (slot : ℕ) → seat_number name seats ≡ Some slot → slot < MOST_WIDGETS
  number_low name slot is =
      let found = seat_stands seats name slot is in
      seated.below found.0 slot (slice_get-map (λ (seat : Named). seat.number) seats found.0
      ∙ ap (option_map (λ (seat : Named). seat.number)) found.2 ∙ ap Some found.4)

  pub slot_high : (name : List ℕ) (slot : ℕ) → is_same name sel ≡ false → slot_of name tags ≡ Some slot →
      MOST_WIDGETS ≤ slot
  slot_high name slot other is =
      let found = tag_stands tags name slot is in
      let own : slot ≢ 0 = λ none.
      true≢false (sym ((bytes_eq-Decides name sel).1 (same_slot name sel 0 (is ∙ ap Some none) sound.selection))
      ∙ other) in
      (sound.others found.0 slot (slice_get-map (λ (tag : Tag). tag.slot) tags found.0
      ∙ ap (option_map (λ (tag : Tag). tag.slot)) found.2 ∙ ap Some found.4) own).0

  -- the slot 0 alone is that of `sel`
  pub not_selection : (name : List ℕ) (slot : ℕ) → slot_of name tags ≡ Some slot → slot ≢ 0 → is_same name sel ≡ false
  not_selection name slot is own = false_from_ne_true (is_same name sel) (λ same.
      own (same_Some slot 0 (sym is ∙ ap (λ n. slot_of n tags) ((bytes_eq-Decides name sel).0 same)
      ∙ sound.selection)))

  apart_kinds : (name other : List ℕ) (slot : ℕ) → seat_number name seats ≡ Some slot →
      tag_slot other tags ≡ Some slot → ⊥
  apart_kinds name other slot is also =
      let tag = tag_slot-is tags other slot also in
      let low = number_low name slot is in
      let high = slot_high other slot tag.0 tag.1 in
      omega (arith, low, high)

  -- keys of one slot are one
  pub one_key : (key other : Key) (slot : ℕ) → slot_for seats tags key ≡ Some slot →
      slot_for seats tags other ≡ Some slot → key ≡ other
  one_key key other slot is also = by key.selects other.selects is also
    where
      by : (a b : Bool) → slot_for seats tags (key_of a key.name) ≡ Some slot →
          slot_for seats tags (key_of b other.name) ≡ Some slot
          → key_of a key.name ≡ key_of b other.name
      by true true is also = ap selection (same_seat key.name other.name slot is also)
      by true false is also = absurd (apart_kinds key.name other.name slot is also)
      by false true is also = absurd (apart_kinds other.name key.name slot also is)
      by false false is also = ap tag_key (same_slot key.name other.name slot (tag_slot-is tags key.name slot is).1
          (tag_slot-is tags other.name slot also).1)

  -- each slot of the pairs is that for a key
  pub key_for : (slot : ℕ) → Contains (pair_slots (key_pairs seats tags)) slot →
      (key : Key) × (slot_for seats tags key ≡ Some slot)
  key_for slot there =
      let shared = filter is_shared tags in
      let parts = map-append first_of (map seat_pair seats) (map tag_pair shared) in
      elim (Contains-append_cases (pair_slots (map seat_pair seats)) (pair_slots (map tag_pair shared)) slot
      (subst (λ slots. Contains slots slot) parts there)) [
        | inl one ↦
            let found = made_pair seat_pair seats slot one in
            (selection found.1.name, seat_standing seats found.0 found.1 seated.names_apart found.2 ∙ ap Some found.3)
        | inr two ↦
            let found = made_pair tag_pair shared slot two in
            let from = filter_stood is_shared tags found.0 found.1 found.2 in (
              tag_key found.1.name,
              ap (λ b. cond b (slot_of found.1.name tags) None) from.1
                  ∙ slot_standing tags from.0.0 found.1 sound.names_apart from.0.1 ∙ ap Some found.3,
            )
      ]

  -- the slot for the key of a name to a widget is the one that the name has to it
  pub slot_for-named : (at : ℕ) (seat : Named) (name : List ℕ) → slice_get seats at ≡ Some seat →
      slot_for seats tags (key_named seat.name name) ≡ known_tags tags seat.number name
  slot_for-named at seat name is =
      elim (is_same name sel) as (λ b. is_same name sel ≡ b →
      slot_for seats tags (if b then selection seat.name else tag_key name) ≡ known_tags tags seat.number name) [
        | true ↦ λ same.
            seat_standing seats at seat seated.names_apart is
            ∙ sym (ap (option_map (λ slot. if slot == 0 then seat.number else slot))
            (ap (λ n. slot_of n tags) ((bytes_eq-Decides name sel).0 same) ∙ sound.selection))
        | false ↦ λ other. ap (λ b. cond (not b) (slot_of name tags) None) other
            ∙ elim (slot_of name tags) as (λ o. slot_of name tags ≡ o →
            o ≡ option_map (λ slot. if slot == 0 then seat.number else slot) o) [
              | None ↦ λ _. refl
              | Some slot ↦ λ there.
                  let high = slot_high name slot other there in
                  ap (λ b. Some (if b then seat.number else slot)) (sym (ne_eqb slot 0 (omega (arith, high))))
            ] refl
      ] refl

-- ---- more seats, more tags, another order

-- the slots for keys are slots for them among other seats and tags
abbrev pub Extends : List Named → List Tag → List Named → List Tag → Type 0
Extends seats tags more new =
    (key : Key) (slot : ℕ) → slot_for seats tags key ≡ Some slot → slot_for more new key ≡ Some slot

pub Extends-seated : (seats more : List Named) (tags : List Tag) → Extends seats tags (seats ++ more) tags
Extends-seated seats more tags key slot is =
    elim key.selects as (λ b. (if b then seat_number key.name seats else tag_slot key.name tags) ≡ Some slot →
    (if b then seat_number key.name (seats ++ more) else tag_slot key.name tags) ≡ Some slot) [
      | true ↦ λ there. looked-front (λ (seat : Named). seat.name) (λ (seat : Named). seat.number) key.name seats more
          slot there
      | false ↦ λ there. there
    ] is

pub Extends-tags : (seats : List Named) (tags new : List Tag) →
    ((name : List ℕ) (slot : ℕ) → slot_of name tags ≡ Some slot → slot_of name new ≡ Some slot) →
    Extends seats tags seats new
Extends-tags seats tags new same key slot is =
    elim key.selects as (λ b. (if b then seat_number key.name seats else tag_slot key.name tags) ≡ Some slot →
    (if b then seat_number key.name seats else tag_slot key.name new) ≡ Some slot) [
      | true ↦ λ there. there
      | false ↦ λ there.
          let found = tag_slot-is tags key.name slot there in
          ap (λ b. cond (not b) (slot_of key.name new) None) found.0 ∙ same key.name slot found.1
    ] is

pub Extends-front : (seats : List Named) (old new : Tags) → IsFront old new → Extends seats old.tags seats new.tags
Extends-front seats old new front =
    let whole : new.tags ≡ old.tags ++ drop (length old.tags) new.tags = sym
    (take-append-drop (length old.tags) new.tags) ∙ ap (λ ts. ts ++ drop (length old.tags) new.tags) front.tags in
    Extends-tags seats old.tags new.tags (λ name slot is.
    ap (slot_of name) whole ∙ looked-front (λ (tag : Tag). tag.name) (λ (tag : Tag). tag.slot) name old.tags
    (drop (length old.tags) new.tags) slot is)

-- ---- seats and tags that go

abbrev pub is_in : List ℕ → ℕ → Bool
is_in slots slot = list_any (λ other. slot == other) slots

-- some slots are those for the keys that don't stay, and these seats and tags are left without them
pub record GoWith (gone : List ℕ) (stays : Key → Bool) (seats : List Named) (tags : List Tag) (left : List Named)
    (left_tags : List Tag) : Type 0 where
  pub slots : (key : Key) (slot : ℕ) → slot_for seats tags key ≡ Some slot → is_in gone slot ≡ not (stays key)
  pub keys : (key : Key) → slot_for left left_tags key ≡ cond (stays key) (slot_for seats tags key) None
