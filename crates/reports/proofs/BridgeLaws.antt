-- The slots of a store and the keys of a world: sets of them.
use Rattle.reports.proofs.Common.{◌≡◌, ℕ, Bool, true, false, cond, not, ◌&&◌, ◌||◌, List, [], ◌∷◌, ◌++◌, Option, None}
use Rattle.reports.proofs.Common.{and_parts, Some, filter, map, refl, sym, ap, ap₂, ◌∙◌, true≢false, eq-eqb, ne_eqb}
use Rattle.reports.proofs.Common.{bytes_eq, if◌then◌else◌, Equal-is, tied_itself, both_ways, nat_cmp_total}
use Rattle.reports.proofs.Common.{unsigned_tied, eq_by_cmp, nat_cmp, list_any, false_from_ne_true, none-some}
use Rattle.reports.proofs.Common.{bytes_eq-Decides, Named, AreTags, Tag, Tags, sel, slot_of, Slots, set_slot}
use Rattle.reports.proofs.Common.{contains-set_slot, without, is_among, is_same, Key, Keys, is_shared, key_cmp}
use Rattle.reports.proofs.Common.{key_pairs, keys_of, seat_pair, set_key, tag_pair, AreKnown, AreSeats, ◌==◌, names_of}
use Rattle.reports.proofs.Common.{AreApart}
use Rattle.tag_table.specs.Tags.{names_of as tag_names}
use Rattle.reports.proofs.KeyLaws.{key_cmp_total, key_cmp_exact}
use Rattle.reports.proofs.LookupLaws.{AreApart-filter, has, looked-among, looked-any, and_none}
use Rattle.reports.proofs.SlotLaws.{Extends, GoWith, is_in, key_for, one_key, seat_number, shared_slot, slot_among}
use Rattle.reports.proofs.SlotLaws.{slot_for, tag_slot, tag_slot-is}
use Rattle.std.specs.FinSet as set

-- ---- keys that are one

pub key_tied : (a b : Key) → eq_by_cmp key_cmp a b ≡ true → a ≡ b
key_tied a b tied = key_cmp_exact a b ((Equal-is (key_cmp a b)).0 tied)

pub key_itself : (a b : Key) → a ≡ b → eq_by_cmp key_cmp a b ≡ true
key_itself a b same =
    ap (λ k. eq_by_cmp key_cmp a k) (sym same) ∙ (Equal-is (key_cmp a a)).1 (tied_itself key_cmp_total a)

tied_names : (key other : Key) → key.selects ≡ other.selects →
    eq_by_cmp key_cmp key other ≡ bytes_eq key.name other.name
tied_names key other kind =
    both_ways (eq_by_cmp key_cmp key other) (bytes_eq key.name other.name)
    (λ tied. (bytes_eq-Decides key.name other.name).1 (ap (λ (k : Key). k.name) (key_tied key other tied)))
    (λ same. key_itself key other (let name = (bytes_eq-Decides key.name other.name).0 same in
    λ i. record { selects = kind i; name = name i }))

tied_kinds : (key other : Key) → (key.selects ≡ other.selects → ⊥) → eq_by_cmp key_cmp key other ≡ false
tied_kinds key other apart = false_from_ne_true (eq_by_cmp key_cmp key other) (λ tied.
    apart (ap (λ (k : Key). k.selects) (key_tied key other tied)))

-- sets of keys are one where they have the same keys
pub keys_same : {keys others : Keys} → ((key : Key) → set.contains keys key ≡ set.contains others key) → keys ≡ others
keys_same {keys} {others} same = set.same_set key_cmp_total key_cmp_exact keys others same

-- ---- the keys of a set of slots

-- with a key, if the set has its slot
abbrev pub with_pair : Bool → Key → Keys → Keys
with_pair known key keys = elim known [ true ↦ set.insert keys key | false ↦ keys ]

pub contains-with_pair : (known : Bool) (key : Key) (keys : Keys) (q : Key) →
    set.contains (with_pair known key keys) q ≡ ((known && eq_by_cmp key_cmp q key) || set.contains keys q)
contains-with_pair true key keys q = set.contains-insert key_cmp_total keys key q
contains-with_pair false key keys q = refl

pub or_either : (a b c : Bool) → (a || (b || c)) ≡ ((a || b) || c)
or_either true b c = refl
or_either false b c = refl

pub or_none : (a : Bool) → (a || false) ≡ a
or_none true = refl
or_none false = refl

keys_of-append : (pairs more : List (ℕ × Key)) (slots : Slots) (key : Key) →
    set.contains (keys_of (pairs ++ more) slots) key
    ≡ (set.contains (keys_of pairs slots) key || set.contains (keys_of more slots) key)
keys_of-append [] more slots key =
    ap (λ b. b || set.contains (keys_of more slots) key) (sym (set.contains-empty key_cmp key))
keys_of-append (pair ∷ pairs) more slots key =
    let tied = set.contains slots pair.0 && eq_by_cmp key_cmp key pair.1 in
    contains-with_pair (set.contains slots pair.0) pair.1 (keys_of (pairs ++ more) slots) key
    ∙ ap (λ b. tied || b) (keys_of-append pairs more slots key)
    ∙ or_either tied (set.contains (keys_of pairs slots) key) (set.contains (keys_of more slots) key)
    ∙ ap (λ b. b || set.contains (keys_of more slots) key)
    (sym (contains-with_pair (set.contains slots pair.0) pair.1 (keys_of pairs slots) key))

-- pairs that are made from a list whose elements have a key where they pass a test
keys_of-map : {A : Type 0} (f : A → ℕ × Key) (key : Key) (test : A → Bool) →
    ((x : A) → eq_by_cmp key_cmp key (f x).1 ≡ test x) → (xs : List A) (slots : Slots)
    → set.contains (keys_of (map f xs) slots) key ≡ list_any (λ x. set.contains slots (f x).0 && test x) xs
keys_of-map f key test same [] slots = set.contains-empty key_cmp key
keys_of-map f key test same (x ∷ xs) slots =
    contains-with_pair (set.contains slots (f x).0) (f x).1 (keys_of (map f xs) slots) key
    ∙ ap₂ (λ b c. (set.contains slots (f x).0 && b) || c) (same x) (keys_of-map f key test same xs slots)

no_key : {A : Type 0} (f : A → ℕ × Key) (slots : Slots) (xs : List A) →
    list_any (λ x. set.contains slots (f x).0 && false) xs ≡ false
no_key f slots [] = refl
no_key f slots (x ∷ xs) = ap₂ (λ b c. b || c) (and_none (set.contains slots (f x).0)) (no_key f slots xs)

-- a key is among the keys of slots where the slot for it is among these
pub keys_of-has : (seats : List Named) (tags : List Tag) (slots : Slots) (key : Key) → AreApart (names_of seats) →
    AreApart (tag_names tags)
    → set.contains (keys_of (key_pairs seats tags) slots) key ≡ has slots (slot_for seats tags key)
keys_of-has seats tags slots key seats_apart tags_apart =
    keys_of-append (map seat_pair seats) (map tag_pair shared) slots key ∙ by key.selects key.name
  where
    shared : List Tag
    shared = filter is_shared tags

    by : (selects : Bool) (name : List ℕ)
        → (set.contains (keys_of (map seat_pair seats) slots) (record { selects = selects; name = name })
        || set.contains (keys_of (map tag_pair (filter is_shared tags)) slots)
        (record { selects = selects; name = name }))
        ≡ has slots (slot_for seats tags (record { selects = selects; name = name }))
    by true name =
        let key : Key = record { selects = true; name = name } in
        ap₂ (λ b c. b || c)
        (keys_of-map seat_pair key (λ seat. bytes_eq name seat.name) (λ seat. tied_names key (seat_pair seat).1 refl)
        seats slots
        ∙ looked-any (λ (seat : Named). seat.name) (λ (seat : Named). seat.number) name seats slots seats_apart)
        (keys_of-map tag_pair key (λ _. false) (λ tag. tied_kinds key (tag_pair tag).1 true≢false)
        (filter is_shared tags) slots ∙ no_key tag_pair slots (filter is_shared tags))
        ∙ or_none (has slots (seat_number name seats))
    by false name =
        let key : Key = record { selects = false; name = name } in
        ap₂ (λ b c. b || c)
        (keys_of-map seat_pair key (λ _. false) (λ seat. tied_kinds key (seat_pair seat).1 (λ e. true≢false (sym e)))
        seats slots ∙ no_key seat_pair slots seats)
        (keys_of-map tag_pair key (λ tag. bytes_eq name tag.name) (λ tag. tied_names key (tag_pair tag).1 refl)
        (filter is_shared tags) slots
        ∙ looked-any (λ (tag : Tag). tag.name) (λ (tag : Tag). tag.slot) name (filter is_shared tags) slots
        (AreApart-filter (λ (tag : Tag). tag.name) is_shared tags tags_apart))
        ∙ ap (has slots) (shared_slot tags name)

-- no slots, no keys
pub keys_of-empty : (pairs : List (ℕ × Key)) → keys_of pairs set.empty ≡ set.empty
keys_of-empty [] = refl
keys_of-empty (pair ∷ pairs) = ap (λ known. with_pair known pair.1 (keys_of pairs set.empty))
    (set.contains-empty nat_cmp pair.0) ∙ keys_of-empty pairs

-- ---- sets of slots that are made from others

has-intersection : (a b : Slots) (slot : Option ℕ) → has (set.intersection a b) slot ≡ (has a slot && has b slot)
has-intersection a b None = refl
has-intersection a b (Some slot) = set.contains-intersection nat_cmp_total a b slot

with_one : (b h : Bool) → (b || h) ≡ cond b true h
with_one true h = refl
with_one false h = refl

without_one : (b h : Bool) → (not b && h) ≡ cond b false h
without_one true h = refl
without_one false h = refl

-- a set of keys with one of them in it, or out of it
pub contains-set_key : (key : Key) (on : Bool) (keys : Keys) (other : Key) →
    set.contains (set_key key on keys) other ≡ cond (eq_by_cmp key_cmp other key) on (set.contains keys other)
contains-set_key key true keys other =
    set.contains-insert key_cmp_total keys key other ∙ with_one (eq_by_cmp key_cmp other key) (set.contains keys other)
contains-set_key key false keys other = set.contains-remove key_cmp_total keys key other
    ∙ without_one (eq_by_cmp key_cmp other key) (set.contains keys other)

-- a seat's selection, or a tag other than `sel`
abbrev pub is_key_of : List Named → List Tag → Key → Bool
is_key_of seats tags key = if key.selects then is_among key.name (names_of seats)
    else is_among key.name (tag_names tags) && not (is_same key.name sel)

-- the seats of a document and the table of its tags
module _ (seats : List Named) (table : Tags) (seated : AreSeats seats) (sound : AreTags table) where
  abbrev pairs : List (ℕ × Key)
  pairs = key_pairs seats table.tags

  has_key : (slots : Slots) (key : Key) → set.contains (keys_of pairs slots) key
      ≡ has slots (slot_for seats table.tags key)
  has_key slots key = keys_of-has seats table.tags slots key seated.names_apart sound.names_apart

  -- the keys of common slots are the common keys
  pub keys_of-intersection : (a b : Slots) → keys_of pairs (set.intersection a b)
      ≡ set.intersection (keys_of pairs a) (keys_of pairs b)
  keys_of-intersection a b =
      keys_same (λ key. has_key (set.intersection a b) key ∙ has-intersection a b (slot_for seats table.tags key)
      ∙ sym (set.contains-intersection key_cmp_total (keys_of pairs a) (keys_of pairs b) key
      ∙ ap₂ (λ x y. x && y) (has_key a key) (has_key b key)))

  -- a slot that is set or taken out does so with its key
  pub keys_of-set_slot : (key : Key) (slot : ℕ) (on : Bool) (slots : Slots) →
      slot_for seats table.tags key ≡ Some slot → keys_of pairs (set_slot slot on slots)
      ≡ set_key key on (keys_of pairs slots)
  keys_of-set_slot key slot on slots is =
      keys_same (λ other. has_key (set_slot slot on slots) other
      ∙ elim (eq_by_cmp key_cmp other key) as (λ b. eq_by_cmp key_cmp other key ≡ b →
      has (set_slot slot on slots) (slot_for seats table.tags other)
      ≡ cond b on (has slots (slot_for seats table.tags other))) [
        | true ↦ λ tied.
            ap (has (set_slot slot on slots)) (ap (slot_for seats table.tags) (key_tied other key tied) ∙ is)
            ∙ contains-set_slot slot on slots slot
            ∙ ap (λ b. cond b on (set.contains slots slot)) (eq-eqb slot slot refl)
        | false ↦ λ apart. elim (slot_for seats table.tags other) as (λ o. slot_for seats table.tags other ≡ o →
            has (set_slot slot on slots) o ≡ has slots o) [
              | None ↦ λ _. refl
              | Some there ↦ λ at.
                  contains-set_slot slot on slots there
                  ∙ ap (λ b. cond b on (set.contains slots there)) (ne_eqb there slot (λ e.
                  true≢false
                  (sym (key_itself other key (one_key seats table seated sound other key slot (at ∙ ap Some e) is))
                  ∙ apart)))
            ] refl
      ] refl
      ∙ sym (contains-set_key key on (keys_of pairs slots) other
      ∙ ap (cond (eq_by_cmp key_cmp other key) on) (has_key slots other)))

  -- a key on a cell is a seat's selection, or a tag other than `sel`
  pub keys_of-belongs : (slots : Slots) (key : Key) → set.contains (keys_of pairs slots) key ≡ true →
      is_key_of seats table.tags key ≡ true
  keys_of-belongs slots key there = by key.selects key.name (sym (has_key slots key) ∙ there)
    where
      slot_had : (o : Option ℕ) → has slots o ≡ true → (slot : ℕ) × (o ≡ Some slot)
      slot_had None there = absurd (true≢false (sym there))
      slot_had (Some slot) there = (slot, refl)

      by : (selects : Bool) (name : List ℕ) →
          has slots (slot_for seats table.tags (record { selects = selects; name = name })) ≡ true →
          is_key_of seats table.tags (record { selects = selects; name = name }) ≡ true
      by true name there =
          let found = slot_had (seat_number name seats) there in
          looked-among (λ (seat : Named). seat.name) (λ (seat : Named). seat.number) name seats found.0 found.1
      by false name there =
          let found = slot_had (tag_slot name table.tags) there in
          let tag = tag_slot-is table.tags name found.0 found.1 in
          ap₂ (λ b c. b && not c) (looked-among (λ (t : Tag). t.name) (λ (t : Tag). t.slot) name table.tags found.0
          tag.1) tag.0

-- ---- other seats and other tags

-- two tables of the same slots give the same keys
pub keys_of-reordered : (seats : List Named) (tags other : List Tag) (slots : Slots) → AreApart (names_of seats) →
    AreApart (tag_names tags) → AreApart (tag_names other)
    → ((name : List ℕ) → slot_of name other ≡ slot_of name tags) →
    keys_of (key_pairs seats other) slots ≡ keys_of (key_pairs seats tags) slots
keys_of-reordered seats tags other slots seats_apart apart other_apart same =
    keys_same (λ key. keys_of-has seats other slots key seats_apart other_apart
    ∙ ap (λ o. has slots (if key.selects then seat_number key.name seats else cond (not (is_same key.name sel)) o None))
    (same key.name)
    ∙ sym (keys_of-has seats tags slots key seats_apart apart))

-- more seats and tags give no other keys to slots that are known
pub keys_of-extended : (seats more : List Named) (table new : Tags) → AreSeats seats → AreTags table → AreSeats more →
    AreTags new → Extends seats table.tags more new.tags
    → (slots : Slots) → AreKnown seats table.tags slots →
    keys_of (key_pairs more new.tags) slots ≡ keys_of (key_pairs seats table.tags) slots
keys_of-extended seats more table new seated sound more_seated new_sound extends slots known =
    let old = slot_for seats table.tags in
    let wider = slot_for more new.tags in
    keys_same (λ key. keys_of-has more new.tags slots key more_seated.names_apart new_sound.names_apart
    ∙ elim (old key) as (λ o. old key ≡ o → has slots (wider key) ≡ has slots o) [
      | Some slot ↦ λ is. ap (has slots) (extends key slot is)
      | None ↦ λ none. elim (wider key) as (λ o. wider key ≡ o → has slots o ≡ false) [
        | None ↦ λ _. refl
        | Some slot ↦ λ is. false_from_ne_true (set.contains slots slot) (λ there.
            let found = key_for seats table seated sound slot (known slot there) in
            let same : key ≡ found.0 = one_key more new more_seated new_sound key found.0 slot is
            (extends found.0 slot found.1) in
            none-some slot (sym none ∙ ap old same ∙ found.1))
      ] refl
    ] refl
    ∙ sym (keys_of-has seats table.tags slots key seated.names_apart sound.names_apart))

-- slots that were known are known among more
pub known-extended : (seats more : List Named) (table : Tags) (new : List Tag) → AreSeats seats → AreTags table →
    Extends seats table.tags more new → (slots : Slots) → AreKnown seats table.tags slots → AreKnown more new slots
known-extended seats more table new seated sound extends slots known slot there =
    let found = key_for seats table seated sound slot (known slot there) in
    slot_among more new found.0 slot (extends found.0 slot found.1)

-- ---- slots that are taken off

one_less : (a c b : Bool) → ((not a && c) && not b) ≡ (c && not (a || b))
one_less true c b = sym (and_none c)
one_less false c b = refl

and_true : (a : Bool) → a ≡ (a && true)
and_true true = refl
and_true false = refl

pub contains-without : (gone : List ℕ) (slots : Slots) (slot : ℕ) →
    set.contains (without gone slots) slot ≡ (set.contains slots slot && not (is_in gone slot))
contains-without [] slots slot = and_true (set.contains slots slot)
contains-without (other ∷ gone) slots slot =
    contains-without gone (set.remove slots other) slot
    ∙ ap (λ b. b && not (is_in gone slot)) (set.contains-remove nat_cmp_total slots other slot
    ∙ ap (λ b. not b && set.contains slots slot) (unsigned_tied slot other))
    ∙ one_less (slot == other) (set.contains slots slot) (is_in gone slot)

-- keys of which those stay that pass
pub retained : (stays : Key → Bool) (keys : Keys) (key : Key) →
    set.contains (set.retain keys stays) key ≡ (set.contains keys key && stays key)
retained stays keys key =
    set.contains-retain keys stays key (λ other tied. ap stays (sym (key_cmp_exact key other tied)))

module _ (gone : List ℕ) (stays : Key → Bool) (seats : List Named) (tags : List Tag) (left : List Named)
    (left_tags : List Tag) (goes : GoWith gone stays seats tags left left_tags) where
  has_left : (slots : Slots) (key : Key) → has (without gone slots) (slot_for left left_tags key)
      ≡ (has slots (slot_for seats tags key) && stays key)
  has_left slots key =
      ap (has (without gone slots)) (goes.keys key)
      ∙ elim (slot_for seats tags key) as (λ o. slot_for seats tags key ≡ o →
      has (without gone slots) (cond (stays key) o None) ≡ (has slots o && stays key)) [
        | None ↦ λ _. elim (stays key) as (λ b. has (without gone slots) (cond b None None)
            ≡ false) [ true ↦ refl | false ↦ refl ]
        | Some slot ↦ λ is. elim (stays key) as (λ b. stays key ≡ b →
            has (without gone slots) (cond b (Some slot) None) ≡ (set.contains slots slot && b)) [
              | true ↦ λ stay. contains-without gone slots slot
                  ∙ ap (λ b. set.contains slots slot && not b) (goes.slots key slot is ∙ ap not stay)
              | false ↦ λ _. sym (and_none (set.contains slots slot))
            ] refl
      ] refl

  -- the keys of what is left are those that stay
  pub keys_of-left : AreApart (names_of seats) → AreApart (tag_names tags) → AreApart (names_of left) →
      AreApart (tag_names left_tags) → (slots : Slots)
      → keys_of (key_pairs left left_tags) (without gone slots)
      ≡ set.retain (keys_of (key_pairs seats tags) slots) stays
  keys_of-left apart tags_apart left_apart left_tags_apart slots =
      keys_same (λ key.
      keys_of-has left left_tags (without gone slots) key left_apart left_tags_apart ∙ has_left slots key
      ∙ sym (retained stays (keys_of (key_pairs seats tags) slots) key
      ∙ ap (λ b. b && stays key) (keys_of-has seats tags slots key apart tags_apart)))

-- slots that were known are known among what is left
pub known-left : (gone : List ℕ) (stays : Key → Bool) (seats : List Named) (table : Tags) (left : List Named)
    (left_tags : List Tag) → GoWith gone stays seats table.tags left left_tags → AreSeats seats → AreTags table
    → (slots : Slots) → AreKnown seats table.tags slots → AreKnown left left_tags (without gone slots)
known-left gone stays seats table left left_tags goes seated sound slots known slot there =
    let parts = and_parts (set.contains slots slot) (not (is_in gone slot)) (sym (contains-without gone slots slot)
    ∙ there) in
    let found = key_for seats table seated sound slot (known slot parts.0) in
    let stay : stays found.0 ≡ true = sym (not_not (stays found.0)) ∙ ap not (sym (goes.slots found.0 slot found.1))
    ∙ parts.1 in
    slot_among left left_tags found.0 slot (goes.keys found.0
    ∙ ap (λ b. cond b (slot_for seats table.tags found.0) None) stay ∙ found.1)
  where
    not_not : (a : Bool) → not (not a) ≡ a
    not_not true = refl
    not_not false = refl
