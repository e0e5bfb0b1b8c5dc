-- Slots that are taken off all cells with their keys: those of tags that are deleted, and of seats that are given up.
use Rattle.reports.proofs.Common.{◌≡◌, ◌≢◌, ℕ, zero, suc, Bool, true, false, cond, not, ◌<◌, ◌||◌, List, [], ◌∷◌}
use Rattle.reports.proofs.Common.{Option, None, Some, filter, map, refl, sym, ap, ◌∙◌, true≢false, arith, eq-eqb}
use Rattle.reports.proofs.Common.{ne_eqb, option_map, ◌==◌, both_ways, All, cons_option, eqb-false, false_from_ne_true}
use Rattle.reports.proofs.Common.{or_left, or_right, none-some, same_Some, slice_get-map, bytes_eq-Decides, Named}
use Rattle.reports.proofs.Common.{numbers_of, stands_map, stood_at, AreTags, Tag, Tags, sel, slot_of, Cell}
use Rattle.reports.proofs.Common.{MOST_WIDGETS, cell_without, slot_taken, slots_deleted, stays, tags_left, is_among}
use Rattle.reports.proofs.Common.{is_same, AreSeats, HasKnownSlots, Key, key_pairs, keyed, numbers_gone, seats_left}
use Rattle.reports.proofs.Common.{selection_stays, key_stays, without_tags, slice_get, eqb-true, bytes_eq}
use Rattle.reports.proofs.Common.{if◌then◌else◌, Stands}
use Rattle.tag_table.specs.Tags.{names_of as tag_names}
use Rattle.reports.proofs.KeyedLaws.{keyed-left, with_staying}
use Rattle.reports.proofs.KnownLaws.{known-without}
use Rattle.reports.proofs.LookupLaws.{AreApart-filter, filter_stands, filter_stood, looked-filter}
use Rattle.reports.proofs.SlotLaws.{GoWith, is_in, not_selection, number_low, same_slot, seat_stands, slot_for}
use Rattle.reports.proofs.SlotLaws.{slot_high, tag_slot-is}

not_not : (a : Bool) → a ≡ not (not a)
not_not true = refl
not_not false = refl

-- what is left of a list, seen by what a test is about
pub map-filter : {A B : Type 0} (f : A → B) (p : B → Bool) (xs : List A) →
    map f (filter (λ x. p (f x)) xs) ≡ filter p (map f xs)
map-filter f p [] = refl
map-filter f p (x ∷ xs) =
    let rest = filter (λ y. p (f y)) xs in
    elim (p (f x)) as (λ b. map f (cond b (x ∷ rest) rest) ≡ cond b (f x ∷ filter p (map f xs)) (filter p (map f xs))) [
      | true ↦ ap (λ ys. f x ∷ ys) (map-filter f p xs)
      | false ↦ map-filter f p xs
    ]

in_stands : (slots : List ℕ) (slot : ℕ) → is_in slots slot ≡ true → Stands slots slot
in_stands [] slot there = absurd (true≢false (sym there))
in_stands (other ∷ slots) slot there =
    elim (slot == other) as (λ b. (slot == other) ≡ b → (b || is_in slots slot) ≡ true → Stands (other ∷ slots) slot) [
      | true ↦ λ same _. (0, ap Some (sym (eqb-true slot other same)))
      | false ↦ λ _ rest. let found = in_stands slots slot rest in (suc found.0, found.1)
    ] refl there

stands_in : (slots : List ℕ) (at slot : ℕ) → slice_get slots at ≡ Some slot → is_in slots slot ≡ true
stands_in [] at slot is = absurd (none-some slot is)
stands_in (other ∷ slots) zero slot is =
    or_left (slot == other) (is_in slots slot) (eq-eqb slot other (sym (same_Some other slot is)))
stands_in (other ∷ slots) (suc at) slot is = or_right (slot == other) (is_in slots slot) (stands_in slots at slot is)

-- ---- tags that are deleted

-- a slot that goes is that of a tag of one of the names
abbrev GoesWith : List Tag → List (List ℕ) → ℕ → Type 0
GoesWith tags names slot = (name : List ℕ) × (is_among name names ≡ true) × (slot_of name tags ≡ Some slot) × (slot ≢ 0)

goes_with : (tags : List Tag) (names : List (List ℕ)) (slot : ℕ) → is_in (slots_deleted tags names) slot ≡ true →
    GoesWith tags names slot
goes_with tags [] slot there = absurd (true≢false (sym there))
goes_with tags (name ∷ names) slot there =
    let slots = slots_deleted tags names in
    let more : is_in slots slot ≡ true → GoesWith tags (name ∷ names) slot = λ rest.
    let found = goes_with tags names slot rest in
    (found.0, or_right (bytes_eq found.0 name) (is_among found.0 names) found.1, found.2, found.3) in
    elim (slot_of name tags) as (λ o. slot_of name tags ≡ o → is_in (cons_option (slot_taken o) slots) slot ≡ true →
    GoesWith tags (name ∷ names) slot) [
      | None ↦ λ _ rest. more rest
      | Some taken ↦ λ is. elim (taken == 0) as (λ b. (taken == 0) ≡ b →
          is_in (cons_option (if b then None else Some taken) slots) slot ≡ true → GoesWith tags (name ∷ names) slot) [
            | true ↦ λ _ rest. more rest
            | false ↦ λ own. elim (slot == taken) as (λ b. (slot == taken) ≡ b → (b || is_in slots slot) ≡ true →
                GoesWith tags (name ∷ names) slot) [
                  | true ↦ λ same _.
                      let one : slot ≡ taken = eqb-true slot taken same in (
                        name,
                        or_left (bytes_eq name name) (is_among name names) ((bytes_eq-Decides name name).1 refl),
                        is
                            ∙ ap Some (sym one),
                        λ none. eqb-false taken 0 own (sym one ∙ none),
                      )
                  | false ↦ λ _ rest. more rest
                ] refl
          ] refl
    ] refl there

-- the slot of a tag of one of the names goes, unless it is 0
deleted_in : (tags : List Tag) (names : List (List ℕ)) (name : List ℕ) (slot : ℕ) → is_among name names ≡ true →
    slot_of name tags ≡ Some slot → (slot == 0) ≡ false
    → is_in (slots_deleted tags names) slot ≡ true
deleted_in tags [] name slot among is own = absurd (true≢false (sym among))
deleted_in tags (other ∷ names) name slot among is own =
    elim (bytes_eq name other) as (λ b. bytes_eq name other ≡ b → (b || is_among name names) ≡ true →
    is_in (slots_deleted tags (other ∷ names)) slot ≡ true) [
      | true ↦ λ same _.
          let here : slot_taken (slot_of other tags) ≡ Some slot =
          ap (λ n. slot_taken (slot_of n tags)) (sym ((bytes_eq-Decides name other).0 same)) ∙ ap slot_taken is
          ∙ ap (λ b. if b then None else Some slot) own in
          ap (λ o. is_in (cons_option o (slots_deleted tags names)) slot) here
          ∙ ap (λ b. b || is_in (slots_deleted tags names) slot) (eq-eqb slot slot refl)
      | false ↦ λ _ rest. behind (slot_taken (slot_of other tags)) (deleted_in tags names name slot rest is own)
    ] refl among
  where
    behind : (o : Option ℕ) → is_in (slots_deleted tags names) slot ≡ true →
        is_in (cons_option o (slots_deleted tags names)) slot ≡ true
    behind None there = there
    behind (Some taken) there = or_right (slot == taken) (is_in (slots_deleted tags names) slot) there

-- the slot of a name among those that stay
kept_slot : (is_sel named : Bool) (o : Option ℕ) → cond (not is_sel) (cond (is_sel || not named) o None) None
    ≡ cond (not named) (cond (not is_sel) o None) None
kept_slot true true o = refl
kept_slot true false o = refl
kept_slot false named o = refl

pub GoWith-deleted : (seats : List Named) (table : Tags) (names : List (List ℕ)) → AreSeats seats → AreTags table
    → GoWith (slots_deleted table.tags names) (key_stays names) seats table.tags seats (tags_left names table.tags)
GoWith-deleted seats table names seated sound = record {
  slots = λ key slot is. goes key.selects key.name slot is;
  keys = λ key. left key.selects key.name;
}
  where
    left : (selects : Bool) (name : List ℕ)
        → (let key : Key = record { selects = selects; name = name } in
        slot_for seats (tags_left names table.tags) key
        ≡ cond (key_stays names key) (slot_for seats table.tags key) None)
    left true name = refl
    left false name =
        ap (λ o. cond (not (is_same name sel)) o None)
        (looked-filter (λ (tag : Tag). tag.name) (λ (tag : Tag). tag.slot) (stays names) name table.tags)
        ∙ kept_slot (is_same name sel) (is_among name names) (slot_of name table.tags)

    goes : (selects : Bool) (name : List ℕ) (slot : ℕ)
        → (let key : Key = record { selects = selects; name = name } in slot_for seats table.tags key ≡ Some slot →
        is_in (slots_deleted table.tags names) slot ≡ not (key_stays names key))
    goes true name slot is = false_from_ne_true (is_in (slots_deleted table.tags names) slot) (λ there.
        let found = goes_with table.tags names slot there in
        let above = slot_high seats table seated sound found.0 slot (not_selection seats table seated sound found.0 slot found.2
        found.3) found.2 in
        let below = number_low seats table seated sound name slot is in
        omega (arith, above, below))
    goes false name slot is =
        let tag = tag_slot-is table.tags name slot is in
        let above = slot_high seats table seated sound name slot tag.0 tag.1 in
        both_ways (is_in (slots_deleted table.tags names) slot) (is_among name names)
        (λ there. let found = goes_with table.tags names slot there in
        ap (λ n. is_among n names) (same_slot seats table seated sound name found.0 slot tag.1 found.2) ∙ found.1)
        (λ among. deleted_in table.tags names name slot among tag.1 (ne_eqb slot 0 (omega (arith, above))))
        ∙ not_not (is_among name names)

-- the cells after tags are deleted
pub keyed-deleted : (seats : List Named) (table : Tags) (names : List (List ℕ)) (cells : List Cell) → AreSeats seats →
    AreTags table
    → keyed (key_pairs seats (tags_left names table.tags)) (map (cell_without (slots_deleted table.tags names)) cells)
    ≡ map (without_tags names) (keyed (key_pairs seats table.tags) cells)
keyed-deleted seats table names cells seated sound =
    keyed-left (slots_deleted table.tags names) (key_stays names) seats table.tags seats (tags_left names table.tags)
    (GoWith-deleted seats table names seated sound)
    seated.names_apart sound.names_apart seated.names_apart
    (AreApart-filter (λ (tag : Tag). tag.name) (λ (tag : Tag). stays names tag.name) table.tags sound.names_apart)
    cells

pub known-deleted : (seats : List Named) (table : Tags) (names : List (List ℕ)) (cells : List Cell) → AreSeats seats →
    AreTags table → All (HasKnownSlots seats table.tags) cells
    → All (HasKnownSlots seats (tags_left names table.tags)) (map (cell_without (slots_deleted table.tags names)) cells)
known-deleted seats table names cells seated sound known =
    known-without (slots_deleted table.tags names) (key_stays names) seats table seats (tags_left names table.tags)
    (GoWith-deleted seats table names seated sound) seated sound cells known

pub names_left : (names : List (List ℕ)) (tags : List Tag) →
    tag_names (tags_left names tags) ≡ filter (stays names) (tag_names tags)
names_left names tags = map-filter (λ (tag : Tag). tag.name) (stays names) tags

-- ---- seats that are given up

abbrev is_given_up : List (List ℕ) → Named → Bool
is_given_up names seat = is_among seat.name names

number_at : (seats : List Named) (at : ℕ) (seat : Named) → slice_get seats at ≡ Some seat →
    slice_get (numbers_of seats) at ≡ Some seat.number
number_at seats at seat is =
    slice_get-map (λ (s : Named). s.number) seats at ∙ ap (option_map (λ (s : Named). s.number)) is

-- a number that goes is that of a seat of one of the names
number_goes : (seats : List Named) (names : List (List ℕ)) (number : ℕ) → is_in (numbers_gone names seats) number ≡ true
    → (at : ℕ) × (seat : Named) × (slice_get seats at ≡ Some seat) × (seat.number ≡ number)
    × (is_among seat.name names ≡ true)
number_goes seats names number there =
    let gone = filter (is_given_up names) seats in
    let at = in_stands (numbers_of gone) number there in
    let seat = stood_at (λ (s : Named). s.number) gone at.0 number at.1 in
    let from = filter_stood (is_given_up names) seats at.0 seat.0 seat.1 in
    (from.0.0, seat.0, from.0.1, seat.2, from.1)

numbers_go : (seats : List Named) (names : List (List ℕ)) (at : ℕ) (seat : Named) → AreSeats seats →
    slice_get seats at ≡ Some seat → is_in (numbers_gone names seats) seat.number ≡ is_among seat.name names
numbers_go seats names at seat seated is =
    both_ways (is_in (numbers_gone names seats) seat.number) (is_among seat.name names)
    (λ there.
    let found = number_goes seats names seat.number there in
    let same = seated.numbers_apart at found.0 seat.number (number_at seats at seat is)
    (number_at seats found.0 found.1 found.2 ∙ ap Some found.3) in
    let one = same_Some seat found.1 (sym is ∙ ap (slice_get seats) same ∙ found.2) in
    ap (λ (s : Named). is_among s.name names) one ∙ found.4)
    (λ among.
    let left = filter_stands (is_given_up names) seats at seat is among in
    let number = stands_map (λ (s : Named). s.number) (filter (is_given_up names) seats) seat left in
    stands_in (numbers_gone names seats) number.0 seat.number number.1)

-- the slot of a seat that stays is none of those that go, and all of these are widgets' own
pub gone-apart : (seats : List Named) (names : List (List ℕ)) (at : ℕ) (seat : Named) → AreSeats seats →
    slice_get seats at ≡ Some seat → is_among seat.name names ≡ false
    → (k slot : ℕ) → slice_get (numbers_gone names seats) k ≡ Some slot → slot ≢ seat.number
gone-apart seats names at seat seated is stays k slot there same =
    true≢false (sym (stands_in (numbers_gone names seats) k seat.number (there ∙ ap Some same))
    ∙ numbers_go seats names at seat seated is ∙ stays)

pub gone-low : (seats : List Named) (names : List (List ℕ)) (k slot : ℕ) → AreSeats seats →
    slice_get (numbers_gone names seats) k ≡ Some slot → slot < MOST_WIDGETS
gone-low seats names k slot seated there =
    let found = number_goes seats names slot (stands_in (numbers_gone names seats) k slot there) in
    seated.below found.0 slot (number_at seats found.0 found.1 found.2 ∙ ap Some found.3)

pub GoWith-unseated : (seats : List Named) (table : Tags) (names : List (List ℕ)) → AreSeats seats → AreTags table
    → GoWith (numbers_gone names seats) (selection_stays names) seats table.tags (seats_left names seats) table.tags
GoWith-unseated seats table names seated sound = record {
  slots = λ key slot is. goes key.selects key.name slot is;
  keys = λ key. left key.selects key.name;
}
  where
    left : (selects : Bool) (name : List ℕ)
        → (let key : Key = record { selects = selects; name = name } in
        slot_for (seats_left names seats) table.tags key
        ≡ cond (selection_stays names key) (slot_for seats table.tags key) None)
    left true name = looked-filter (λ (seat : Named). seat.name) (λ (seat : Named). seat.number) (λ n.
        not (is_among n names)) name seats
    left false name = refl

    goes : (selects : Bool) (name : List ℕ) (slot : ℕ)
        → (let key : Key = record { selects = selects; name = name } in slot_for seats table.tags key ≡ Some slot →
        is_in (numbers_gone names seats) slot ≡ not (selection_stays names key))
    goes true name slot is =
        let seat = seat_stands seats name slot is in
        ap (is_in (numbers_gone names seats)) (sym seat.4) ∙ numbers_go seats names seat.0 seat.1 seated seat.2
        ∙ ap (λ n. is_among n names) seat.3 ∙ not_not (is_among name names)
    goes false name slot is = false_from_ne_true (is_in (numbers_gone names seats) slot) (λ there.
        let found = number_goes seats names slot there in
        let tag = tag_slot-is table.tags name slot is in
        let above = slot_high seats table seated sound name slot tag.0 tag.1 in
        let below = seated.below found.0 slot (number_at seats found.0 found.1 found.2 ∙ ap Some found.3) in
        omega (arith, above, below))

pub AreSeats-left : (seats : List Named) (names : List (List ℕ)) → AreSeats seats → AreSeats (seats_left names seats)
AreSeats-left seats names seated =
    let stays = λ (seat : Named). not (is_among seat.name names) in
    record {
      names_apart = AreApart-filter (λ (seat : Named). seat.name) stays seats seated.names_apart;
      numbers_apart = AreApart-filter (λ (seat : Named). seat.number) stays seats seated.numbers_apart;
      below = λ at number is.
          let seat = stood_at (λ (s : Named). s.number) (seats_left names seats) at number is in
          let from = filter_stood stays seats at seat.0 seat.1 in
          seated.below from.0.0 number (number_at seats from.0.0 seat.0 from.0.1 ∙ ap Some seat.2);
    }

-- the cells after seats are given up
pub keyed-unseated : (seats : List Named) (table : Tags) (names : List (List ℕ)) (cells : List Cell) → AreSeats seats →
    AreTags table
    → keyed (key_pairs (seats_left names seats) table.tags) (map (cell_without (numbers_gone names seats)) cells)
    ≡ map (with_staying (selection_stays names)) (keyed (key_pairs seats table.tags) cells)
keyed-unseated seats table names cells seated sound =
    keyed-left (numbers_gone names seats) (selection_stays names) seats table.tags (seats_left names seats) table.tags
    (GoWith-unseated seats table names seated sound)
    seated.names_apart sound.names_apart (AreSeats-left seats names seated).names_apart sound.names_apart cells

pub known-unseated : (seats : List Named) (table : Tags) (names : List (List ℕ)) (cells : List Cell) → AreSeats seats →
    AreTags table → All (HasKnownSlots seats table.tags) cells
    → All (HasKnownSlots (seats_left names seats) table.tags) (map (cell_without (numbers_gone names seats)) cells)
known-unseated seats table names cells seated sound known =
    known-without (numbers_gone names seats) (selection_stays names) seats table (seats_left names seats) table.tags
    (GoWith-unseated seats table names seated sound) seated sound cells known
