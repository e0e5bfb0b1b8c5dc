-- The toggles of a column among the entries of a line.
use Rattle.segments.proofs.Common.{◌≡◌, ℕ, zero, suc, ◌+◌, ◌*◌, ◌/◌, ◌<◌, ◌≤◌, ◌≢◌, ◌⊎◌, nat_le, nat_lt, not, ◌&&◌}
use Rattle.segments.proofs.Common.{Bool, true, false, ◌==◌, List, [], ◌∷◌, ◌++◌, length, take, drop, get_or, set, inl}
use Rattle.segments.proofs.Common.{inr, refl, sym, ap, ap₂, subst, ◌∙◌, arith, take-append-drop, if◌then◌else◌}
use Rattle.segments.proofs.Common.{drop-cons, cases_eq, false≢true, nat_tests, set_split, nat_cmp, Slots, IsOneWord}
use Rattle.segments.proofs.Common.{word_index, differing, WORDS, word_of, contains-differing, differing-associative}
use Rattle.segments.proofs.Common.{differing-commutative, differing-empty, either, empty-differing, same_slots, Toggled}
use Rattle.segments.proofs.Common.{HasOneWord, LieIn, RiseIn, flipped, place_of, slots_cleared, toggled_at}
use Rattle.std.specs.List.Retain.{RetainsInTurn}
use Rattle.text_model.proofs.OneWordSteps.{contains-removed}
use Rattle.segments.proofs.ChangeLaws.{slots_kept}
use Rattle.segments.proofs.EntryLaws.{RiseIn-low, apart_from, met, passed, slot_below}
use Rattle.std.specs.FinSet as finset

-- the slots of joined entries are those of both
joined_test : (test : Bool) (slots front behind : Slots) →
    (if test then differing slots (differing front behind) else differing front behind)
    ≡ differing (if test then differing slots front else front) behind
joined_test true slots front behind = sym (differing-associative slots front behind)
joined_test false slots front behind = refl

pub toggled-append : (front behind : List Toggled) (at : ℕ) →
    toggled_at (front ++ behind) at ≡ differing (toggled_at front at) (toggled_at behind at)
toggled-append [] behind at = sym (empty-differing (toggled_at behind at))
toggled-append (entry ∷ front) behind at =
    ap (λ slots. if entry.column == at then differing entry.slots slots else slots) (toggled-append front behind at)
    ∙ joined_test (entry.column == at) entry.slots (toggled_at front at) (toggled_at behind at)

pub RiseIn-append : (from middle to : ℕ) (front behind : List Toggled) → RiseIn from middle front →
    RiseIn middle to behind → from ≤ middle → middle ≤ to → RiseIn from to (front ++ behind)
RiseIn-append from middle to [] behind first second low high = RiseIn-low middle from to behind second low
RiseIn-append from middle to (entry ∷ front) behind first second low high = (
  first.0,
  omega (arith, first.1),
  first.2,
  RiseIn-append (suc (place_of entry)) middle to front behind first.3 second (omega (arith, first.1)) high,
)

pub LieIn-append : (from middle to : ℕ) (front behind : List Toggled) → LieIn from middle front →
    LieIn middle to behind → from ≤ middle → middle ≤ to → LieIn from to (front ++ behind)
LieIn-append from middle to front behind first second low high =
    RiseIn-append (WORDS * from) (WORDS * middle) (WORDS * to) front behind first second (omega (arith, low))
    (omega (arith, high))

pub differing_first : (first second rest : Slots) → differing first (differing second rest)
    ≡ differing second (differing first rest)
differing_first first second rest =
    sym (differing-associative first second rest)
    ∙ ap (λ slots. differing slots rest) (differing-commutative first second)
    ∙ differing-associative second first rest

pub toggled_parts : (front middle behind : List Toggled) (at : ℕ) →
    toggled_at (front ++ (middle ++ behind)) at
    ≡ differing (toggled_at front at) (differing (toggled_at middle at) (toggled_at behind at))
toggled_parts front middle behind at =
    toggled-append front (middle ++ behind) at ∙ ap (differing (toggled_at front at)) (toggled-append middle behind at)

-- other entries of one column, by which a set is toggled there
pub flips : (column : ℕ) (slots : Slots) (front old new behind : List Toggled) (at : ℕ) →
    (at ≢ column → toggled_at old at ≡ finset.empty) → (at ≢ column → toggled_at new at ≡ finset.empty) →
    toggled_at new column ≡ differing slots (toggled_at old column)
    → toggled_at (front ++ (new ++ behind)) at ≡ flipped column slots at (toggled_at (front ++ (old ++ behind)) at)
flips column slots front old new behind at none_old none_new is =
    let f = toggled_at front at in
    let b = toggled_at behind at in
    let before = toggled_at (front ++ (old ++ behind)) at in
    elim (cases_eq at column) [
      | inl here ↦
          let test : (at == column) ≡ true = grind (arith, nat_tests) in
          let there : toggled_at new at ≡ differing slots (toggled_at old at) = subst (λ n. toggled_at new n
          ≡ differing slots (toggled_at old n)) (sym here) is in
          toggled_parts front new behind at
          ∙ ap (λ s. differing f (differing s b)) there
          ∙ ap (differing f) (differing-associative slots (toggled_at old at) b)
          ∙ differing_first f slots (differing (toggled_at old at) b)
          ∙ ap (differing slots) (sym (toggled_parts front old behind at))
          ∙ ap (λ (t : Bool). if t then differing slots before else before) (sym test)
      | inr other ↦
          let test : (at == column) ≡ false = grind (arith, nat_tests) in
          toggled_parts front new behind at
          ∙ ap (λ s. differing f (differing s b)) (none_new other ∙ sym (none_old other))
          ∙ sym (toggled_parts front old behind at)
          ∙ ap (λ (t : Bool). if t then differing slots before else before) (sym test)
    ]

same_if : (test : Bool) (x : Slots) → x ≡ (if test then x else x)
same_if true x = refl
same_if false x = refl

pub flips_none : (column : ℕ) (slots : Slots) (at : ℕ) (old : Slots) → slots ≡ finset.empty →
    old ≡ flipped column slots at old
flips_none column slots at old none =
    same_if (at == column) old ∙ ap (λ s. if at == column then s
    else old) (sym (ap (λ s. differing s old) none ∙ empty-differing old))

-- the entry of a column among the others
pub split_here : (entries : List Toggled) (i : ℕ) (d : Toggled) → i < length entries →
    take i entries ++ (get_or entries i d ∷ drop (suc i) entries) ≡ entries
split_here entries i d within =
    ap (λ es. take i entries ++ es) (sym (drop-cons entries i d within)) ∙ take-append-drop i entries

pub toggled-one : (column : ℕ) (entry : Toggled) → entry.column ≡ column → toggled_at (entry ∷ []) column ≡ entry.slots
toggled-one column entry is = met entry [] column is ∙ differing-empty entry.slots

none_else : (column : ℕ) (entry : Toggled) (at : ℕ) → entry.column ≡ column → at ≢ column →
    toggled_at (entry ∷ []) at ≡ finset.empty
none_else column entry at is other = passed entry [] at (λ same. other (sym same ∙ is))

-- those behind it, and those behind a place that has none
pub behind_here : (place to : ℕ) (entries : List Toggled) (i : ℕ) (d : Toggled) → RiseIn place to (drop i entries) →
    i < length entries → place_of (get_or entries i d) ≡ place → RiseIn (suc place) to (drop (suc i) entries)
behind_here place to [] i d rise within is = absurd (omega arith)
behind_here place to (entry ∷ entries) zero d rise within is = subst (λ n. RiseIn (suc n) to entries) is rise.3
behind_here place to (entry ∷ entries) (suc i) d rise within is =
    behind_here place to entries i d rise (omega arith) is

pub behind_none : (place to : ℕ) (entries : List Toggled) (i : ℕ) (d : Toggled) → RiseIn place to (drop i entries) →
    (i < length entries → place_of (get_or entries i d) ≢ place) → RiseIn (suc place) to (drop i entries)
behind_none place to [] zero d rise other = tt
behind_none place to [] (suc i) d rise other = tt
behind_none place to (entry ∷ entries) zero d rise other =
    (omega (arith, rise.0, other (omega arith)), rise.1, rise.2, rise.3)
behind_none place to (entry ∷ entries) (suc i) d rise other =
    behind_none place to entries i d rise (λ within. other (omega arith))

-- a set toggled at a column: an entry of the column goes, or has other slots, or is new
module _ (column : ℕ) (slots : Slots) (entries : List Toggled) (i : ℕ) (d : Toggled) where
  pub flips_removed : (at : ℕ) → i < length entries → (get_or entries i d).column ≡ column →
      differing (get_or entries i d).slots slots ≡ finset.empty
      → toggled_at (take i entries ++ drop (suc i) entries) at ≡ flipped column slots at (toggled_at entries at)
  flips_removed at within is none =
      let entry = get_or entries i d in
      let was = toggled-one column entry is in
      flips column slots (take i entries) (entry ∷ []) [] (drop (suc i) entries) at (none_else column entry at is)
      (λ other. refl) (sym (ap (differing slots) was ∙ differing-commutative slots entry.slots ∙ none))
      ∙ ap (λ es. flipped column slots at (toggled_at es at)) (split_here entries i d within)

  pub flips_changed : (new : Toggled) (at : ℕ) → i < length entries → (get_or entries i d).column ≡ column →
      new.column ≡ column → new.slots ≡ differing (get_or entries i d).slots slots
      → toggled_at (set entries i new) at ≡ flipped column slots at (toggled_at entries at)
  flips_changed new at within is new_is left =
      let entry = get_or entries i d in
      ap (λ es. toggled_at es at) (set_split entries i new within)
      ∙ flips column slots (take i entries) (entry ∷ []) (new ∷ []) (drop (suc i) entries) at
      (none_else column entry at is) (none_else column new at new_is) (toggled-one column new new_is ∙ left
      ∙ differing-commutative entry.slots slots ∙ sym (ap (differing slots) (toggled-one column entry is)))
      ∙ ap (λ es. flipped column slots at (toggled_at es at)) (split_here entries i d within)

-- and the places still rise
module _ (place : ℕ) (entries : List Toggled) (i : ℕ) (d : Toggled) (from to : ℕ)
    (before : RiseIn from place (take i entries)) (behind : RiseIn place to (drop i entries)) (above : from
    ≤ place) (below : place < to) where
  pub lies_removed : i < length entries → place_of (get_or entries i d) ≡ place →
      RiseIn from to (take i entries ++ drop (suc i) entries)
  lies_removed within is =
      RiseIn-append from place to (take i entries) (drop (suc i) entries) before
      (RiseIn-low (suc place) place to (drop (suc i) entries) (behind_here place to entries i d behind within is)
      (omega arith)) above (omega (arith, below))

  pub lies_changed : (new : Toggled) → i < length entries → place_of (get_or entries i d) ≡ place →
      place_of new ≡ place → HasOneWord new → RiseIn from to (set entries i new)
  lies_changed new within is new_is one =
      let rest = subst (λ n. RiseIn (suc n) to (drop (suc i) entries)) (sym new_is)
      (behind_here place to entries i d behind within is) in
      subst (RiseIn from to) (sym (set_split entries i new within))
      (RiseIn-append from place to (take i entries) (new ∷ drop (suc i) entries) before
      (omega (arith, new_is), omega (arith, new_is, below), one, rest) above (omega (arith, below)))

  pub lies_inserted : (new : Toggled) → place_of new ≡ place → HasOneWord new →
      (i < length entries → place_of (get_or entries i d) ≢ place)
      → RiseIn from to (take i entries ++ (new ∷ drop i entries))
  lies_inserted new new_is one other =
      let rest = subst (λ n. RiseIn (suc n) to (drop i entries)) (sym new_is)
      (behind_none place to entries i d behind other) in
      RiseIn-append from place to (take i entries) (new ∷ drop i entries) before
      (omega (arith, new_is), omega (arith, new_is, below), one, rest) above (omega (arith, below))

pub flips_inserted : (entries : List Toggled) (i : ℕ) (new : Toggled) (at : ℕ) →
    toggled_at (take i entries ++ (new ∷ drop i entries)) at ≡ flipped new.column new.slots at (toggled_at entries at)
flips_inserted entries i new at =
    let column = new.column in
    flips column new.slots (take i entries) [] (new ∷ []) (drop i entries) at (λ other. refl)
    (none_else column new at refl) (toggled-one column new refl ∙ sym (differing-empty new.slots))
    ∙ ap (λ es. flipped column new.slots at (toggled_at es at)) (take-append-drop i entries)

-- what is left of two sets of a word is of that word
pub either_of : (a b : Bool) → either a b ≡ true → (a ≡ true) ⊎ (b ≡ true)
either_of true b is = inl refl
either_of false true is = inr refl
either_of false false is = absurd (false≢true is)

pub left_word : (word : ℕ) (first second left : Slots) → IsOneWord first → IsOneWord second → word_index first ≡ word →
    word_index second ≡ word → IsOneWord left → left ≡ differing first second → left ≢ finset.empty →
    word_index left ≡ word
left_word word first second left one two first_is second_is own is some =
    word_of left word own (λ q has.
    elim (either_of (finset.contains first q) (finset.contains second q)
    (sym (contains-differing first second q) ∙ ap (λ s. finset.contains s q) (sym is) ∙ has)) [
      | inl here ↦ one.own q here ∙ first_is
      | inr there ↦ two.own q there ∙ second_is
    ]) some

-- two sets toggled at a column are one
twice_test : (test : Bool) (first second old : Slots) →
    (if test then differing first (if test then differing second old else old)
    else (if test then differing second old else old))
    ≡ (if test then differing (differing first second) old else old)
twice_test true first second old = sym (differing-associative first second old)
twice_test false first second old = refl

pub flips_both : (column : ℕ) (first second : Slots) (at : ℕ) (old : Slots) →
    flipped column first at (flipped column second at old) ≡ flipped column (differing first second) at old
flips_both column first second at old = twice_test (at == column) first second old

-- whether a slot is toggled at a column is said by the entry of its word
either_none : (a : Bool) → either a false ≡ a
either_none true = refl
either_none false = refl

none_either : (a : Bool) → either false a ≡ a
none_either true = refl
none_either false = refl

others : (column q from : ℕ) (entry : Toggled) (entries : List Toggled) → from ≤ place_of entry →
    place_of entry < WORDS * column + q / 64 → HasOneWord entry →
    finset.contains (toggled_at (entry ∷ entries) column) q ≡ finset.contains (toggled_at entries column) q
others column q from entry entries above below one =
    elim (cases_eq entry.column column) [
      | inl here ↦
          ap (λ s. finset.contains s q) (met entry entries column here)
          ∙ contains-differing entry.slots (toggled_at entries column) q
          ∙ ap (λ b. either b (finset.contains (toggled_at entries column) q))
          (apart_from entry column q one here (omega (arith, below, here)))
          ∙ none_either (finset.contains (toggled_at entries column) q)
      | inr other ↦ ap (λ s. finset.contains s q) (passed entry entries column other)
    ]

pub told_by : (column q from to : ℕ) (entries : List Toggled) (i : ℕ) (d : Toggled) →
    RiseIn from (WORDS * column + q / 64) (take i entries) → RiseIn (WORDS * column + q / 64) to (drop i entries) →
    i < length entries → (get_or entries i d).column ≡ column →
    finset.contains (get_or entries i d).slots q ≡ finset.contains (toggled_at entries column) q
told_by column q from to [] i d before behind within is = absurd (omega arith)
told_by column q from to (entry ∷ entries) zero d before behind within is =
    let rest : finset.contains (toggled_at entries column) q ≡ false =
    slot_below (suc (place_of entry)) to entries column q behind.3 (omega (arith, behind.0)) in
    sym (ap (λ s. finset.contains s q) (met entry entries column is)
    ∙ contains-differing entry.slots (toggled_at entries column) q
    ∙ ap (either (finset.contains entry.slots q)) rest ∙ either_none (finset.contains entry.slots q))
told_by column q from to (entry ∷ entries) (suc i) d before behind within is =
    told_by column q (suc (place_of entry)) to entries i d before.3 behind (omega arith) is
    ∙ sym (others column q from entry entries before.0 before.1 before.2)

pub told_none : (column q from to : ℕ) (entries : List Toggled) (i : ℕ) (d : Toggled) →
    RiseIn from (WORDS * column + q / 64) (take i entries) → RiseIn (WORDS * column + q / 64) to (drop i entries) →
    (i < length entries → (get_or entries i d).column ≢ column) →
    finset.contains (toggled_at entries column) q ≡ false
told_none column q from to [] i d before behind other = finset.contains-empty nat_cmp q
told_none column q from to (entry ∷ entries) zero d before behind other =
    ap (λ s. finset.contains s q) (passed entry entries column (other (omega arith)))
    ∙ slot_below (suc (place_of entry)) to entries column q behind.3 (omega (arith, behind.0))
told_none column q from to (entry ∷ entries) (suc i) d before behind other =
    others column q from entry entries before.0 before.1 before.2
    ∙ told_none column q (suc (place_of entry)) to entries i d before.3 behind (λ within. other (omega arith))

-- ---- a slot that is toggled nowhere from one column to another
-- what is made of an entry, and whether it stays
pub record ClearsEntry (slot from to : ℕ) (old : Toggled) (stays : Bool) (new : Toggled) : Type 0 where
  pub column : new.column ≡ old.column
  pub slots : new.slots ≡ slots_cleared slot from to old.column old.slots
  pub word : HasOneWord old → HasOneWord new
  pub some : stays ≡ true → new.slots ≢ finset.empty
  pub gone : stays ≡ false → new.slots ≡ finset.empty

none_left : (test : Bool) (slot : ℕ) → ◌≡◌ {A = Slots} (if test then finset.remove finset.empty slot
    else finset.empty) finset.empty
none_left true slot = sym (slots_kept slot false finset.empty (finset.contains-empty nat_cmp slot))
none_left false slot = refl

-- a slot less in both of two sets
neither_slot : (t a b : Bool) → either (not t && a) (not t && b) ≡ (not t && either a b)
neither_slot true a b = refl
neither_slot false a b = refl

removed_both : (slot : ℕ) (first second : Slots) →
    differing (finset.remove first slot) (finset.remove second slot) ≡ finset.remove (differing first second) slot
removed_both slot first second =
    same_slots _ _ (λ q.
    contains-differing (finset.remove first slot) (finset.remove second slot) q
    ∙ ap₂ either (contains-removed first slot q) (contains-removed second slot q)
    ∙ neither_slot (q == slot) (finset.contains first q) (finset.contains second q)
    ∙ sym (contains-removed (differing first second) slot q
    ∙ ap (λ b. not (q == slot) && b) (contains-differing first second q)))

both_test : (test : Bool) (slot : ℕ) (first second : Slots) →
    differing (if test then finset.remove first slot else first) (if test then finset.remove second slot else second)
    ≡ (if test then finset.remove (differing first second) slot else differing first second)
both_test true slot first second = removed_both slot first second
both_test false slot first second = refl

cleared_both : (slot from to at : ℕ) (first second : Slots) →
    differing (slots_cleared slot from to at first) (slots_cleared slot from to at second)
    ≡ slots_cleared slot from to at (differing first second)
cleared_both slot from to at first second = both_test (nat_le from at && nat_lt at to) slot first second

second_holds : (a b : Bool) → (a && b) ≡ true → b ≡ true
second_holds true b is = is
second_holds false b is = absurd (false≢true is)

pub cleared_none : (slot from to at : ℕ) → slots_cleared slot from to at finset.empty ≡ finset.empty
cleared_none slot from to at = none_left (nat_le from at && nat_lt at to) slot

-- what is left of an entry that stays is of its word
some_left : (slot : ℕ) (test : Bool) (old : Slots) (q : ℕ) →
    finset.contains (if test then finset.remove old slot else old) q ≡ true → finset.contains old q ≡ true
some_left slot true old q has = second_holds (not (q == slot)) (finset.contains old q)
    (sym (contains-removed old slot q) ∙ has)
some_left slot false old q has = has

module _ {S : Type 0} (R : S → Toggled → Bool → S → Toggled → Type 0) (s : S) (slot from to : ℕ)
    (says : (x : Toggled) (b : Bool) (t : S) (y : Toggled) → R s x b t y →
    ClearsEntry slot from to x b y × (t ≡ s)) where
  pub lies_cleared : (low high : ℕ) (xs ys : List Toggled) → RetainsInTurn R s xs ys → RiseIn low high xs →
      RiseIn low high ys
  lies_cleared low high [] ys is rise = subst (RiseIn low high) (sym is) tt
  lies_cleared low high (x ∷ xs) ys (true, t, y, one, zs, rest, is) rise =
      let here = says x true t y one in
      let behind = lies_cleared (suc (place_of x)) high xs zs (subst (λ u. RetainsInTurn R u xs zs) here.1 rest) rise.3
      in
      let own : HasOneWord y = here.0.word rise.2 in
      let word : word_index y.slots ≡ word_index x.slots = word_of y.slots (word_index x.slots) own (λ q has.
      rise.2.own q (some_left slot (nat_le from x.column && nat_lt x.column to) x.slots q
      (ap (λ slots. finset.contains slots q) (sym here.0.slots) ∙ has))) (here.0.some refl) in
      let same : place_of y ≡ place_of x = omega (arith, here.0.column, word) in
      subst (RiseIn low high) (sym is) (
        omega (arith, rise.0, same),
        omega (arith, rise.1, same),
        own,
        subst (λ n. RiseIn (suc n) high zs) (sym same) behind,
      )
  lies_cleared low high (x ∷ xs) ys (false, t, y, one, zs, rest, is) rise =
      let here = says x false t y one in
      let behind = lies_cleared (suc (place_of x)) high xs zs (subst (λ u. RetainsInTurn R u xs zs) here.1 rest) rise.3
      in
      subst (RiseIn low high) (sym is) (RiseIn-low (suc (place_of x)) low high zs behind (omega (arith, rise.0)))

  pub slots_stay_cleared : (xs ys : List Toggled) (at : ℕ) → RetainsInTurn R s xs ys →
      toggled_at ys at ≡ slots_cleared slot from to at (toggled_at xs at)
  slots_stay_cleared [] ys at is = ap (λ es. toggled_at es at) is ∙ sym (cleared_none slot from to at)
  slots_stay_cleared (x ∷ xs) ys at (true, t, y, one, zs, rest, is) =
      let here = says x true t y one in
      let others_are = slots_stay_cleared xs zs at (subst (λ u. RetainsInTurn R u xs zs) here.1 rest) in
      let column = here.0.column in
      ap (λ es. toggled_at es at) is
      ∙ elim (cases_eq x.column at) [
        | inl same ↦
            met y zs at (column ∙ same)
            ∙ ap₂ differing (here.0.slots ∙ ap (λ n. slots_cleared slot from to n x.slots) same) others_are
            ∙ cleared_both slot from to at x.slots (toggled_at xs at)
            ∙ ap (slots_cleared slot from to at) (sym (met x xs at same))
        | inr apart ↦
            passed y zs at (λ same. apart (sym column ∙ same)) ∙ others_are
            ∙ ap (slots_cleared slot from to at) (sym (passed x xs at apart))
      ]
  slots_stay_cleared (x ∷ xs) ys at (false, t, y, one, zs, rest, is) =
      let here = says x false t y one in
      let others_are = slots_stay_cleared xs zs at (subst (λ u. RetainsInTurn R u xs zs) here.1 rest) in
      ap (λ es. toggled_at es at) is
      ∙ elim (cases_eq x.column at) [
        | inl same ↦
            sym (empty-differing (toggled_at zs at))
            ∙ ap₂ differing (sym (here.0.gone refl) ∙ here.0.slots ∙ ap (λ n. slots_cleared slot from to n x.slots)
            same) others_are
            ∙ cleared_both slot from to at x.slots (toggled_at xs at)
            ∙ ap (slots_cleared slot from to at) (sym (met x xs at same))
        | inr apart ↦ others_are ∙ ap (slots_cleared slot from to at) (sym (passed x xs at apart))
      ]
