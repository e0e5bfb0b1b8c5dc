-- The toggles of the columns from one to another, and what is left without these.
use Rattle.segments.proofs.Common.{◌≡◌, ℕ, zero, suc, ◌+◌, ◌-◌, ◌*◌, ◌<◌, ◌≤◌, ◌≢◌, ◌⊎◌, Bool, true, false, ◌&&◌, ◌==◌}
use Rattle.segments.proofs.Common.{nat_lt, List, [], ◌∷◌, ◌++◌, length, map, take, drop, inl, inr, refl, sym, ap, ap₂}
use Rattle.segments.proofs.Common.{subst, ◌∙◌, arith, if◌then◌else◌, slice_range, All, cases_eq, cases_lt, false≢true}
use Rattle.segments.proofs.Common.{nat_tests, append-nil, split_between, All-head, All-tail, filter-append, nat_cmp}
use Rattle.segments.proofs.Common.{Slots, AreSlots, words_below, differing, WORDS, words_below-differing}
use Rattle.segments.proofs.Common.{words_below-none, words_below-one, contains-differing, differing-associative}
use Rattle.segments.proofs.Common.{differing-empty, Toggled, HasOneWord, LieIn, RiseIn, entries_in, flipped, moved_back}
use Rattle.segments.proofs.Common.{odd_of, place_of, toggled_at, without_span, nat_le}
use Rattle.segments.proofs.EntryLaws.{RiseIn-low, RiseIn-take, front_alone, met, none_before, passed}
use Rattle.segments.proofs.MovedLaws.{LieIn-moved_back, rest_alone, toggled-moved_back, toggled_front, toggled_rest}
use Rattle.segments.proofs.ToggleLaws.{LieIn-append, differing_first, either_of}
use Rattle.std.specs.FinSet as finset

-- the toggles of a range of columns, among those before it and behind it
none_in_front : (from to low high : ℕ) (entries : List Toggled) → RiseIn low high entries → high ≤ WORDS * from →
    entries_in from to entries ≡ []
none_in_front from to low high [] rise far = refl
none_in_front from to low high (entry ∷ entries) rise far =
    let below : entry.column < from = omega (arith, rise.1, far) in
    let test : (nat_le from entry.column && nat_lt entry.column to) ≡ false = grind (arith, nat_tests, below) in
    ap (λ (b : Bool). if b then entry ∷ entries_in from to entries else entries_in from to entries) test
    ∙ none_in_front from to (suc (place_of entry)) high entries rise.3 far

none_in_rest : (from to low high : ℕ) (entries : List Toggled) → RiseIn low high entries → WORDS * to ≤ low →
    entries_in from to entries ≡ []
none_in_rest from to low high [] rise far = refl
none_in_rest from to low high (entry ∷ entries) rise far =
    let above : to ≤ entry.column = omega (arith, rise.0, far, rise.2.within) in
    let test : (nat_le from entry.column && nat_lt entry.column to) ≡ false = grind (arith, nat_tests, above) in
    ap (λ (b : Bool). if b then entry ∷ entries_in from to entries else entries_in from to entries) test
    ∙ none_in_rest from to (suc (place_of entry)) high entries rise.3 (omega (arith, rise.0, far))

in-append : (from to : ℕ) (front behind : List Toggled) →
    entries_in from to (front ++ behind) ≡ entries_in from to front ++ entries_in from to behind
in-append from to front behind =
    filter-append (λ (entry : Toggled). nat_le from entry.column && nat_lt entry.column to) front behind

-- how many stand before one place, and before another
pub counts_rise : (low from to high : ℕ) (entries : List Toggled) (start end : ℕ) →
    RiseIn low from (take start entries) → RiseIn to high (drop end entries) → from ≤ to → start ≤ length entries →
    start ≤ end
counts_rise low from to high entries zero end before behind ordered within = omega arith
counts_rise low from to high [] (suc start) end before behind ordered within = absurd (omega arith)
counts_rise low from to high (entry ∷ entries) (suc start) zero before behind ordered within =
    absurd (omega (arith, before.1, behind.0))
counts_rise low from to high (entry ∷ entries) (suc start) (suc end) before behind ordered within = omega (
  arith,
  counts_rise (suc (place_of entry)) from to high entries start end before.3 behind ordered (omega arith),
)

raised : (low to from high : ℕ) (entries : List Toggled) → RiseIn low to entries → RiseIn from high entries →
    RiseIn from to entries
raised low to from high [] below above = tt
raised low to from high (entry ∷ entries) below above = (above.0, below.1, below.2, below.3)

-- the entries between two indices
between_rises : (low from to high : ℕ) (entries : List Toggled) (start end : ℕ) → RiseIn low to (take end entries) →
    RiseIn from high (drop start entries) → start ≤ end → RiseIn from to (slice_range entries start end)
between_rises low from to high entries zero end before behind ordered =
    let all : end ≡ end - 0 = omega arith in
    subst (λ n. RiseIn from to (take n entries)) all
    (raised low to from high (take end entries) before (RiseIn-take from high end entries behind))
between_rises low from to high entries (suc start) zero before behind ordered = absurd (omega arith)
between_rises low from to high [] (suc start) (suc end) before behind ordered =
    RiseIn-take from to (suc end - suc start) [] tt
between_rises low from to high (entry ∷ entries) (suc start) (suc end) before behind ordered =
    let less : end - start ≡ suc end - suc start = omega arith in
    subst (λ n. RiseIn from to (take n (drop start entries))) less
    (between_rises (suc (place_of entry)) from to high entries start end before.3 behind (omega arith))

abbrev pub IsOutside : ℕ → ℕ → ℕ → Type 0
IsOutside from to at = ((nat_le from at && nat_lt at to) ≡ false) × ((at < from) ⊎ (to ≤ at))

pub cases_in : (from to at : ℕ) → ((from ≤ at) × (at < to)) ⊎ IsOutside from to at
cases_in from to at =
    elim (cases_lt at from) [
      | inl below ↦ inr (grind (arith, nat_tests), inl below)
      | inr above ↦ elim (cases_lt at to) [
        | inl inside ↦ inl (above, inside)
        | inr behind ↦ inr (grind (arith, nat_tests), inr behind)
      ]
    ]

-- the entries of the columns from one to another lie there, and say the same of these
in_above : (from to low high : ℕ) (entries : List Toggled) → RiseIn low high entries → WORDS * from ≤ low →
    RiseIn low (WORDS * to) (entries_in from to entries)
in_above from to low high [] rise near = tt
in_above from to low high (entry ∷ entries) rise near =
    let rest = entries_in from to entries in
    elim (cases_lt entry.column to) [
      | inl inside ↦
          let above : from ≤ entry.column = omega (arith, rise.0, near, rise.2.within) in
          let test : (nat_le from entry.column && nat_lt entry.column to)
          ≡ true = grind (arith, nat_tests, above, inside) in
          subst (λ (b : Bool). RiseIn low (WORDS * to) (if b then entry ∷ rest else rest)) (sym test) (
            rise.0,
            omega (arith, inside, rise.2.within),
            rise.2,
            in_above from to (suc (place_of entry)) high entries rise.3 (omega (arith, rise.0, near)),
          )
      | inr behind ↦
          let test : (nat_le from entry.column && nat_lt entry.column to) ≡ false = grind (arith, nat_tests, behind) in
          subst (λ (b : Bool). RiseIn low (WORDS * to) (if b then entry ∷ rest else rest)) (sym test)
          (subst (RiseIn low (WORDS * to)) (sym (none_in_rest from to (suc (place_of entry)) high entries rise.3
          (omega (arith, behind)))) tt)
    ]

pub in_lies : (from to low high : ℕ) (entries : List Toggled) → RiseIn low high entries →
    LieIn from to (entries_in from to entries)
in_lies from to low high [] rise = tt
in_lies from to low high (entry ∷ entries) rise =
    let rest = entries_in from to entries in
    elim (cases_lt entry.column from) [
      | inl below ↦
          let test : (nat_le from entry.column && nat_lt entry.column to) ≡ false = grind (arith, nat_tests, below) in
          subst (λ (b : Bool). LieIn from to (if b then entry ∷ rest else rest)) (sym test)
          (in_lies from to (suc (place_of entry)) high entries rise.3)
      | inr above ↦ RiseIn-low (place_of entry) (WORDS * from) (WORDS * to) (entries_in from to (entry ∷ entries))
          (in_above from to (place_of entry) high (entry ∷ entries) (omega arith, rise.1, rise.2, rise.3)
          (omega (arith, above))) (omega (arith, above))
    ]

apart : (from to column at : ℕ) → (column < from) ⊎ (to ≤ column) → from ≤ at → at < to → column ≢ at
apart from to column at (inl below) above small = omega arith
apart from to column at (inr behind) above small = omega arith

pub toggled_in : (from to : ℕ) (entries : List Toggled) (at : ℕ) → from ≤ at → at < to →
    toggled_at (entries_in from to entries) at ≡ toggled_at entries at
toggled_in from to [] at above small = refl
toggled_in from to (entry ∷ entries) at above small =
    let rest = entries_in from to entries in
    let same = toggled_in from to entries at above small in
    elim (cases_in from to entry.column) [
      | inl inside ↦
          let test : (nat_le from entry.column && nat_lt entry.column to)
          ≡ true = grind (arith, nat_tests, inside.0, inside.1) in
          ap (λ (b : Bool). toggled_at (if b then entry ∷ rest else rest) at) test
          ∙ ap (λ s. if entry.column == at then differing entry.slots s else s) same
      | inr out ↦
          ap (λ (b : Bool). toggled_at (if b then entry ∷ rest else rest) at) out.0
          ∙ same
          ∙ sym (passed entry entries at (apart from to entry.column at out.1 above small))
    ]

pub span_there : (from to : ℕ) (entries : List Toggled) →
    without_span from to to entries ≡ differing (odd_of (entries_in from to entries)) (toggled_at entries to)
span_there from to entries =
    let here : (to == to) ≡ true = grind (arith, nat_tests) in
    ap (λ (b : Bool). if b then differing (odd_of (entries_in from to entries)) (toggled_at entries to)
    else (if nat_le from to && nat_lt to to then finset.empty else toggled_at entries to)) here

pub span_behind : (from to at : ℕ) (entries : List Toggled) → to < at →
    without_span from to at entries ≡ toggled_at entries at
span_behind from to at entries behind =
    let here : (at == to) ≡ false = grind (arith, nat_tests) in
    let inside : (nat_le from at && nat_lt at to) ≡ false = grind (arith, nat_tests) in
    ap (λ (b : Bool). if b then differing (odd_of (entries_in from to entries)) (toggled_at entries at)
    else (if nat_le from at && nat_lt at to then finset.empty else toggled_at entries at)) here
    ∙ ap (λ (b : Bool). if b then finset.empty else toggled_at entries at) inside

-- what is toggled an odd number of times from one column on and up to another
odd_until : (from to low high : ℕ) (entries : List Toggled) → RiseIn low high entries → WORDS * from ≤ low →
    high ≤ WORDS * suc to → odd_of entries ≡ differing (odd_of (entries_in from to entries)) (toggled_at entries to)
odd_until from to low high [] rise near far = sym (differing-empty finset.empty)
odd_until from to low high (entry ∷ entries) rise near far =
    let rest = entries_in from to entries in
    let above : from ≤ entry.column = omega (arith, rise.0, near, rise.2.within) in
    let same = odd_until from to (suc (place_of entry)) high entries rise.3 (omega (arith, rise.0, near)) far in
    elim (cases_lt entry.column to) [
      | inl inside ↦
          let test : (nat_le from entry.column && nat_lt entry.column to)
          ≡ true = grind (arith, nat_tests, above, inside) in
          ap (differing entry.slots) same
          ∙ sym (differing-associative entry.slots (odd_of rest) (toggled_at entries to))
          ∙ ap (differing (differing entry.slots (odd_of rest))) (sym (passed entry entries to (omega (arith, inside))))
          ∙ ap (λ (b : Bool). differing (odd_of (if b then entry ∷ rest else rest)) (toggled_at (entry ∷ entries) to))
          (sym test)
      | inr behind ↦
          let test : (nat_le from entry.column && nat_lt entry.column to) ≡ false = grind (arith, nat_tests, behind) in
          ap (differing entry.slots) same
          ∙ differing_first entry.slots (odd_of rest) (toggled_at entries to)
          ∙ ap (differing (odd_of rest)) (sym (met entry entries to (omega (arith, behind, rise.1, far))))
          ∙ ap (λ (b : Bool). differing (odd_of (if b then entry ∷ rest else rest)) (toggled_at (entry ∷ entries) to))
          (sym test)
    ]

-- The entries before one column and those behind another, drawn to the first: what stood between is gone, and toggled
-- at the first column, as far as it was toggled an odd number of times.
module _ (from to len : ℕ) (entries : List Toggled) (start end : ℕ) (ordered : from ≤ to) (within : to
    < len) (before : LieIn 0 from (take start entries)) (high : LieIn from len (drop start entries))
    (front : LieIn 0 (to + 1) (take end entries)) (behind : LieIn (to + 1) len (drop end entries)) (rise : start
    ≤ end) where
  abbrev pub taken : List Toggled
  taken = slice_range entries start end

  abbrev pub drawn : List Toggled
  drawn = take start entries ++ map (moved_back (to - from)) (drop end entries)

  taken_lies : LieIn from (to + 1) taken
  taken_lies = between_rises (WORDS * 0) (WORDS * from) (WORDS * (to + 1)) (WORDS * len) entries start end front high rise

  moved_lies : LieIn (suc from) (from + (len - to)) (map (moved_back (to - from)) (drop end entries))
  moved_lies =
      let first : to + 1 - (to - from) ≡ suc from = omega arith in
      let last : len - (to - from) ≡ from + (len - to) = omega arith in
      subst (λ n. LieIn (suc from) n (map (moved_back (to - from)) (drop end entries))) last
      (subst (λ n. LieIn n (len - (to - from)) (map (moved_back (to - from)) (drop end entries))) first
      (LieIn-moved_back (to + 1) len (to - from) (drop end entries) behind (omega arith)))

  pub drawn_lies : LieIn 0 (from + (len - to)) drawn
  drawn_lies =
      LieIn-append 0 from (from + (len - to)) (take start entries) (map (moved_back (to - from)) (drop end entries))
      before (RiseIn-low (WORDS * suc from) (WORDS * from) (WORDS * (from + (len - to)))
      (map (moved_back (to - from)) (drop end entries)) moved_lies (omega arith)) (omega arith) (omega arith)

  drawn_front : (at : ℕ) → at < from → toggled_at drawn at ≡ toggled_at entries at
  drawn_front at small =
      front_alone (take start entries) (map (moved_back (to - from)) (drop end entries)) at
      (none_before (suc from) (from + (len - to)) (map (moved_back (to - from)) (drop end entries)) at moved_lies
      (omega arith))
      ∙ toggled_front from len start entries at high small

  drawn_here : toggled_at drawn from ≡ finset.empty
  drawn_here =
      rest_alone 0 from (take start entries) (map (moved_back (to - from)) (drop end entries)) from before (omega arith)
      ∙ none_before (suc from) (from + (len - to)) (map (moved_back (to - from)) (drop end entries)) from moved_lies
      (omega arith)

  drawn_behind : (at : ℕ) → from < at → toggled_at drawn at ≡ toggled_at entries (at + (to - from))
  drawn_behind at above =
      rest_alone 0 from (take start entries) (map (moved_back (to - from)) (drop end entries)) at before (omega arith)
      ∙ toggled-moved_back (to + 1) len (to - from) (drop end entries) at behind (omega arith)
      ∙ toggled_rest 0 (to + 1) end entries (at + (to - from)) front (omega arith)

  parts : entries ≡ take start entries ++ (taken ++ drop end entries)
  parts = split_between entries start end rise

  in_taken : entries_in from to entries ≡ entries_in from to taken
  in_taken =
      ap (entries_in from to) parts
      ∙ in-append from to (take start entries) (taken ++ drop end entries)
      ∙ ap₂ ◌++◌
      (none_in_front from to (WORDS * 0) (WORDS * from) (take start entries) before (omega arith))
      (in-append from to taken (drop end entries)
      ∙ ap (λ es. entries_in from to taken ++ es)
      (none_in_rest from to (WORDS * (to + 1)) (WORDS * len) (drop end entries) behind (omega arith))
      ∙ append-nil (entries_in from to taken))

  at_taken : toggled_at entries to ≡ toggled_at taken to
  at_taken =
      ap (λ es. toggled_at es to) parts
      ∙ rest_alone 0 from (take start entries) (taken ++ drop end entries) to before ordered
      ∙ front_alone taken (drop end entries) to
      (none_before (to + 1) len (drop end entries) to behind (omega arith))

  taken_odd : odd_of taken ≡ without_span from to to entries
  taken_odd =
      odd_until from to (WORDS * from) (WORDS * (to + 1)) taken taken_lies (omega arith) (omega arith)
      ∙ ap₂ (λ es s. differing (odd_of es) s) (sym in_taken) (sym at_taken)
      ∙ sym (span_there from to entries)

  module _ (new : List Toggled) (slots : Slots) (odd : slots ≡ odd_of taken)
      (is : (at : ℕ) → toggled_at new at ≡ flipped from slots at (toggled_at drawn at)) where
    pub removed_front : (at : ℕ) → at < from → toggled_at new at ≡ toggled_at entries at
    removed_front at small =
        let test : (at == from) ≡ false = grind (arith, nat_tests, small) in
        is at ∙ ap (λ (b : Bool). if b then differing slots (toggled_at drawn at) else toggled_at drawn at) test
        ∙ drawn_front at small

    pub removed_behind : (at : ℕ) → from ≤ at → toggled_at new at ≡ without_span from to (at + (to - from)) entries
    removed_behind at above =
        elim (cases_eq at from) [
          | inl here ↦
              let test : (at == from) ≡ true = grind (arith, nat_tests, here) in
              let there : to ≡ at + (to - from) = omega (arith, here) in
              is at ∙ ap (λ (b : Bool). if b then differing slots (toggled_at drawn at) else toggled_at drawn at) test
              ∙ ap (differing slots) (ap (toggled_at drawn) here ∙ drawn_here)
              ∙ differing-empty slots ∙ odd ∙ taken_odd
              ∙ ap (λ n. without_span from to n entries) there
          | inr other ↦
              let test : (at == from) ≡ false = grind (arith, nat_tests, other) in
              is at ∙ ap (λ (b : Bool). if b then differing slots (toggled_at drawn at) else toggled_at drawn at) test
              ∙ drawn_behind at (omega (arith, above, other))
              ∙ sym (span_behind from to (at + (to - from)) entries (omega (arith, above, other)))
        ]

-- in how many words the slots are that entries toggle an odd number of times
pub words_of_odd : (n : ℕ) (entries : List Toggled) → All HasOneWord entries →
    words_below n (odd_of entries) ≤ length entries
words_of_odd n [] all = omega (arith, words_below-none n)
words_of_odd n (entry ∷ entries) all = omega (
  arith,
  words_below-differing n entry.slots (odd_of entries),
  words_below-one n entry.slots (All-head HasOneWord entry entries all),
  words_of_odd n entries (All-tail HasOneWord entry entries all),
)

pub slots_of_odd : (entries : List Toggled) → All HasOneWord entries → AreSlots (odd_of entries)
slots_of_odd [] all = λ q has. absurd (false≢true (sym (finset.contains-empty nat_cmp q) ∙ has))
slots_of_odd (entry ∷ entries) all = λ q has.
    let one = All-head HasOneWord entry entries all in
    elim (either_of (finset.contains entry.slots q) (finset.contains (odd_of entries) q)
    (sym (contains-differing entry.slots (odd_of entries) q) ∙ has)) [
      | inl own ↦ omega (arith, one.own q own, one.within)
      | inr other ↦ slots_of_odd entries (All-tail HasOneWord entry entries all) q other
    ]
