-- Toggles that move on or back by some columns.
use Rattle.segments.proofs.Common.{◌≡◌, ℕ, suc, ◌+◌, ◌-◌, ◌*◌, ◌<◌, ◌≤◌, ◌^◌, ◌==◌, Bool, List, [], ◌∷◌, ◌++◌, map}
use Rattle.segments.proofs.Common.{take, drop, refl, sym, ap, ap₂, subst, ◌∙◌, arith, take-append-drop, if◌then◌else◌}
use Rattle.segments.proofs.Common.{All, nat_tests, All-cons, All-nil, differing, WORDS, empty-differing, Toggled}
use Rattle.segments.proofs.Common.{CanMoveBack, CanMoveOn, LieIn, RiseIn, moved_back, moved_on, place_of, toggled_at}
use Rattle.segments.proofs.EntryLaws.{front_alone, none_above, none_before}
use Rattle.segments.proofs.ToggleLaws.{toggled-append}

pub can_move_back : (low high count : ℕ) (entries : List Toggled) → RiseIn low high entries → WORDS * count ≤ low →
    All (CanMoveBack count) entries
can_move_back low high count [] rise room = All-nil (CanMoveBack count)
can_move_back low high count (entry ∷ entries) rise room =
    All-cons (CanMoveBack count) entry entries (omega (arith, rise.0, room, rise.2.within))
    (can_move_back (suc (place_of entry)) high count entries rise.3 (omega (arith, rise.0, room)))

pub can_move_on : (low high count : ℕ) (entries : List Toggled) → RiseIn low high entries →
    high + WORDS * count < WORDS * 2 ^ 64 → All (CanMoveOn count) entries
can_move_on low high count [] rise room = All-nil (CanMoveOn count)
can_move_on low high count (entry ∷ entries) rise room =
    All-cons (CanMoveOn count) entry entries (omega (arith, rise.1, room))
    (can_move_on (suc (place_of entry)) high count entries rise.3 room)

RiseIn-moved_back : (low high count : ℕ) (entries : List Toggled) → RiseIn low high entries → WORDS * count ≤ low →
    RiseIn (low - WORDS * count) (high - WORDS * count) (map (moved_back count) entries)
RiseIn-moved_back low high count [] rise room = tt
RiseIn-moved_back low high count (entry ∷ entries) rise room =
    let back : place_of (moved_back count entry)
    ≡ place_of entry - WORDS * count = omega (arith, rise.0, room, rise.2.within) in
    let next : suc (place_of entry) - WORDS * count ≡ suc (place_of (moved_back count entry)) = omega (
      arith,
      rise.0,
      room,
      back,
    ) in (
      omega (arith, rise.0, back),
      omega (arith, rise.0, rise.1, room, back),
      rise.2,
      subst (λ n. RiseIn n (high - WORDS * count) (map (moved_back count) entries)) next
          (RiseIn-moved_back (suc (place_of entry)) high count entries rise.3 (omega (arith, rise.0, room))),
    )

pub LieIn-moved_back : (low high count : ℕ) (entries : List Toggled) → LieIn low high entries → count ≤ low →
    LieIn (low - count) (high - count) (map (moved_back count) entries)
LieIn-moved_back low high count entries lie room =
    let first : WORDS * low - WORDS * count ≡ WORDS * (low - count) = omega arith in
    let last : WORDS * high - WORDS * count ≡ WORDS * (high - count) = omega arith in
    subst (λ n. RiseIn n (WORDS * (high - count)) (map (moved_back count) entries)) first
    (subst (λ n. RiseIn (WORDS * low - WORDS * count) n (map (moved_back count) entries)) last
    (RiseIn-moved_back (WORDS * low) (WORDS * high) count entries lie (omega (arith, room))))

toggled-drawn : (low high count : ℕ) (entries : List Toggled) (at : ℕ) → RiseIn low high entries →
    WORDS * count ≤ low → toggled_at (map (moved_back count) entries) at ≡ toggled_at entries (at + count)
toggled-drawn low high count [] at rise room = refl
toggled-drawn low high count (entry ∷ entries) at rise room =
    let above : count ≤ entry.column = omega (arith, rise.0, room, rise.2.within) in
    let test : (entry.column - count == at) ≡ (entry.column == at + count) = grind (arith, nat_tests, above) in
    ap₂ (λ (b : Bool) s. if b then differing entry.slots s else s) test
    (toggled-drawn (suc (place_of entry)) high count entries at rise.3 (omega (arith, rise.0, room)))

pub toggled-moved_back : (low high count : ℕ) (entries : List Toggled) (at : ℕ) → LieIn low high entries → count ≤ low →
    toggled_at (map (moved_back count) entries) at ≡ toggled_at entries (at + count)
toggled-moved_back low high count entries at lie room =
    toggled-drawn (WORDS * low) (WORDS * high) count entries at lie (omega (arith, room))

RiseIn-moved_on : (low high count : ℕ) (entries : List Toggled) → RiseIn low high entries →
    RiseIn (low + WORDS * count) (high + WORDS * count) (map (moved_on count) entries)
RiseIn-moved_on low high count [] rise = tt
RiseIn-moved_on low high count (entry ∷ entries) rise =
    let next : suc (place_of entry) + WORDS * count ≡ suc (place_of (moved_on count entry)) = omega arith in (
      omega (arith, rise.0),
      omega (arith, rise.1),
      rise.2,
      subst (λ n. RiseIn n (high + WORDS * count) (map (moved_on count) entries)) next
          (RiseIn-moved_on (suc (place_of entry)) high count entries rise.3),
    )

pub LieIn-moved_on : (low high count : ℕ) (entries : List Toggled) → LieIn low high entries →
    LieIn (low + count) (high + count) (map (moved_on count) entries)
LieIn-moved_on low high count entries lie =
    let first : WORDS * low + WORDS * count ≡ WORDS * (low + count) = omega arith in
    let last : WORDS * high + WORDS * count ≡ WORDS * (high + count) = omega arith in
    subst (λ n. RiseIn n (WORDS * (high + count)) (map (moved_on count) entries)) first
    (subst (λ n. RiseIn (WORDS * low + WORDS * count) n (map (moved_on count) entries)) last
    (RiseIn-moved_on (WORDS * low) (WORDS * high) count entries lie))

pub toggled-moved_on : (count : ℕ) (entries : List Toggled) (at : ℕ) →
    toggled_at (map (moved_on count) entries) (at + count) ≡ toggled_at entries at
toggled-moved_on count [] at = refl
toggled-moved_on count (entry ∷ entries) at =
    let test : (entry.column + count == at + count) ≡ (entry.column == at) = grind (arith, nat_tests) in
    ap₂ (λ (b : Bool) s. if b then differing entry.slots s else s) test (toggled-moved_on count entries at)

-- what the entries before a column say, and those behind it
pub toggled_front : (column to count : ℕ) (entries : List Toggled) (at : ℕ) → LieIn column to (drop count entries) →
    at < column → toggled_at (take count entries) at ≡ toggled_at entries at
toggled_front column to count entries at lie before =
    sym (front_alone (take count entries) (drop count entries) at
    (none_before column to (drop count entries) at lie before))
    ∙ ap (λ es. toggled_at es at) (take-append-drop count entries)

pub rest_alone : (from column : ℕ) (front behind : List Toggled) (at : ℕ) → LieIn from column front → column ≤ at →
    toggled_at (front ++ behind) at ≡ toggled_at behind at
rest_alone from column front behind at lie far =
    toggled-append front behind at ∙ ap (λ s. differing s (toggled_at behind at))
    (none_above (WORDS * from) (WORDS * column) front at lie (omega (arith, far))) ∙ empty-differing (toggled_at behind at)

pub toggled_rest : (from column count : ℕ) (entries : List Toggled) (at : ℕ) → LieIn from column (take count entries) →
    column ≤ at → toggled_at (drop count entries) at ≡ toggled_at entries at
toggled_rest from column count entries at lie far =
    sym (rest_alone from column (take count entries) (drop count entries) at lie far)
    ∙ ap (λ es. toggled_at es at) (take-append-drop count entries)
