-- The marks of a line as a map, and what moving them makes of it.
use Rattle.segments.proofs.Common.{◌≡◌, ℕ, ◌+◌, ◌<◌, ◌≤◌, T, ◌&&◌, ◌++◌, List, [], ◌∷◌, true, false, length, map, take}
use Rattle.segments.proofs.Common.{drop, refl, sym, ap, ap₂, subst, ◌∙◌, arith, All, if◌then◌else◌, length-map}
use Rattle.segments.proofs.Common.{take-append-le, take_all, nat_tests, All-head, All-map, All-tail, All-weaker}
use Rattle.segments.proofs.Common.{nat_cmp_total, is_sorted, below_all, is_lt, nat_cmp, Place, map_marks, drawn}
use Rattle.segments.proofs.Common.{is_right, moved, Mark, AreKept, Rise, StandIn, entries_of, entry_of, marks_of}
use Rattle.segments.proofs.Common.{with_place, ◌==◌, ◌||◌, nat_lt}
use Rattle.text_model.proofs.StepLaws.{moved_le}
use Rattle.std.specs.FinMap as finite

pub len-marks : (marks : List Mark) → Rise marks → finite.len (marks_of marks) ≡ length marks
len-marks marks rise = finite.len-entries (marks_of marks)
    ∙ ap length (finite.entries-from_sorted nat_cmp (entries_of marks) rise) ∙ length-map marks entry_of

-- the numbers of the marks that a function puts elsewhere
placed-below : (number : ℕ) (f : Place → Place) (marks : List Mark) →
    below_all nat_cmp number (entries_of (map (with_place f) marks)) ≡ below_all nat_cmp number (entries_of marks)
placed-below number f [] = refl
placed-below number f (mark ∷ marks) = ap (λ b. is_lt (nat_cmp number mark.number.0) && b) (placed-below number f marks)

-- a place before a column stays where an insertion goes on from there, or a removal does
moved_before : (at count : ℕ) (place : Place) → place.offset < at → moved at count place ≡ place
moved_before at count place before =
    let low : nat_lt at place.offset ≡ false = grind (arith, nat_tests, before) in
    let apart : (place.offset == at) ≡ false = grind (arith, nat_tests, before) in
    ap₂ (λ a b. if a || (b && is_right place.gravity) then record place { offset = place.offset + count } else place) low
    apart

drawn_before : (from to : ℕ) (place : Place) → from ≤ to → place.offset ≤ from → drawn from to place ≡ place
drawn_before from to place ordered before =
    ap (λ offset. record place { offset = offset }) (omega (arith, ordered, before))

placed-sorted : (f : Place → Place) (marks : List Mark) →
    is_sorted nat_cmp (entries_of (map (with_place f) marks)) ≡ is_sorted nat_cmp (entries_of marks)
placed-sorted f [] = refl
placed-sorted f (mark ∷ marks) = ap₂ (λ a b. a && b) (placed-below mark.number.0 f marks) (placed-sorted f marks)

pub Rise-placed : (f : Place → Place) (marks : List Mark) → Rise marks → Rise (map (with_place f) marks)
Rise-placed f marks rise = subst T (sym (placed-sorted f marks)) rise

placed-entries : (f : Place → Place) (marks : List Mark) →
    entries_of (map (with_place f) marks) ≡ map (λ (entry : ℕ × Place). (entry.0, f entry.1)) (entries_of marks)
placed-entries f [] = refl
placed-entries f (mark ∷ marks) = ap (λ es. (mark.number.0, f mark.place) ∷ es) (placed-entries f marks)

pub marks_of-placed : (f : Place → Place) (marks : List Mark) → Rise marks →
    marks_of (map (with_place f) marks) ≡ map_marks f (marks_of marks)
marks_of-placed f marks rise =
    let es = entries_of (map (with_place f) marks) in
    finite.same_map nat_cmp_total finite.nat_cmp-IsAntisymmetric _ _ (λ q.
    finite.get-from_sorted nat_cmp es q (Rise-placed f marks rise)
    ∙ sym (finite.get-from_entries nat_cmp_total es q))
    ∙ ap finite.from_entries (placed-entries f marks
    ∙ ap (map (λ (entry : ℕ × Place). (entry.0, f entry.1)))
    (sym (finite.entries-from_sorted nat_cmp (entries_of marks) rise)))

pub StandIn-placed : (f : Place → Place) (marks : List Mark) (len new_len : ℕ) →
    ((place : Place) → place.offset ≤ len → (f place).offset ≤ new_len) → StandIn len marks →
    StandIn new_len (map (with_place f) marks)
StandIn-placed f marks len new_len keeps stand =
    All-map (λ (mark : Mark). mark.place.offset ≤ new_len) (with_place f) marks (λ k d small. keeps _ (stand k d small))

-- where none stands at a place that an insertion changes, none moves
all_stay : (f : Place → Place) (marks : List Mark) → All (λ (mark : Mark). f mark.place ≡ mark.place) marks →
    map (with_place f) marks ≡ marks
all_stay f [] stay = refl
all_stay f (mark ∷ marks) stay =
    ap₂ (λ (place : Place) rest. record mark { place = place } ∷ rest)
    (All-head (λ (mark : Mark). f mark.place ≡ mark.place) mark marks stay)
    (all_stay f marks (All-tail (λ (mark : Mark). f mark.place ≡ mark.place) mark marks stay))

pub none_moved : (at count reach : ℕ) (marks : List Mark) → reach < at → StandIn reach marks →
    marks ≡ map (with_place (moved at count)) marks
none_moved at count reach marks before stand =
    sym (all_stay (moved at count) marks
    (All-weaker (λ (mark : Mark). mark.place.offset ≤ reach) (λ (mark : Mark). moved at count mark.place ≡ mark.place)
    (λ mark low. moved_before at count mark.place (omega (arith, low, before))) marks stand))

pub none_drawn : (from to reach : ℕ) (marks : List Mark) → from ≤ to → reach ≤ from → StandIn reach marks →
    marks ≡ map (with_place (drawn from to)) marks
none_drawn from to reach marks ordered before stand =
    sym (all_stay (drawn from to) marks
    (All-weaker (λ (mark : Mark). mark.place.offset ≤ reach) (λ (mark : Mark). drawn from to mark.place ≡ mark.place)
    (λ mark low. drawn_before from to mark.place ordered (omega (arith, low, before))) marks stand))

-- behind which column none stands after an insertion
abbrev pub moved_reach : ℕ → ℕ → ℕ → ℕ
moved_reach at count reach = if nat_lt reach at then reach else reach + count

pub moved_within : (at count reach len : ℕ) → reach ≤ len → moved_reach at count reach ≤ len + count
moved_within at count reach len low =
    elim (nat_lt reach at) as (λ b. (if b then reach else reach + count) ≤ len + count) [
      | true ↦ omega (arith, low)
      | false ↦ omega (arith, low)
    ]

pub moved_stand : (at count reach : ℕ) (marks : List Mark) → StandIn reach marks →
    StandIn (moved_reach at count reach) (map (with_place (moved at count)) marks)
moved_stand at count reach marks stand =
    elim (nat_lt reach at) as (λ b. nat_lt reach at ≡ b
    → StandIn (if b then reach else reach + count) (map (with_place (moved at count)) marks)) [
      | true ↦ λ before. subst (StandIn reach) (none_moved at count reach marks (grind (arith, nat_tests, before)) stand)
          stand
      | false ↦ λ before. StandIn-placed (moved at count) marks reach (reach + count) (moved_le at count reach) stand
    ] refl

-- marks that are kept stand in their line
pub kept_stand : (len reach : ℕ) (marks : List Mark) → AreKept len reach marks → StandIn len marks
kept_stand len reach marks kept =
    All-weaker (λ (mark : Mark). mark.place.offset ≤ reach) (λ (mark : Mark). mark.place.offset ≤ len)
    (λ mark low. omega (arith, low, kept.within)) marks kept.stand

-- marks written over all of a list
pub written_over : (count : ℕ) (new old : List Mark) → length new ≡ count →
    take count (new ++ drop (length new) old) ≡ new
written_over count new old long =
    take-append-le count new (drop (length new) old) (omega arith) ∙ take_all count new (omega arith)
