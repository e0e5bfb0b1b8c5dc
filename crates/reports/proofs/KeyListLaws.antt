-- Keys as loops list them.
use Rattle.reports.proofs.Common.{◌≡◌, ℕ, ◌+◌, ◌<◌, Bool, true, false, not, List, [], ◌∷◌, ◌++◌, Some, filter, map}
use Rattle.reports.proofs.Common.{take, length, get_or, refl, sym, ap, ap₂, ◌∙◌, option_map, map-append, same_Some}
use Rattle.reports.proofs.Common.{slice_get-map, Named, numbers_of, stood_at, Tag, sel, slots_of, Slots, SlotRun}
use Rattle.reports.proofs.Common.{is_same, Key, is_shared, seat_pair, tag_pair, TagChange, slice_get, ◌&&◌, ◌||◌, subst}
use Rattle.reports.proofs.Common.{All-nil, nat_cmp_total, HoldsSlots, TellsRuns, All-weaker, or_left, or_right}
use Rattle.reports.proofs.Common.{eq_by_cmp, key_cmp, All-more, nat_cmp, true≢false, names_of}
use Rattle.command_effects.proofs.WrittenLaws.{filter-in, filter-out, take-found}
use Rattle.std.specs.Str.{chars}
use Rattle.tag_table.specs.Tags.{names_of as tag_names}
use Rattle.text_model.specs.SlotSets.{differing}
use Rattle.text_model.proofs.TagSteps.{contains-differing}
use Rattle.reports.proofs.BridgeLaws.{or_none}
use Rattle.reports.proofs.KeyRunLaws.{run-none, runs-none, runs-then}
use Rattle.reports.proofs.LookupLaws.{and_none}
use Rattle.std.specs.FinSet as set

-- the name `sel` as it stands in code
pub sel-is : chars (115 ∷ 101 ∷ 108 ∷ []) ≡ sel
unfolding chars
sel-is = refl

-- ---- the slots of runs

either-slot : (had has : Bool) → (let more = (has && not (has && had)) || ((has && had) && not has) in
    ((had && not more) || (more && not had)) ≡ (had || has))
either-slot true true = refl
either-slot true false = refl
either-slot false true = refl
either-slot false false = refl

-- a set with the slots that it hasn't of another one
joined-slots : (slots others : Slots) (slot : ℕ) →
    set.contains (differing slots (differing others (set.intersection others slots))) slot
    ≡ (set.contains slots slot || set.contains others slot)
joined-slots slots others slot =
    let had = set.contains slots slot in
    let has = set.contains others slot in
    contains-differing slots (differing others (set.intersection others slots)) slot
    ∙ ap (λ more. (had && not more) || (more && not had))
    (contains-differing others (set.intersection others slots) slot
    ∙ ap (λ both. (has && not both) || (both && not has)) (set.contains-intersection nat_cmp_total others slots slot))
    ∙ either-slot had has

pub held-none : (slots : Slots) → HoldsSlots [] slots
held-none slots slot = All-nil (λ (r : SlotRun). set.contains r.slots slot ≡ true → set.contains slots slot ≡ true)

pub held-more : (runs : List SlotRun) (at : ℕ) (run : SlotRun) (slots both more now : Slots) → at < length runs →
    run ≡ get_or runs at run → both ≡ set.intersection run.slots slots → more ≡ differing run.slots both
    → now ≡ differing slots more → HoldsSlots (take at runs) slots → HoldsSlots (take (at + 1) runs) now
held-more runs at run slots both more now within is common fresh made holds = λ slot.
    let P : Slots → SlotRun → Type 0 = λ ss r. set.contains r.slots slot ≡ true → set.contains ss slot ≡ true in
    let had = set.contains slots slot in
    let either : set.contains now slot ≡ (had || set.contains run.slots slot) =
    ap (λ ss. set.contains ss slot) (made ∙ ap (differing slots) (fresh ∙ ap (differing run.slots) common))
    ∙ joined-slots slots run.slots slot in
    All-more (P now) runs at run within
    (All-weaker (P slots) (P now) (λ r held there. either ∙ or_left had (set.contains run.slots slot) (held there))
    (take at runs) (holds slot))
    (λ there. either ∙ or_right had (set.contains run.slots slot)
    (ap (λ (r : SlotRun). set.contains r.slots slot) is ∙ there))

-- a run without slots adds none
pub held-empty : (runs : List SlotRun) (at : ℕ) (run : SlotRun) (slots : Slots) → at < length runs →
    run ≡ get_or runs at run → run.slots ≡ set.empty → HoldsSlots (take at runs) slots
    → HoldsSlots (take (at + 1) runs) slots
held-empty runs at run slots within is none holds = λ slot.
    All-more (λ (r : SlotRun). set.contains r.slots slot ≡ true → set.contains slots slot ≡ true) runs at run within
    (holds slot) (λ there. absurd (true≢false (sym there ∙ ap (λ (r : SlotRun). set.contains r.slots slot) (sym is)
    ∙ ap (λ ss. set.contains ss slot) none ∙ set.contains-empty nat_cmp slot)))

-- what stands at a place has the name and the number that stand there
named-at : {A B C : Type 0} (name : A → B) (number : A → C) (xs : List A) (place : ℕ) (n : B) (k : C) →
    slice_get (map name xs) place ≡ Some n → slice_get (map number xs) place ≡ Some k
    → (x : A) × (slice_get xs place ≡ Some x) × (name x ≡ n) × (number x ≡ k)
named-at name number xs place n k named numbered =
    let found = stood_at number xs place k numbered in
    let same = sym (slice_get-map name xs place ∙ ap (option_map name) found.1) ∙ named in
    (found.0, found.1, same_Some (name found.0) n same, found.2)

-- ---- the seats and the tags, one by one

module _ (on : Bool) (runs : List SlotRun) (told : List TagChange) where
  pub runs-begun : TellsRuns [] on runs told told
  runs-begun = runs-none [] on runs told (λ key at. refl)

  module _ (before : List TagChange) where
    -- one pair more
    one-more : {A : Type 0} (f : A → ℕ × Key) (xs more : List A) (x : A) (now : List TagChange) → more ≡ xs ++ x ∷ [] →
        TellsRuns (map f xs) on runs told before → TellsRuns (f x ∷ []) on runs before now
        → TellsRuns (map f more) on runs told now
    one-more f xs more x now longer so_far tells =
        subst (λ pairs. TellsRuns pairs on runs told now) (sym (ap (map f) longer ∙ map-append f xs (x ∷ [])))
        (runs-then (map f xs) (f x ∷ []) on runs told before now so_far tells)

    -- whose slot no run has
    none-more : {A : Type 0} (f : A → ℕ × Key) (xs more : List A) (x : A) (slots : Slots) → more ≡ xs ++ x ∷ [] →
        HoldsSlots runs slots → set.contains slots (f x).0 ≡ false → TellsRuns (map f xs) on runs told before
        → TellsRuns (map f more) on runs told before
    none-more f xs more x slots longer holds none so_far =
        one-more f xs more x before longer so_far (runs-none (f x ∷ []) on runs before (λ key at.
        let tied = eq_by_cmp key_cmp key (f x).1 in
        ap (λ b. (tied && b) || false) (run-none runs slots (f x).0 at holds none) ∙ or_none (tied && false)
        ∙ and_none tied))

    pub selection-in : (seats : List Named) (place number : ℕ) (name : List ℕ) (key : Key) (now : List TagChange)
        → slice_get (names_of seats) place ≡ Some name → slice_get (numbers_of seats) place ≡ Some number
        → key ≡ record { selects = true; name = name }
        → TellsRuns (map seat_pair (take place seats)) on runs told before
        → TellsRuns ((number, key) ∷ []) on runs before now
        → TellsRuns (map seat_pair (take (place + 1) seats)) on runs told now
    selection-in seats place number name key now named numbered made so_far tells =
        let found = named-at (λ (seat : Named). seat.name) (λ (seat : Named). seat.number) seats place name number named
        numbered in
        let same : (number, key) ≡ seat_pair found.0 = ap₂ (λ (n : ℕ) (k : Key). (n, k)) (sym found.3)
        (made ∙ ap (λ n. record { selects = true; name = n }) (sym found.2)) in
        one-more seat_pair (take place seats) (take (place + 1) seats) found.0 now (take-found seats place found.0 found.1)
        so_far (subst (λ pair. TellsRuns (pair ∷ []) on runs before now) same tells)

    pub selection-out : (seats : List Named) (place number : ℕ) (slots : Slots) (has : Bool) → HoldsSlots runs slots
        → slice_get (numbers_of seats) place ≡ Some number → has ≡ set.contains slots number → has ≡ false
        → TellsRuns (map seat_pair (take place seats)) on runs told before
        → TellsRuns (map seat_pair (take (place + 1) seats)) on runs told before
    selection-out seats place number slots has holds numbered is none so_far =
        let found = stood_at (λ (seat : Named). seat.number) seats place number numbered in
        none-more seat_pair (take place seats) (take (place + 1) seats) found.0 slots
        (take-found seats place found.0 found.1) holds (ap (set.contains slots) found.2 ∙ sym is ∙ none) so_far

    pub shared-in : (tags : List Tag) (place slot : ℕ) (name : List ℕ) (key : Key) (own : Bool) (now : List TagChange)
        → slice_get (tag_names tags) place ≡ Some name → slice_get (slots_of tags) place ≡ Some slot
        → own ≡ is_same name sel → own ≡ false → key ≡ record { selects = false; name = name }
        → TellsRuns (map tag_pair (filter is_shared (take place tags))) on runs told before
        → TellsRuns ((slot, key) ∷ []) on runs before now
        → TellsRuns (map tag_pair (filter is_shared (take (place + 1) tags))) on runs told now
    shared-in tags place slot name key own now named numbered is other made so_far tells =
        let found = named-at (λ (tag : Tag). tag.name) (λ (tag : Tag). tag.slot) tags place name slot named numbered in
        let same : (slot, key) ≡ tag_pair found.0 = ap₂ (λ (n : ℕ) (k : Key). (n, k)) (sym found.3)
        (made ∙ ap (λ n. record { selects = false; name = n }) (sym found.2)) in
        one-more tag_pair (filter is_shared (take place tags)) (filter is_shared (take (place + 1) tags)) found.0 now
        (filter-in is_shared tags place found.0 found.1 (ap (λ n. not (is_same n sel)) found.2
        ∙ ap not (sym is ∙ other))) so_far (subst (λ pair. TellsRuns (pair ∷ []) on runs before now) same tells)

    pub shared-out : (tags : List Tag) (place slot : ℕ) (slots : Slots) (has : Bool) → HoldsSlots runs slots
        → slice_get (slots_of tags) place ≡ Some slot → has ≡ set.contains slots slot → has ≡ false
        → TellsRuns (map tag_pair (filter is_shared (take place tags))) on runs told before
        → TellsRuns (map tag_pair (filter is_shared (take (place + 1) tags))) on runs told before
    shared-out tags place slot slots has holds numbered is none so_far =
        let found = stood_at (λ (tag : Tag). tag.slot) tags place slot numbered in
        elim (is_shared found.0) as (λ b. is_shared found.0 ≡ b →
        TellsRuns (map tag_pair (filter is_shared (take (place + 1) tags))) on runs told before) [
          | true ↦ λ passes. none-more tag_pair (filter is_shared (take place tags))
              (filter is_shared (take (place + 1) tags)) found.0 slots (filter-in is_shared tags place found.0 found.1
              passes) holds (ap (set.contains slots) found.2 ∙ sym is ∙ none) so_far
          | false ↦ λ fails. subst (λ ts. TellsRuns (map tag_pair ts) on runs told before)
              (sym (filter-out is_shared tags place found.0 found.1 fails)) so_far
        ] refl

    pub own-out : (tags : List Tag) (place : ℕ) (name : List ℕ) (own : Bool) →
        slice_get (tag_names tags) place ≡ Some name → own ≡ is_same name sel → own ≡ true
        → TellsRuns (map tag_pair (filter is_shared (take place tags))) on runs told before
        → TellsRuns (map tag_pair (filter is_shared (take (place + 1) tags))) on runs told before
    own-out tags place name own named is same so_far =
        let found = stood_at (λ (tag : Tag). tag.name) tags place name named in
        subst (λ ts. TellsRuns (map tag_pair ts) on runs told before)
        (sym (filter-out is_shared tags place found.0 found.1 (ap (λ n. not (is_same n sel)) found.2
        ∙ ap not (sym is ∙ same)))) so_far
