-- How long a text is after each step, that marks stand in it, and steps behind others.
use Rattle.text_model.proofs.Common.{◌≡◌, ℕ, ◌+◌, ◌≤◌, Bool, true, false, cond, List, [], ◌∷◌, ◌++◌, length, Option}
use Rattle.text_model.proofs.Common.{Some, None, refl, sym, subst, ◌∙◌, arith, option_map, if◌then◌else◌, nat_cmp}
use Rattle.text_model.proofs.Common.{eq_by_cmp, nat_cmp_total, length-map, Cell, Step, Remove, Insert, SetTag}
use Rattle.text_model.proofs.Common.{ClearTags, ClearSlot, PutMark, TakeMark, Place, Content, Marks, map_marks}
use Rattle.text_model.proofs.Common.{MarksStand, inserted, goes_behind, moved, drawn, cells_of, with_slot}
use Rattle.text_model.proofs.Common.{without_slots, StepFits, Fits, FitsIn, length_after, after_step, after}
use Rattle.text_model.proofs.PlaceLaws.{get-map_marks}
use Rattle.text_model.proofs.SpliceLaws.{length-cells_inserted, length-removed, length-changed}
use Rattle.std.specs.FinMap as finite

pub moved_le : (at count end : ℕ) (place : Place) → place.offset ≤ end → (moved at count place).offset ≤ end + count
moved_le at count end place within =
    elim (goes_behind at place) as (λ b. (if b then record place { offset = place.offset + count } else place).offset
    ≤ end + count) [ true ↦ omega arith | false ↦ omega arith ]

-- a mark that a function puts elsewhere stands where the function keeps it
stands : (f : Place → Place) (end new_end : ℕ) (old : Option Place) (place : Place) →
    ((here : Place) → old ≡ Some here → here.offset ≤ end)
    → ((here : Place) → here.offset ≤ end → (f here).offset ≤ new_end) → option_map f old ≡ Some place →
    place.offset ≤ new_end
stands f end new_end None place within keeps is = absurd (let no : None ≡ Some place = is in cc)
stands f end new_end (Some here) place within keeps is =
    let same : f here ≡ place = cc in
    let below = keeps here (within here refl) in
    rw (← same) below

MarksStand-map_marks : (f : Place → Place) (marks : Marks) (end new_end : ℕ) →
    ((number : ℕ) (place : Place) → finite.get marks number ≡ Some place → place.offset ≤ end)
    → ((here : Place) → here.offset ≤ end → (f here).offset ≤ new_end)
    → (number : ℕ) (place : Place) → finite.get (map_marks f marks) number ≡ Some place → place.offset ≤ new_end
MarksStand-map_marks f marks end new_end within keeps number place is =
    stands f end new_end (finite.get marks number) place (within number) keeps (sym (get-map_marks f marks number) ∙ is)

put_stands : (b : Bool) (old : Option Place) (new place : Place) (end : ℕ) → (old ≡ Some place → place.offset ≤ end) →
    new.offset ≤ end → cond b (Some new) old ≡ Some place → place.offset ≤ end
put_stands true old new place end within small is = let same : new ≡ place = cc in rw (← same) small
put_stands false old new place end within small is = within is

taken_stands : (b : Bool) (old : Option Place) (place : Place) (end : ℕ) → (old ≡ Some place → place.offset ≤ end) →
    cond b None old ≡ Some place → place.offset ≤ end
taken_stands true old place end within is = absurd (let no : None ≡ Some place = is in cc)
taken_stands false old place end within is = within is

longer : (content : Content) (cells : List Cell) → length cells ≡ length content.cells → MarksStand content →
    MarksStand (record content { cells = cells })
longer content cells same stand number place is = rw same (stand number place is)

-- no step leaves a mark behind the end
pub MarksStand-after_step : (step : Step) (content : Content) → StepFits step content → MarksStand content →
    MarksStand (after_step step content)
MarksStand-after_step (Remove from to) content fits stand =
    MarksStand-map_marks (drawn from to) content.marks (length content.cells) _ stand (λ here within.
    omega (arith, fits.0, fits.1, length-removed from to content.cells fits.0 (omega (arith, fits.1))))
MarksStand-after_step (Insert at text slots) content fits stand =
    let long : length (inserted at (cells_of text slots) content.cells)
    ≡ length content.cells + length text = length-cells_inserted at text slots content.cells (omega (arith, fits))
    in
    MarksStand-map_marks (moved at (length text)) content.marks (length content.cells) _ stand (λ here within.
    rw long (moved_le at (length text) (length content.cells) here within))
MarksStand-after_step (SetTag from to slot on) content fits stand =
    longer content _ (length-changed (with_slot slot.0 on) from to content.cells fits.0 fits.1) stand
MarksStand-after_step (ClearTags at) content fits stand =
    longer content _ (length-changed without_slots at (at + 1) content.cells (omega arith) (omega (arith, fits))) stand
MarksStand-after_step (ClearSlot slot) content fits stand =
    longer content _ (length-map content.cells (with_slot slot.0 false)) stand
MarksStand-after_step (PutMark number place) content fits stand =
    λ q there is. put_stands (eq_by_cmp nat_cmp q number.0) (finite.get content.marks q) place there
    (length content.cells) (stand q there) fits
    (sym (finite.get-insert nat_cmp_total content.marks number.0 place q) ∙ is)
MarksStand-after_step (TakeMark number) content fits stand =
    λ q there is. taken_stands (eq_by_cmp nat_cmp q number.0) (finite.get content.marks q) there (length content.cells)
    (stand q there) (sym (finite.get-remove nat_cmp_total content.marks number.0 q) ∙ is)

-- steps behind others are made in what those leave
pub after-append : (steps others : List Step) (content : Content) →
    after (steps ++ others) content ≡ after others (after steps content)
after-append [] others content = refl
after-append (step ∷ steps) others content = after-append steps others (after_step step content)

pub Fits-append : (steps others : List Step) (content : Content) → Fits steps content →
    Fits others (after steps content) → Fits (steps ++ others) content
Fits-append [] others content fits rest = rest
Fits-append (step ∷ steps) others content fits rest =
    (fits.0, Fits-append steps others (after_step step content) fits.1 rest)

pub MarksStand-after : (steps : List Step) (content : Content) → Fits steps content → MarksStand content →
    MarksStand (after steps content)
MarksStand-after [] content fits stand = stand
MarksStand-after (step ∷ steps) content fits stand =
    MarksStand-after steps (after_step step content) fits.1 (MarksStand-after_step step content fits.0 stand)

pub length-after_step : (step : Step) (content : Content) → StepFits step content →
    length (after_step step content).cells ≡ length_after step (length content.cells)
length-after_step (Remove from to) content fits =
    omega (arith, fits.0, fits.1, length-removed from to content.cells fits.0 (omega (arith, fits.1)))
length-after_step (Insert at text slots) content fits =
    length-cells_inserted at text slots content.cells (omega (arith, fits))
length-after_step (SetTag from to slot on) content fits =
    length-changed (with_slot slot.0 on) from to content.cells fits.0 fits.1
length-after_step (ClearTags at) content fits =
    length-changed without_slots at (at + 1) content.cells (omega arith) (omega (arith, fits))
length-after_step (ClearSlot slot) content fits = length-map content.cells (with_slot slot.0 false)
length-after_step (PutMark number place) content fits = refl
length-after_step (TakeMark number) content fits = refl

-- whether steps fit hangs on the number of cells alone
pub Fits-from_FitsIn : (steps : List Step) (content : Content) → FitsIn steps (length content.cells) →
    Fits steps content
Fits-from_FitsIn [] content fits = fits
Fits-from_FitsIn (step ∷ steps) content fits = (
  fits.0,
  Fits-from_FitsIn steps (after_step step content)
      (subst (FitsIn steps) (sym (length-after_step step content fits.0)) fits.1),
)
