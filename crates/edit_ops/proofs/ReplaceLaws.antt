-- Texts in the place of a span, and the mark that is clipped.
use Rattle.edit_ops.proofs.Common.{◌≡◌, ℕ, ◌+◌, ◌-◌, ◌<◌, ◌≤◌, ◌==◌, ◌&&◌, Bool, true, false, List, [], ◌∷◌, ◌++◌}
use Rattle.edit_ops.proofs.Common.{Option, Some, None, length, get_or, refl, sym, ap, ap₂, ◌∙◌, arith, subst, slice_get}
use Rattle.edit_ops.proofs.Common.{min, nat_le, nat_lt, option_and_then, if◌then◌else◌, nat_tests, Cell, PutMark, Place}
use Rattle.edit_ops.proofs.Common.{MarkNo, Content, Slots, slot_sets, slots_left_of, removed, Fits, after}
use Rattle.edit_ops.proofs.Common.{length-removed, map-removed, get_or-removed_before, get_or-removed_behind}
use Rattle.edit_ops.proofs.Common.{Fits-append, after-append, Replace, SlottedText, Recording, slots_around}
use Rattle.edit_ops.proofs.Common.{inserted_texts, total, IsBetween, clipped, with_mark, removed_span, replaced_span}
use Rattle.edit_ops.proofs.Common.{State, Outline, outlineed, length-slot_sets}
use Rattle.edit_ops.proofs.InsertLaws.{around-is, behind-is}
use Rattle.std.specs.FinSet as set
use Rattle.std.specs.FinMap as finite

around-removed : (from to : ℕ) (cells : List Cell) → from ≤ to → to < length cells
    → slots_around from from (removed from to cells) ≡ slots_around from to cells
around-removed from to cells ordered within =
    let sets = slot_sets cells in
    let long : length sets ≡ length cells = length-slot_sets cells in
    let whole = map-removed (λ (cell : Cell). cell.tags) from to cells in
    elim (from == 0) as (λ b. (from == 0) ≡ b
    → (if b then set.empty else set.intersection (get_or (slot_sets (removed from to cells)) (from - 1) set.empty)
    (get_or (slot_sets (removed from to cells)) from set.empty))
    ≡ (if b then set.empty else set.intersection (get_or sets (from - 1) set.empty) (get_or sets to set.empty))) [
      | true ↦ λ _. refl
      | false ↦ λ test. let some : 0 < from = grind (arith, nat_tests) in
          ap₂ set.intersection
          (ap (λ xs. get_or xs (from - 1) set.empty) whole
          ∙ get_or-removed_before from to sets (from - 1) set.empty (omega (arith, long)) (omega arith))
          (ap (λ xs. get_or xs from set.empty) whole
          ∙ get_or-removed_behind from to sets from set.empty (omega (arith, long)) ordered (omega arith)
          ∙ ap (λ k. get_or sets k set.empty) (let e : from + (to - from) ≡ to = omega arith in e))
    ] refl

-- what stands around a span that was taken out
pub between-removed : (matters : Bool) (before behind : Slots) (len from to : ℕ) (cells now : List Cell) →
    now ≡ removed from to cells → from ≤ to → to < length cells → len ≡ length cells - (to - from)
    → (matters ≡ true → before ≡ slots_left_of from cells) →
    (matters ≡ true → slice_get (slot_sets cells) to ≡ Some behind) → IsBetween matters (set.intersection before behind) behind len from now
between-removed matters before behind len from to cells now now_is ordered within counted before_is behind_is =
    let sets = slot_sets cells in
    let long : length sets ≡ length cells = length-slot_sets cells in
    subst (IsBetween matters (set.intersection before behind) behind len from) (sym now_is) (record {
      counted = let h = length-removed from to cells ordered (omega arith) in omega (arith, h, counted);
      within = omega (arith, counted);
      after = λ on. ap (λ xs. get_or xs from set.empty) (map-removed (λ (cell : Cell). cell.tags) from to cells)
          ∙ get_or-removed_behind from to sets from set.empty (omega (arith, long)) ordered (omega arith)
          ∙ ap (λ k. get_or sets k set.empty) (let e : from + (to - from) ≡ to = omega arith in e)
          ∙ behind-is to cells behind (behind_is on);
      around = λ on. around-removed from to cells ordered within ∙ around-is from to cells behind (behind_is on)
          ∙ ap (λ s. set.intersection s behind) (sym (before_is on));
    })

clipped-within : (from to count : ℕ) (old place : Place) → clipped from to count old ≡ Some place →
    place.offset ≤ from + count
clipped-within from to count old place =
    elim (nat_le from old.offset && nat_lt old.offset to) as (λ b.
    (if b then Some (record old { offset = from + min (old.offset - from) count }) else None) ≡ Some place →
    place.offset ≤ from + count) [
      | true ↦ λ is. let same : from + min (old.offset - from) count ≡ place.offset = cc in omega (arith, same)
      | false ↦ λ is. absurd (let no : None ≡ Some place = is in cc)
    ]

pub found-within : (from to count : ℕ) (old : Option Place) (place : Place) →
    option_and_then (clipped from to count) old ≡ Some place → place.offset ≤ from + count
found-within from to count None place is = absurd (let no : None ≡ Some place = is in cc)
found-within from to count (Some old) place is = clipped-within from to count old place is

-- the mark is put at its place, if it has one
pub mark-fits : (outline new : Outline) (content : Content) (mark : MarkNo) (place : Place) → Fits outline.steps content →
    place.offset ≤ length (after outline.steps content).cells
    → new ≡ record outline { steps = outline.steps ++ PutMark mark place ∷ [] } → Fits new.steps content
mark-fits outline new content mark place fits within made =
    subst (λ (d : Outline). Fits d.steps content) (sym made)
    (Fits-append outline.steps (PutMark mark place ∷ []) content fits (within, tt))

pub mark-put : (recording : Recording) (outline new : Outline) (state : State) (mark : MarkNo) (found : Option Place)
    (place : Place) → found ≡ Some place
    → new ≡ record outline { steps = outline.steps ++ PutMark mark place ∷ [] }
    → outlineed recording Replace new state ≡ record (outlineed recording Replace outline state)
    { content = with_mark mark.0 found (after outline.steps state.content) }
mark-put recording outline new state mark found place is made =
    ap (λ (d : Outline). outlineed recording Replace d state) made
    ∙ ap (λ c. record (outlineed recording Replace outline state) { content = c })
    (after-append outline.steps (PutMark mark place ∷ []) state.content
    ∙ ap (λ o. with_mark mark.0 o (after outline.steps state.content)) (sym is))

pub mark-none : (recording : Recording) (outline new : Outline) (state : State) (mark : MarkNo) (found : Option Place) →
    found ≡ None → new ≡ outline
    → outlineed recording Replace new state ≡ record (outlineed recording Replace outline state)
    { content = with_mark mark.0 found (after outline.steps state.content) }
mark-none recording outline new state mark found is made =
    ap (λ (d : Outline). outlineed recording Replace d state) made
    ∙ ap (λ o. record (outlineed recording Replace outline state)
    { content = with_mark mark.0 o (after outline.steps state.content) }) (sym is)

pub replaced-is : (recording : Recording) (taken outline new : Outline) (state : State) (mark : MarkNo) (from to : ℕ)
    (pieces : List SlottedText) (found : Option Place)
    → outlineed recording Replace outline state
    ≡ inserted_texts recording Replace from pieces (outlineed recording Replace taken state)
    → outlineed recording Replace taken state ≡ removed_span recording Replace from to state
    → found ≡ option_and_then (clipped from to (total pieces)) (finite.get state.content.marks mark.0)
    → outlineed recording Replace new state ≡ record (outlineed recording Replace outline state)
    { content = with_mark mark.0 found (after outline.steps state.content) }
    → outlineed recording Replace new state ≡ replaced_span recording mark.0 from to pieces state
replaced-is recording taken outline new state mark from to pieces found put out clip is =
    is ∙ ap₂ (λ (s : State) o. record s { content = with_mark mark.0 o s.content }) (put
    ∙ ap (inserted_texts recording Replace from pieces) out) clip

pub no-longer : (most len : ℕ) → len ≤ most → most < len → ⊥
no-longer most len short long = omega arith
