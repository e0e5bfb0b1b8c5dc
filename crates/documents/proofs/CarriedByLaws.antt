-- Where the changes of the text that are told of a command take a mark: where its edits take it.
use Rattle.documents.proofs.Common.{◌≡◌, ℕ, suc, ◌+◌, ◌-◌, ◌≤◌, List, [], ◌∷◌, map, length, refl, sym, ap, ◌∙◌, arith}
use Rattle.documents.proofs.Common.{subst, Action, AreExact, EditTold, KeyedCell, Place, Span, TellsCells, carried_all}
use Rattle.documents.proofs.Common.{characters, deletion, drawn, goes_behind, if◌then◌else◌, insertion, length-map}
use Rattle.documents.proofs.Common.{moved, nat_lt, true, false, TextChange, min, ltb-false, reverse, AreApart}
use Rattle.documents.proofs.Common.{replacing}
use Rattle.edit_ops.proofs.HunkLaws.{inserting-of}
use Rattle.edit_ops.proofs.DeterminedLaws.{Shape, shape_of, EndBelow, told-below}
use Rattle.edit_ops.proofs.ExactShapeLaws.{exact-deletions, exact-hunks, exact-none, exact-replacement, hunk_shape}
use Rattle.edit_ops.proofs.ExactShapeLaws.{span_shape}

-- ---- a mark is taken by what changes do

abbrev carried_by : Shape → Place → Place
carried_by shape place = moved shape.at (length shape.inserted) (drawn shape.at (shape.at + shape.removed) place)

abbrev carried_by_all : List Shape → Place → Place
carried_by_all [] place = place
carried_by_all (shape ∷ shapes) place = carried_by_all shapes (carried_by shape place)

by-shapes : (changes : List TextChange) (place : Place)
    → carried_all changes place ≡ carried_by_all (map shape_of changes) place
by-shapes [] place = refl
by-shapes (change ∷ changes) place = by-shapes changes (carried_by (shape_of change) place)

-- a mark after deletions, one after the other
abbrev pub drawn_all : List Span → Place → Place
drawn_all [] place = place
drawn_all (run ∷ runs) place = drawn_all runs (drawn run.from run.to place)

-- nothing is put in, or taken out
pub moved-none : (at : ℕ) (place : Place) → moved at 0 place ≡ place
moved-none at place =
    let same : place.offset + 0 ≡ place.offset = omega arith in
    elim (goes_behind at place) as (λ b. (if b then record place { offset = place.offset + 0 } else place) ≡ place) [
      | true ↦ λ i. record place { offset = same i }
      | false ↦ refl
    ]

pub drawn-none : (at : ℕ) (place : Place) → drawn at at place ≡ place
drawn-none at place =
    let same : min place.offset at + (place.offset - at) ≡ place.offset = omega arith in
    λ i. record place { offset = same i }

replacing-carries : (from to : ℕ) (text : List ℕ) (place : Place) → from ≤ to
    → carried_by_all (reverse (map hunk_shape (replacing from to text))) place
    ≡ moved from (length text) (drawn from to place)
replacing-carries from to (character ∷ text) place ordered =
    let end : from + (to - from) ≡ to = omega (arith, ordered) in
    ap (λ n. moved from (length (character ∷ text)) (drawn from n place)) end
replacing-carries from to [] place ordered =
    let end : from + (to - from) ≡ to = omega (arith, ordered) in
    elim (nat_lt from to) as (λ b. nat_lt from to ≡ b → carried_by_all (reverse (map hunk_shape
    (if b then record { from = from; to = to; text = [] } ∷ [] else []))) place
    ≡ moved from 0 (drawn from to place)) [
      | true ↦ λ _. ap (λ n. moved from 0 (drawn from n place)) end
      | false ↦ λ not_less.
          let below = ltb-false from to not_less in
          let same : from ≡ to = omega (arith, below, ordered) in
          sym (moved-none from (drawn from to place)
          ∙ ap (λ n. drawn from n place) (sym same) ∙ drawn-none from place)
    ] refl

deletions-carry : (end : ℕ) (runs : List Span) (place : Place) → AreApart end runs
    → carried_by_all (map span_shape runs) place ≡ drawn_all runs place
deletions-carry end [] place apart = refl
deletions-carry end (run ∷ runs) place apart =
    let some = apart.0 in
    let ends : run.from + (run.to - run.from) ≡ run.to = omega (arith, some) in
    ap (carried_by_all (map span_shape runs))
    (moved-none run.from (drawn run.from (run.from + (run.to - run.from)) place))
    ∙ ap (λ n. carried_by_all (map span_shape runs) (drawn run.from n place)) ends
    ∙ deletions-carry run.from runs (drawn run.from run.to place) apart.2

-- ---- what is told of a command

module _ {edits : List Action} {old new : List KeyedCell} {told : EditTold}
    (tells : TellsCells edits old new told) where
  told-exact : AreExact edits (length (characters old)) told.changes
  told-exact = subst (λ n. AreExact edits n told.changes)
      (sym (length-map old (λ (cell : KeyedCell). cell.character))) tells.exact

  told-end : EndBelow (suc (length (characters old))) told.changes
  told-end = told-below told.changes (characters old) (characters new) tells.text tells.exact.falling

-- without edits no change is told
pub told-none : {old new : List KeyedCell} {told : EditTold} → TellsCells [] old new told → told.changes ≡ []
told-none {old} {new} {told} tells =
    exact-none (characters old) told.changes (told-exact tells) (told-end tells)

-- The changes that are told of a replacement take every mark as the deletion does, and then the insertion.
pub replacement-carries : {old new : List KeyedCell} {told : EditTold} (from to : ℕ) (text : List ℕ) (place : Place)
    → from ≤ to → to ≤ length old
    → TellsCells (deletion (characters old) from to ∷ insertion from text ∷ []) old new told
    → carried_all told.changes place ≡ moved from (length text) (drawn from to place)
replacement-carries {old} {new} {told} from to text place ordered within tells =
    let counts = length-map old (λ (cell : KeyedCell). cell.character) in
    by-shapes told.changes place
    ∙ ap (λ shapes. carried_by_all shapes place)
    (exact-replacement (characters old) from to text told.changes ordered (omega (arith, within, counts))
    (told-exact tells) (told-end tells))
    ∙ replacing-carries from to text place ordered

-- those of an insertion, as the insertion does
pub insertion-carries : {old new : List KeyedCell} {told : EditTold} (at : ℕ) (text : List ℕ) (place : Place)
    → at ≤ length old → TellsCells (insertion at text ∷ []) old new told
    → carried_all told.changes place ≡ moved at (length text) place
insertion-carries {old} {new} {told} at text place within tells =
    let counts = length-map old (λ (cell : KeyedCell). cell.character) in
    by-shapes told.changes place
    ∙ ap (λ shapes. carried_by_all shapes place)
    (exact-hunks (characters old) (insertion at text ∷ []) told.changes (replacing at at text)
    (told-exact tells) (told-end tells)
    (inserting-of (length (characters old)) at text (omega (arith, within, counts))))
    ∙ replacing-carries at at text place (omega arith)
    ∙ ap (moved at (length text)) (drawn-none at place)

-- those of deletions of runs, the last first, between which a character stays, as the deletions do, one after the other
pub deletions-carried : {old new : List KeyedCell} {told : EditTold} (end : ℕ) (runs : List Span) (place : Place)
    → AreApart end runs → end ≤ length old
    → TellsCells (map (λ (run : Span). deletion (characters old) run.from run.to) runs) old new told
    → carried_all told.changes place ≡ drawn_all runs place
deletions-carried {old} {new} {told} end runs place apart within tells =
    let counts = length-map old (λ (cell : KeyedCell). cell.character) in
    by-shapes told.changes place
    ∙ ap (λ shapes. carried_by_all shapes place)
    (exact-deletions (characters old) end runs told.changes apart (omega (arith, within, counts))
    (told-exact tells) (told-end tells))
    ∙ deletions-carry end runs place apart
