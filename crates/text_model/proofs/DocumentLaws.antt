-- A document stays a document.
use Rattle.text_model.proofs.Common.{◌≡◌, ℕ, zero, suc, ◌+◌, ◌<◌, false, List, [], ◌∷◌, ◌++◌, length, take, drop, refl}
use Rattle.text_model.proofs.Common.{sym, subst, ◌∙◌, arith, length-drop, IsScalar, All, length-map, All-append}
use Rattle.text_model.proofs.Common.{All-cons, All-drop, All-nil, All-take, Cell, Step, Remove, Insert, SetTag}
use Rattle.text_model.proofs.Common.{ClearTags, ClearSlot, PutMark, TakeMark, Content, characters, new_content}
use Rattle.text_model.proofs.Common.{IsDocument, ends_in_newline, inserted, removed, StepFits, InsertsScalars}
use Rattle.text_model.proofs.Common.{after_step}
use Rattle.text_model.proofs.CellLaws.{characters-inserted, characters-removed, characters-with_slot}
use Rattle.text_model.proofs.CellLaws.{characters-without_slots, characters-all_with_slot}

ends_in_newline-append : (xs ys : List ℕ) → 0 < length ys → ends_in_newline (xs ++ ys) ≡ ends_in_newline ys
ends_in_newline-append [] ys some = refl
ends_in_newline-append (x ∷ []) [] some = absurd (omega arith)
ends_in_newline-append (x ∷ []) (y ∷ ys) some = refl
ends_in_newline-append (x ∷ next ∷ xs) ys some = ends_in_newline-append (next ∷ xs) ys some

ends_in_newline-drop : (at : ℕ) (text : List ℕ) → at < length text →
    ends_in_newline (drop at text) ≡ ends_in_newline text
ends_in_newline-drop zero text within = refl
ends_in_newline-drop (suc at) [] within = absurd (omega arith)
ends_in_newline-drop (suc at) (x ∷ []) within = absurd (omega arith)
ends_in_newline-drop (suc at) (x ∷ next ∷ text) within = ends_in_newline-drop at (next ∷ text) (omega arith)

pub ends_with_rest : (front : List ℕ) (at : ℕ) (text : List ℕ) → at < length text →
    ends_in_newline (front ++ drop at text) ≡ ends_in_newline text
ends_with_rest front at text within =
    ends_in_newline-append front (drop at text) (omega (arith, length-drop at text))
    ∙ ends_in_newline-drop at text within

-- a text that is put in before the last character, or taken out before it, leaves a document
pub IsDocument-inserted : (at : ℕ) (new text : List ℕ) → at < length text → All IsScalar new → IsDocument text →
    IsDocument (inserted at new text)
IsDocument-inserted at new text within scalars is = record {
  newline = ends_with_rest (take at text ++ new) at text within ∙ is.newline;
  scalars = All-append IsScalar (take at text ++ new) (drop at text)
      (All-append IsScalar (take at text) new (All-take IsScalar at text is.scalars) scalars)
      (All-drop IsScalar at text is.scalars);
}

pub IsDocument-removed : (from to : ℕ) (text : List ℕ) → to < length text → IsDocument text →
    IsDocument (removed from to text)
IsDocument-removed from to text within is = record {
  newline = ends_with_rest (take from text) to text within ∙ is.newline;
  scalars = All-append IsScalar (take from text) (drop to text) (All-take IsScalar from text is.scalars)
      (All-drop IsScalar to text is.scalars);
}

pub IsDocument-new : IsDocument (characters new_content.cells)
IsDocument-new = record { newline = refl; scalars = All-cons IsScalar 10 [] refl (All-nil IsScalar) }

same_text : (text other : List ℕ) → other ≡ text → IsDocument text → IsDocument other
same_text text other same is = subst IsDocument (sym same) is

fewer : (cells : List Cell) (n : ℕ) → n < length cells → n < length (characters cells)
fewer cells n within = omega (arith, within, length-map cells (λ (cell : Cell). cell.character))

-- a step that fits leaves a document
pub IsDocument-after_step : (step : Step) (content : Content) → StepFits step content → InsertsScalars step →
    IsDocument (characters content.cells) → IsDocument (characters (after_step step content).cells)
IsDocument-after_step (Remove from to) content fits scalars is =
    same_text _ _ (characters-removed from to content.cells)
    (IsDocument-removed from to (characters content.cells) (fewer content.cells to fits.1) is)
IsDocument-after_step (Insert at text slots) content fits scalars is =
    same_text _ _ (characters-inserted at text slots content.cells)
    (IsDocument-inserted at text (characters content.cells) (fewer content.cells at fits) scalars is)
IsDocument-after_step (SetTag from to slot on) content fits scalars is =
    same_text _ _ (characters-with_slot slot.0 on from to content.cells fits.0) is
IsDocument-after_step (ClearTags at) content fits scalars is =
    same_text _ _ (characters-without_slots at (at + 1) content.cells (omega arith)) is
IsDocument-after_step (ClearSlot slot) content fits scalars is =
    same_text _ _ (characters-all_with_slot slot.0 false content.cells) is
IsDocument-after_step (PutMark number place) content fits scalars is = is
IsDocument-after_step (TakeMark number) content fits scalars is = is
