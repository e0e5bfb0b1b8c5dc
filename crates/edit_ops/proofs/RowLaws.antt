-- The steps of an edit that inserts texts, each after the one before it.
use Rattle.edit_ops.proofs.Common.{◌≡◌, ℕ, ◌+◌, ◌<◌, List, [], ◌∷◌, ◌++◌, length, sym, ap, ◌∙◌, arith, append-nil}
use Rattle.edit_ops.proofs.Common.{append_assoc, length-append, nil_from_length, Slots, Step, Insert, flat_map}
use Rattle.edit_ops.proofs.Common.{SlottedText, flat_map-append, text_in, text_of, AreInsertions, GoesOn, pieces_text}

-- what one step more gives
pub snoc : {A : Type 0} (f : Step → List A) (steps : List Step) (step : Step)
    → flat_map f steps ++ f step ≡ flat_map f (steps ++ step ∷ [])
snoc f steps step =
    ap (λ xs. flat_map f steps ++ xs) (sym (append-nil (f step))) ∙ sym (flat_map-append f steps (step ∷ []))

-- ---- texts inserted so far

-- Texts are inserted from one offset up to another, and the others are left.
pub record InsertedRow (from at : ℕ) (pieces rest : List SlottedText) (old new : List Step) : Type 0 where
  pub steps : List Step
  pub made : new ≡ old ++ steps
  pub are : AreInsertions from steps
  pub place : at ≡ from + length (text_in steps)
  pub text : text_in steps ++ pieces_text rest ≡ pieces_text pieces

row-more : (from at : ℕ) (steps : List Step) (text : List ℕ) (slots : Slots) → AreInsertions from steps
    → at ≡ from + length (text_in steps) → 0 < length text → AreInsertions from (steps ++ Insert at text slots ∷ [])
row-more from at [] text slots are place some = (let e : at ≡ from = omega (arith, place) in e, some, tt)
row-more from at (Insert here first own ∷ steps) text slots are place some = (
  are.0,
  are.1,
  row-more (from + length first) at steps text slots are.2
      (let long = length-append first (text_in steps) in omega (arith, place, long)) some,
)
row-more from at (step ∷ steps) text slots are place some = absurd are

pub row-first : (at : ℕ) (pieces left : List SlottedText) (old : List Step) → left ≡ pieces
    → InsertedRow at at pieces left old old
row-first at pieces left old is = record {
  steps = [];
  made = sym (append-nil old);
  are = tt;
  place = omega arith;
  text = ap pieces_text is;
}

module _ {from at : ℕ} {pieces left rest : List SlottedText} {old now : List Step} {piece : SlottedText}
    (row : InsertedRow from at pieces left old now) (left_is : left ≡ piece ∷ rest) where
  pub row-next : {new : List Step} (slots : Slots) → 0 < length piece.text →
      new ≡ now ++ Insert at piece.text slots ∷ []
      → InsertedRow from (at + length piece.text) pieces rest old new
  row-next {new} slots some new_is =
      let step = Insert at piece.text slots in
      let more = snoc text_of row.steps step in
      record {
        steps = row.steps ++ step ∷ [];
        made = new_is ∙ ap (λ xs. xs ++ step ∷ []) row.made ∙ append_assoc old row.steps (step ∷ []);
        are = row-more from at row.steps piece.text slots row.are row.place some;
        place = let long = length-append (text_in row.steps) piece.text in
            let all = ap length more in
            let place = row.place in
            omega (arith, long, all, place);
        text = ap (λ xs. xs ++ pieces_text rest) (sym more)
            ∙ append_assoc (text_in row.steps) piece.text (pieces_text rest)
            ∙ ap (λ ps. text_in row.steps ++ pieces_text ps) (sym left_is) ∙ row.text;
      }

  pub row-same : length piece.text ≡ 0 → InsertedRow from at pieces rest old now
  row-same none = record {
    steps = row.steps;
    made = row.made;
    are = row.are;
    place = row.place;
    text = ap (λ xs. text_in row.steps ++ (xs ++ pieces_text rest)) (sym (nil_from_length piece.text none))
        ∙ ap (λ ps. text_in row.steps ++ pieces_text ps) (sym left_is) ∙ row.text;
  }

pub row-last : {from at : ℕ} {pieces left : List SlottedText} {old new : List Step}
    → InsertedRow from at pieces left old new → left ≡ [] → GoesOn from pieces old new
row-last row none = record {
  steps = row.steps;
  made = row.made;
  are = row.are;
  text = sym (append-nil (text_in row.steps)) ∙ ap (λ ps. text_in row.steps ++ pieces_text ps) (sym none) ∙ row.text;
}
