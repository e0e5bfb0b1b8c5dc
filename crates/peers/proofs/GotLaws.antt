-- The texts of ranges, as a list of those that aren't empty.
use Rattle.peers.proofs.Common.{◌≡◌, ℕ, suc, ◌-◌, ◌≤◌, true, false, cond, List, [], ◌∷◌, ◌++◌, length, take, drop}
use Rattle.peers.proofs.Common.{get_or, refl, sym, ap, subst, ◌∙◌, arith, filter, if◌then◌else◌, take_rest, Goes}
use Rattle.peers.proofs.Common.{text_of, texts_of_places, got, is_filled, Text, Document, Widget, append_assoc}
use Rattle.peers.proofs.Common.{append-nil, nil_from_length, filter-append}
use Rattle.tcl_words.proofs.ListGrowth.{goes_on}

-- the texts before some places are listed
pub record AreGot (document : Document) (widget : Widget) (places rest : List ℕ) (old new : List ℕ) : Type 0 where
  pub done : List (List ℕ)
  pub texts : texts_of_places document widget places ≡ done ++ texts_of_places document widget rest
  pub goes : Goes old new (filter is_filled done)

texts-two : (document : Document) (widget : Widget) (places : List ℕ) → 2 ≤ length places
    → texts_of_places document widget places ≡ text_of document widget (get_or places 0 0) (get_or places 1 0)
    ∷ texts_of_places document widget (drop 2 places)
texts-two document widget [] two = absurd (omega arith)
texts-two document widget (from ∷ []) two = absurd (omega arith)
texts-two document widget (from ∷ to ∷ places) two = refl

got-one_more : (document : Document) (widget : Widget) (old between new text : List ℕ) (done : List (List ℕ)) →
    Goes old between (filter is_filled done)
    → Goes between new (if is_filled text then text ∷ [] else []) → Goes old new (filter is_filled (done ++ text ∷ []))
got-one_more document widget old between new text done first second =
    subst (Goes old new) (sym (filter-append is_filled done (text ∷ [])))
    (goes_on old between new (filter is_filled done) _ first
    (elim (is_filled text) as (λ b. Goes between new (if b then text ∷ [] else []) →
    Goes between new (cond b (text ∷ []) [])) [
      | true ↦ λ goes. goes
      | false ↦ λ goes. goes
    ] second))

module _ {document : Document} {widget : Widget} {places rest : List ℕ} {old between : List ℕ}
    (got : AreGot document widget places rest old between) where
  pub got-more : (new text : List ℕ) → 2 ≤ length rest
      → text ≡ text_of document widget (get_or rest 0 0) (get_or rest 1 0)
      → Goes between new (if is_filled text then text ∷ [] else [])
      → AreGot document widget places (take (length rest - 2) (drop 2 rest)) old new
  got-more new text two is goes = record {
    done = got.done ++ text ∷ [];
    texts = got.texts ∙ ap (λ ts. got.done ++ ts) (texts-two document widget rest two
        ∙ ap (λ t. t ∷ texts_of_places document widget (drop 2 rest)) (sym is))
        ∙ sym (append_assoc got.done (text ∷ []) (texts_of_places document widget (drop 2 rest)))
        ∙ ap (λ ps. (got.done ++ text ∷ []) ++ texts_of_places document widget ps) (sym (take_rest rest 2));
    goes = got-one_more document widget old between new text got.done got.goes goes;
  }

  pub got-end : length rest ≡ 0 → Goes old between (filter is_filled (texts_of_places document widget places))
  got-end none =
      let texts = got.texts ∙ ap (λ ps. got.done ++ texts_of_places document widget ps) (nil_from_length rest none)
      ∙ append-nil got.done in
      subst (λ ts. Goes old between (filter is_filled ts)) (sym texts) got.goes

pub got-last : (document : Document) (widget : Widget) (places rest old between new text : List ℕ) → length rest ≡ 1 →
    AreGot document widget places rest old between
    → text ≡ text_of document widget (get_or rest 0 0) (suc (get_or rest 0 0)) →
    Goes between new (if is_filled text then text ∷ [] else [])
    → Goes old new (filter is_filled (texts_of_places document widget places))
got-last document widget places [] old between new text one got is goes = absurd (omega (arith, one))
got-last document widget places (from ∷ to ∷ rest) old between new text one got is goes = absurd (omega (arith, one))
got-last document widget places (from ∷ []) old between new text one got is goes =
    subst (λ ts. Goes old new (filter is_filled ts)) (sym (got.texts ∙ ap (λ t. got.done ++ t ∷ []) (sym is)))
    (got-one_more document widget old between new text got.done got.goes goes)

pub got-empty : (document : Document) (widget : Widget) (places : List ℕ) → length places ≡ 0 →
    got document widget places ≡ Text []
got-empty document widget [] none = refl
got-empty document widget (place ∷ places) none = absurd (omega (arith, none))
