-- What `insert` does, by where it inserts.
use Rattle.peers.proofs.Common.{Result, Answer, Fault, Does, Memory, ◌≢◌, sym, insert, one_or_more_of, true, false, ◌≡◌}
use Rattle.peers.proofs.Common.{ℕ, ◌+◌, List, Option, None, Some, Ok, Err, refl, if◌then◌else◌, Change, answered}
use Rattle.peers.proofs.Common.{change_with, Document, Widget, LimitTable, is_idle, insert_at, insertion_offset}
use Rattle.peers.proofs.Common.{place_at, insert_pairs, insert_words, pairs_at, with_value, Pair, Empty, insertion_at}
use Rattle.peers.proofs.Common.{inserted_at, ◌≤◌, ◌<◌, [], ◌∷◌, length, get_or, ap, ◌∙◌, arith, chars, texts_of, String}
use Rattle.peers.proofs.Common.{string_bytes}
use Rattle.peers.proofs.PromiseLaws.{does-found, does-refused, does-same}

pub inserts-at : (limits : LimitTable) (document : Document) (widget : Widget) (position : ℕ)
    (given : List ℕ × List (List ℕ)) → insert_words limits document widget position given
    ≡ change_with document (insertion_at document widget position given.0) (λ at.
    change_with document (pairs_at (position + 1) given.1) (inserted_at limits document widget at))
inserts-at limits document widget position given =
    let pairs = pairs_at (position + 1) given.1 in
    elim (place_at document widget position given.0) as (λ found.
    change_with document found (insert_pairs limits document widget pairs)
    ≡ change_with document (with_value found (λ place.
    Ok (if is_idle document widget then None else Some (insertion_offset document widget place)))) (λ at.
    change_with document pairs (inserted_at limits document widget at))) [
      | Err fault ↦ refl
      | Ok place ↦ elim (is_idle document widget) as (λ b.
          change_with document pairs (λ pairs. if b then answered document Empty
          else insert_at limits document widget (insertion_offset document widget place) pairs)
          ≡ change_with document pairs (inserted_at limits document widget (if b then None
          else Some (insertion_offset document widget place)))) [
            | true ↦ refl
            | false ↦ refl
          ]
    ]

-- what holds of a command of these words is what holds of where it inserts, and of its pairs
module _ (limits : LimitTable) (old : Document) (widget : Widget) (position : ℕ) (words : List (List ℕ))
    (index : List ℕ) (rest : List (List ℕ)) (is : one_or_more_of words ≡ Ok (index, rest)) where
  abbrev place : Result (Option ℕ) Fault
  place = insertion_at old widget position index

  abbrev given : Result (List Pair) Fault
  given = pairs_at (position + 1) rest

  abbrev change : Option ℕ → Change
  change at = change_with old given (inserted_at limits old widget at)

  inserting : {new : Document} {result : Result Answer Fault} → Does limits old new result (change_with old place change)
      → Does limits old new result (insert limits old widget position words)
  inserting does =
      does-found (one_or_more_of words) (index, rest) (insert_words limits old widget position) is
      (does-same (change_with old place change) (insert_words limits old widget position (index, rest))
      (λ _. sym (inserts-at limits old widget position (index, rest))) does)

  pub no-place : (fault : Fault) → (fault ≢ Memory → place ≡ Err fault)
      → Does limits old old (Err fault) (insert limits old widget position words)
  no-place fault refused = inserting (does-refused limits old place fault change refused)

  module _ (at : Option ℕ) (there : place ≡ Ok at) where
    pub no-pairs : (fault : Fault) → (fault ≢ Memory → given ≡ Err fault)
        → Does limits old old (Err fault) (insert limits old widget position words)
    no-pairs fault refused =
        inserting (does-found place at change there
        (does-refused limits old given fault (inserted_at limits old widget at) refused))

    pub inserted : {new : Document} {result : Result Answer Fault} (pairs : List Pair) → given ≡ Ok pairs
        → Does limits old new result (inserted_at limits old widget at pairs)
        → Does limits old new result (insert limits old widget position words)
    inserted pairs read does =
        inserting (does-found place at change there
        (does-found given pairs (inserted_at limits old widget at) read does))

    -- and that is the whole of it
    pub insert-is : (pairs : List Pair) → given ≡ Ok pairs
        → insert limits old widget position words ≡ inserted_at limits old widget at pairs
    insert-is pairs read =
        ap (λ parts. change_with old parts (insert_words limits old widget position)) is
        ∙ inserts-at limits old widget position (index, rest)
        ∙ ap (λ found. change_with old found change) there
        ∙ ap (λ read. change_with old read (inserted_at limits old widget at)) read

-- a single word is a text without a tag list
pub one-text : {Z : Type 0} (words : List (String Z)) (word : String Z) (bytes : List ℕ) → 1 ≤ length words →
    length words < 2 → word ≡ get_or words 0 word → bytes ≡ string_bytes word → texts_of words ≡ chars bytes ∷ []
one-text [] word bytes some few is bytes_are = absurd (omega (arith, some))
one-text (first ∷ []) word bytes some few is bytes_are =
    ap (λ bs. chars bs ∷ []) (sym (bytes_are ∙ ap string_bytes is))
one-text (first ∷ next ∷ words) word bytes some few is bytes_are = absurd (omega (arith, few))

-- nothing is inserted
pub inserted-nothing : (limits : LimitTable) (document : Document)
    → Does limits document document (Ok Empty) (answered document Empty)
inserted-nothing limits document = record {
  reply = λ _. refl;
  document = λ _. refl;
  refused = tt;
  well_formed = λ formed. formed;
  windows = refl;
}
