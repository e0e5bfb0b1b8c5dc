-- The marks that `destroy` drops, document by document.
use Rattle.peers.proofs.Common.{◌≡◌, ℕ, ◌+◌, ◌<◌, List, [], ◌∷◌, ◌++◌, length, take, get_or, flat_map, refl, sym, ap}
use Rattle.peers.proofs.Common.{ap₂, ◌∙◌, append-nil, take_more, AllByRecursion, LimitTable, Document}
use Rattle.peers.proofs.Common.{IsWellFormedDocument, bare_document, document_at, marks_dropped, MarkChange}
use Rattle.peers.proofs.Common.{TellsDropped, flat_map-append}
use Rattle.documents.proofs.DroppedMarksLaws.{dropped-tells}
use Rattle.peers.proofs.WorldLaws.{read-is}

-- those of one document more
pub dropped-next : (names : List (List ℕ)) (documents : List Document) (place : ℕ) (document : Document)
    (marks more : List MarkChange) → place < length documents → document ≡ get_or documents place document
    → marks ≡ flat_map (marks_dropped names) (take place documents) → more ≡ marks ++ marks_dropped names document
    → more ≡ flat_map (marks_dropped names) (take (place + 1) documents)
dropped-next names documents place document marks more within is before after =
    let here = document_at documents place in
    let front = take place documents in
    after ∙ ap₂ (λ ms (d : Document). ms ++ marks_dropped names d) before (read-is documents place document within is)
    ∙ ap (λ ms. flat_map (marks_dropped names) front ++ ms) (sym (append-nil (marks_dropped names here)))
    ∙ sym (flat_map-append (marks_dropped names) front (here ∷ []))
    ∙ ap (flat_map (marks_dropped names)) (sym (take_more documents place bare_document within))

-- those of all are what `destroy` drops
pub dropped-all : (limits : LimitTable) (names : List (List ℕ)) (documents : List Document) →
    AllByRecursion (IsWellFormedDocument limits) documents
    → TellsDropped names documents (flat_map (marks_dropped names) documents)
dropped-all limits names [] all = refl
dropped-all limits names (document ∷ documents) all = (
  marks_dropped names document,
  flat_map (marks_dropped names) documents,
  refl,
  dropped-tells names document limits all.0,
  dropped-all limits names documents all.1,
)
