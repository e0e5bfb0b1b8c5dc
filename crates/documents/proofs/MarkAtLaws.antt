-- Where the mark of a key is, by its kind and by its number in a store.
use Rattle.documents.proofs.Common.{◌≡◌, ℕ, ◌+◌, ◌*◌, List, None, Some, option_map, sym, ap, ◌∙◌, number_of, Document}
use Rattle.documents.proofs.Common.{Parts, Widget, widget_at, widget_named, Stands, mark_at, place_of_kind, MarkKey}
use Rattle.documents.proofs.Common.{Current, Shared}
use Rattle.documents.specs.declared.mark_lists.MarkKind.TheVariants.{Insert}
use Rattle.documents.proofs.MarkQueryLaws.{sought-known, sought-none}
use Rattle.documents.proofs.MeaningLaws.{current-there, insert-there}
use Rattle.documents.proofs.PartsLaws.{Sits}
use Rattle.std.specs.FinMap as finite

module _ {parts : Parts} {document : Document} (stands : Stands parts document) (key : MarkKey) (word : List ℕ)
    (spelled : word ≡ key.name) where
  module _ {at slot : ℕ} (sits : Sits parts document at slot)
      (found : widget_named word document ≡ Some (widget_at document at)) where
    pub insert-at : key.kind ≡ Insert → finite.get parts.content.marks (2 * slot) ≡ mark_at document key
    insert-at is =
        insert-there parts document at slot sits ∙ sym (ap (option_map (λ (widget : Widget). widget.insert)) found)
        ∙ (λ i. place_of_kind (sym is i) (spelled i) document)

    pub current-at : key.kind ≡ Current → finite.get parts.content.marks (2 * slot + 1) ≡ mark_at document key
    current-at is =
        current-there parts document at slot sits ∙ sym (ap (option_map (λ (widget : Widget). widget.current)) found)
        ∙ (λ i. place_of_kind (sym is i) (spelled i) document)

  pub shared-none : key.kind ≡ Shared → number_of word parts.marks.marks ≡ None → None ≡ mark_at document key
  shared-none is none = sym (sought-none stands word none) ∙ (λ i. place_of_kind (sym is i) (spelled i) document)

  pub shared-at : (number : ℕ) → key.kind ≡ Shared → number_of word parts.marks.marks ≡ Some number →
      finite.get parts.content.marks number ≡ mark_at document key
  shared-at number is known =
      let there = sought-known stands word number known in
      there.1 ∙ sym there.2 ∙ (λ i. place_of_kind (sym is i) (spelled i) document)
