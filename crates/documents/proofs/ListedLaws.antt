-- What is listed of a document: the names of its marks and of its tags.
use Rattle.documents.proofs.Common.{ap₂, Bool, range_words, ◌≡◌, ℕ, suc, ◌+◌, ◌≤◌, List, [], ◌∷◌, length, refl, sym, ap}
use Rattle.documents.proofs.Common.{◌∙◌, arith, slice_get, slice_index_or, IsUtf8, get_or_past, length-map}
use Rattle.documents.proofs.Common.{get_or_from_slice_get, chars_from_encodes, Mark, Goes, list_text, literal, Document}
use Rattle.documents.proofs.Common.{Parts, Stands, IsUtf8-string_bytes, mark_names, string_bytes, subst, Some, chars}
use Rattle.documents.proofs.Common.{TagRange}
use Rattle.std.specs.declared.string.String.{String}
use Rattle.mark_table.specs.SharedMarks.{names_of}
use Rattle.tag_table.specs.Tags.{names_of as tag_names}
use Rattle.documents.proofs.PlacedLaws.{placed-names}

-- the text of a list that was begun with nothing
pub written : (bytes : List ℕ) (elements : List (List ℕ)) → IsUtf8 bytes → Goes [] bytes elements →
    chars bytes ≡ list_text elements
written bytes elements text goes = sym (chars_from_encodes (list_text elements) bytes text (sym (goes [] refl)))

pub listed : {Z : Type 0} {before : List ℕ} (new : String Z) (elements : List (List ℕ)) → before ≡ [] →
    Goes before (string_bytes new) elements → chars (string_bytes new) ≡ list_text elements
listed new elements none goes = written (string_bytes new) elements (IsUtf8-string_bytes new)
    (subst (λ bytes. Goes bytes (string_bytes new) elements) none goes)

-- that of ranges of a tag in what is shown, by the flags of the tag
pub ranges-listed : {Z : Type 0} {before text shown : List ℕ} {flags known : List Bool} (new : String Z)
    (ranges : List Bool → List TagRange) → before ≡ [] → Goes before (string_bytes new) (range_words text (ranges flags))
    → text ≡ shown → flags ≡ known → chars (string_bytes new) ≡ list_text (range_words shown (ranges known))
ranges-listed {text = text} {flags = flags} new ranges none goes text_is flags_are =
    listed new (range_words text (ranges flags)) none goes
    ∙ ap₂ (λ t fs. list_text (range_words t (ranges fs))) text_is flags_are

pub tags-listed : {parts : Parts} {document : Document} → Stands parts document →
    tag_names parts.tags.tags ≡ document.tags
tags-listed {parts} {document} stands = ap (λ (d : Document). d.tags) stands.is

pub marks-listed : {parts : Parts} {document : Document} → Stands parts document →
    literal "insert" ∷ literal "current" ∷ names_of parts.marks.marks ≡ mark_names document
marks-listed {parts} {document} stands = ap (λ names. literal "insert" ∷ literal "current" ∷ names)
    (sym (placed-names parts.content.marks parts.marks.marks)) ∙ ap mark_names stands.is

-- the name of a shared mark by its place, and where there is none
pub name-shared : {parts : Parts} {document : Document} (place : ℕ) (word : List ℕ) → Stands parts document →
    slice_get (names_of parts.marks.marks) place ≡ Some word
    → word ≡ slice_index_or (mark_names document) (2 + place) []
name-shared {parts} {document} place word stands is =
    let two : 2 + place ≡ suc (suc place) = omega arith in
    sym (get_or_from_slice_get (names_of parts.marks.marks) place word [] is)
    ∙ sym (ap (λ n. slice_index_or (literal "insert" ∷ literal "current" ∷ names_of parts.marks.marks) n []) two)
    ∙ ap (λ names. slice_index_or names (2 + place) []) (marks-listed stands)

pub name-past : {parts : Parts} {document : Document} (place : ℕ) → Stands parts document →
    length parts.marks.marks ≤ place → [] ≡ slice_index_or (mark_names document) (2 + place) []
name-past {parts} {document} place stands past =
    let two : 2 + place ≡ suc (suc place) = omega arith in
    sym (get_or_past (names_of parts.marks.marks) place []
    (omega (arith, past, length-map parts.marks.marks (λ (mark : Mark). mark.name))))
    ∙ sym (ap (λ n. slice_index_or (literal "insert" ∷ literal "current" ∷ names_of parts.marks.marks) n []) two)
    ∙ ap (λ names. slice_index_or names (2 + place) []) (marks-listed stands)
