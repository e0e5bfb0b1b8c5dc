-- What a widget sees of its view, by the store and the tables of its document.
use Rattle.documents.proofs.Common.{Part, ◌≡◌, ℕ, zero, suc, ◌+◌, ◌-◌, List, [], ◌∷◌, map, sym, refl, ap, ap₂, ◌∙◌}
use Rattle.documents.proofs.Common.{arith, slice_get, slice_index_or, Shown, Tag, tag_ranges, Content, map-alike}
use Rattle.documents.proofs.Common.{map-map, name_of_rank, seen_by, literal, Document, Parts, Widget, widget_at}
use Rattle.documents.proofs.Common.{key_named, Stands, mark_names, usable_marks, shown_flags, Bool, Some, names_of}
use Rattle.documents.proofs.Common.{known_standing, shifted, usable_by, Outlook}
use Rattle.mark_table.specs.SharedMarks.{names_of as mark_names_of}
use Rattle.search_dump.specs.Dump.{own_slot}
use Rattle.documents.specs.Queries.{mark_seen, seen, tag_seen}
use Rattle.documents.proofs.MarkOrderLaws.{usable-is}
use Rattle.documents.proofs.MeaningLaws.{current_bytes, insert_bytes, name-is}
use Rattle.documents.proofs.PartsLaws.{Sits}
use Rattle.documents.proofs.PlacedLaws.{placed-names}
use Rattle.documents.proofs.ViewLaws.{IsSeen, end_in, flags-is, part-found, shown-is, start_in}
use Rattle.search_dump.specs.Dump as dump

-- what is made of each tag is made of its name
map-named : {A : Type 0} (f : Tag → A) (g : List ℕ → A) (tags : List Tag) →
    ((at : ℕ) (tag : Tag) → slice_get tags at ≡ Some tag → f tag ≡ g tag.name) → map f tags ≡ map g (names_of tags)
map-named f g [] same = refl
map-named f g (tag ∷ tags) same =
    ap₂ (λ one others. one ∷ others) (same 0 tag refl) (map-named f g tags (λ at. same (suc at)))

-- a mark's name by its rank
name-ranked : (names : List (List ℕ)) (rank : ℕ) → name_of_rank names rank
    ≡ slice_index_or (literal "insert" ∷ literal "current" ∷ names) rank []
name-ranked names zero = sym insert_bytes
name-ranked names (suc zero) = sym current_bytes
name-ranked names (suc (suc at)) = refl

module _ (parts : Parts) (document : Document) (place slot : ℕ) (stands : Stands parts document)
    (sits : Sits parts document place slot) where
  abbrev widget : Widget
  widget = widget_at document place

  abbrev start : ℕ
  start = start_in parts slot

  abbrev end : ℕ
  end = end_in parts slot

  abbrev outlook : Outlook
  outlook = record {
    part = record { content = parts.content; start = start; end = end };
    tags = parts.tags.tags;
    marks = parts.marks.marks;
    widget = slot;
  }

  tags-seen : map (dump.tag_seen outlook) parts.tags.tags
      ≡ map (tag_seen document widget) document.tags
  tags-seen =
      let apart = stands.sound.kept.tags.names_apart in
      map-named (dump.tag_seen outlook) (tag_seen document widget) parts.tags.tags
      (λ at tag is. ap (λ (flags : List Bool). record { name = tag.name; ranges = tag_ranges flags })
      (sym (flags-is parts document place slot stands sits tag.name (own_slot slot tag.slot)
      (known_standing parts.tags.tags at tag slot apart is))
      ∙ ap (λ n. shown_flags document widget (key_named n tag.name))
      (sym (name-is parts document place slot stands sits))))
      ∙ ap (λ (d : Document). map (tag_seen document widget) d.tags) stands.is

  names-are : literal "insert" ∷ literal "current" ∷ mark_names_of parts.marks.marks ≡ mark_names document
  names-are = ap (λ names. literal "insert" ∷ literal "current" ∷ names)
      (sym (placed-names parts.content.marks parts.marks.marks)) ∙ ap mark_names stands.is

  marks-seen : map (dump.mark_seen parts.marks.marks start) (usable_by outlook)
      ≡ map (mark_seen document) (usable_marks document widget)
  marks-seen =
      ap (map (dump.mark_seen parts.marks.marks start)) (usable-is parts document place slot stands sits)
      ∙ map-map (dump.mark_seen parts.marks.marks start) (shifted start) (usable_marks document widget)
      ∙ map-alike (λ mark. dump.mark_seen parts.marks.marks start (shifted start mark)) (mark_seen document)
      (λ (mark : Shown). ap₂ (λ word at. record { name = word; place = at })
      (name-ranked (mark_names_of parts.marks.marks) mark.rank
      ∙ ap (λ names. slice_index_or names mark.rank []) names-are)
      (let same : mark.place + start - start ≡ mark.place = omega arith in same))
      (usable_marks document widget)

  seen-is : seen_by outlook ≡ seen document widget
  seen-is = λ i. record {
    text = sym (shown-is parts document place slot stands sits) i;
    tags = tags-seen i;
    marks = marks-seen i;
  }

-- the same of a view as it was found
pub seen-found : {parts : Parts} {document : Document} {place slot : ℕ} {content : Content} {first behind : ℕ} →
    IsSeen parts document place slot content first behind
    → seen_by (record {
      part = record { content = content; start = first; end = behind };
      tags = parts.tags.tags;
      marks = parts.marks.marks;
      widget = slot;
    }) ≡ seen document (widget_at document place)
seen-found {parts} {document} {place} {slot} found =
    ap (λ (part : Part). seen_by (record {
      part = part;
      tags = parts.tags.tags;
      marks = parts.marks.marks;
      widget = slot;
    })) (part-found found)
    ∙ seen-is parts document place slot found.stands found.sits
