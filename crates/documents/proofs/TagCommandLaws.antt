-- What commands that add the tag of a widget to spans, or remove it, report.
use Rattle.documents.proofs.Common.{◌≡◌, ℕ, ◌+◌, Bool, false, List, [], length, get_or, sym, ap, ap₂, ◌∙◌, subst, Some}
use Rattle.documents.proofs.Common.{None, All, All-map, known_tags, flags, SpanFits, Span, Document, KeyedCell, Parts}
use Rattle.documents.proofs.Common.{Widget, document_of, widget_at, with_tag, Key, key_named, key_pairs, Stands, key_of}
use Rattle.documents.proofs.Common.{flags_of, keys_of-has, keyed-flags, keyed_cell, has, slot_for, slot_for-named}
use Rattle.documents.proofs.Common.{of_tags, tags-alone, AreApart, in_spans, TellsSpans, TellsCells, ◌≤◌, All-weaker}
use Rattle.documents.proofs.Common.{AddsRuns}
use Rattle.reports.proofs.SpanToldLaws.{has_key, runs-told}
use Rattle.reports.proofs.AddedRunLaws.{gapped-alone}
use Rattle.reports.specs.declared.tag_lists.TagChange.{TagChange}
use Rattle.documents.proofs.PartsLaws.{Sits}

-- the key of a name to a widget that sits at a place, by the slot that the name has to the widget, and where it has none
module _ {parts : Parts} {document : Document} {place slot : ℕ} (stands : Stands parts document)
    (sits : Sits parts document place slot) (name : List ℕ) where
  abbrev seen_key : Key
  seen_key = key_of (widget_at document place) name

  seen-is : key_named sits.seat.name name ≡ seen_key
  seen-is = ap (λ (widget : Widget). key_of widget name) (sym sits.widget)

  pub seen-flags : (tag : ℕ) → Some tag ≡ known_tags parts.tags.tags slot name →
      flags_of seen_key document.cells ≡ flags tag parts.content.cells
  seen-flags tag known =
      let kept = stands.sound.kept in
      let there : known_tags parts.tags.tags sits.seat.number name ≡ Some tag =
      ap (λ n. known_tags parts.tags.tags n name) sits.number ∙ sym known in
      ap₂ (λ key (d : Document). flags_of key d.cells) (sym seen-is) (sym stands.is)
      ∙ sym (keyed-flags parts.seats.entries parts.tags kept.seats kept.tags place sits.seat sits.stands name tag there
      parts.content.cells)

  -- no character has the key of an unknown name
  pub seen-none : None ≡ known_tags parts.tags.tags slot name → All (λ flag. flag ≡ false) (flags_of seen_key document.cells)
  seen-none unknown =
      let kept = stands.sound.kept in
      let seats = parts.seats.entries in
      let tags = parts.tags.tags in
      let none : slot_for seats tags (key_named sits.seat.name name) ≡ None =
      slot_for-named seats parts.tags kept.seats kept.tags place sits.seat name sits.stands
      ∙ ap (λ n. known_tags tags n name) sits.number ∙ sym unknown in
      subst (All (λ flag. flag ≡ false)) (ap₂ (λ key (d : Document). flags_of key d.cells) seen-is stands.is)
      (All-map (λ flag. flag ≡ false) (has_key (key_named sits.seat.name name)) (document_of parts).cells
      (All-map (λ (cell : KeyedCell). has_key (key_named sits.seat.name name) cell ≡ false)
      (keyed_cell (key_pairs seats tags)) parts.content.cells (λ k d _.
      keys_of-has seats tags (get_or parts.content.cells k d).tags (key_named sits.seat.name name)
      kept.seats.names_apart kept.tags.names_apart
      ∙ ap (has (get_or parts.content.cells k d).tags) none)))

-- the runs of spans of a text leave gaps
pub runs-apart : {long : ℕ} {runs given : List Span} (spans : List Span)
    → ((end : ℕ) → All (λ (span : Span). span.to ≤ end) spans → AreApart (end + 1) runs) → given ≡ runs
    → All (SpanFits long) spans → AreApart (long + 1) given
runs-apart {long} spans apart same fits =
    subst (AreApart (long + 1)) (sym same)
    (apart long (All-weaker (SpanFits long) (λ (span : Span). span.to ≤ long) (λ span fits. fits.within) spans fits))

-- a list that began empty, of the changes of a key on the runs of spans, reports the spans
pub runs-alone : {key used : Key} {found : List Bool} {cells : List KeyedCell} {runs given : List Span} {to : ℕ}
    {before told : List TagChange} (on : Bool) (spans : List Span) → All (SpanFits (length cells)) spans
    → AreApart (length cells + 1) runs
    → ((offset : ℕ) → in_spans runs offset ≡ in_spans spans offset) → used ≡ key → flags_of key cells ≡ found
    → given ≡ runs → before ≡ [] → TellsSpans used on found given before told → AddsRuns used 0 to before told
    → TellsCells [] cells (with_tag key on spans cells) (of_tags told)
runs-alone {key} {used} {found} {cells} {runs} {to = to} {before} {told} on spans fits apart covers is flagged same none
    tells adds =
    tags-alone told cells (with_tag key on spans cells)
    (runs-told key on found cells spans runs before told fits apart covers flagged none
    (subst (λ k. TellsSpans k on found runs before told) is
    (subst (λ ss. TellsSpans used on found ss before told) same tells)))
    (gapped-alone used 0 to before told none adds)
