-- Which characters of a widget's view have a tag.
use Rattle.documents.proofs.Common.{◌≡◌, ℕ, zero, suc, ◌+◌, ◌-◌, ◌<◌, ◌≤◌, Bool, true, false, cond, List, [], ◌∷◌}
use Rattle.documents.proofs.Common.{length, drop, refl, sym, ap, ◌∙◌, arith, slice_get, slice_range, if◌then◌else◌}
use Rattle.documents.proofs.Common.{get_or-drop, get_or-take, length-drop, length-map, length-take}
use Rattle.documents.proofs.Common.{get_or_from_slice_get, none-some, known_tags, Tag, Cell, Content, Slots, flags}
use Rattle.documents.proofs.Common.{slot_sets, own_slot, is_among, Document, KeyedCell, Parts, Widget, widget_at}
use Rattle.documents.proofs.Common.{key_named, Stands, tags_on, shown, shown_flags, view_end, view_start, None, Some}
use Rattle.documents.proofs.Common.{filter, names_of, known_standing, flag_at}
use Rattle.documents.specs.Tags.{flags_of}
use Rattle.documents.proofs.SpanLaws.{slot_known, slot_unknown}
use Rattle.documents.proofs.ViewLaws.{IsSeen, flags-is, part-found}
use Rattle.std.specs.FinSet as set
use Rattle.text_index.specs.Views as view

-- what a slot is by in a view as it was found
module _ {parts : Parts} {document : Document} {place slot : ℕ} {content : Content} {first behind : ℕ}
    (seen : IsSeen parts document place slot content first behind) where
  abbrev widget : Widget
  widget = widget_at document place

  among-kept : (name : List ℕ) → is_among name document.tags ≡ is_among name (names_of parts.tags.tags)
  among-kept name = ap (λ (d : Document). is_among name d.tags) (sym seen.stands.is)

  flags-seen : (name : List ℕ) (tag : ℕ) → known_tags parts.tags.tags slot name ≡ Some tag →
      view.shown_flags tag (record { content = content; start = first; end = behind }) ≡ shown_flags document widget (key_named widget.name name)
  flags-seen name tag known =
      ap (view.shown_flags tag) (part-found seen)
      ∙ sym (flags-is parts document place slot seen.stands seen.sits name tag known)
      ∙ ap (λ n. shown_flags document widget (key_named n name)) (ap (λ (w : Widget). w.name) (sym seen.sits.widget))

  -- the flags of a tag that is known
  pub flags-known : (name : List ℕ) (tag : ℕ) → Some tag ≡ known_tags parts.tags.tags slot name →
      view.shown_flags tag (record { content = content; start = first; end = behind }) ≡ flags_of document widget name
  flags-known name tag known =
      flags-seen name tag (sym known)
      ∙ sym (ap (λ b. if b then shown_flags document widget (key_named widget.name name) else []) (among-kept name
      ∙ slot_known name parts.tags.tags slot tag (sym known)))

-- and of one that isn't
pub flags-unknown : {parts : Parts} {document : Document} (place slot : ℕ) → Stands parts document →
    (name : List ℕ) → None ≡ known_tags parts.tags.tags slot name
    → [] ≡ flags_of document (widget_at document place) name
flags-unknown {parts} {document} place slot stands name unknown =
    let widget = widget_at document place in
    sym (ap (λ b. if b then shown_flags document widget (key_named widget.name name) else [])
    (ap (λ (d : Document). is_among name d.tags) (sym stands.is)
    ∙ slot_unknown name parts.tags.tags slot (sym unknown)))

-- ---- the tags of one character

names-filtered : (tags : List Tag) (wanted : Tag → Bool) (passes : List ℕ → Bool) →
    ((at : ℕ) (tag : Tag) → slice_get tags at ≡ Some tag → wanted tag ≡ passes tag.name)
    → names_of (filter wanted tags) ≡ filter passes (names_of tags)
names-filtered [] wanted passes same = refl
names-filtered (tag ∷ tags) wanted passes same =
    let rest = names-filtered tags wanted passes (λ at. same (suc at)) in
    ap (λ b. names_of (cond b (tag ∷ filter wanted tags) (filter wanted tags))) (same 0 tag refl)
    ∙ elim (passes tag.name) as (λ b. names_of (cond b (tag ∷ filter wanted tags) (filter wanted tags))
    ≡ cond b (tag.name ∷ filter passes (names_of tags)) (filter passes (names_of tags))) [
      | true ↦ ap (λ ns. tag.name ∷ ns) rest
      | false ↦ rest
    ]

-- whether a cell has a slot
flag_of : (cells : List Cell) (slots : Slots) (slot at : ℕ) → slice_get (slot_sets cells) at ≡ Some slots →
    flag_at (flags slot cells) at ≡ set.contains slots slot
flag_of [] slots slot at is = absurd (none-some slots is)
flag_of (cell ∷ cells) slots slot zero is =
    ap (λ s. set.contains s slot) (get_or_from_slice_get (slot_sets (cell ∷ cells)) 0 slots slots is)
flag_of (cell ∷ cells) slots slot (suc at) is = flag_of cells slots slot at is

-- a flag of a part
flag-part : (fs : List Bool) (first behind at : ℕ) → first + at < behind →
    flag_at (slice_range fs first behind) at ≡ flag_at fs (first + at)
flag-part fs first behind at within =
    get_or-take (behind - first) (drop first fs) at false (omega (arith, within)) ∙ get_or-drop first fs at false

module _ {parts : Parts} {document : Document} {place slot : ℕ} {content : Content} {first behind : ℕ}
    (seen : IsSeen parts document place slot content first behind) where
  abbrev shown_by : Widget
  shown_by = widget_at document place

  -- by the slots of its cell
  pub tags_on-known : (slots : Slots) (at : ℕ) → first + at < behind →
      slice_get (slot_sets content.cells) (first + at) ≡ Some slots
      → names_of (filter (λ (tag : Tag). set.contains slots (own_slot slot tag.slot)) parts.tags.tags)
      ≡ tags_on document shown_by at
  tags_on-known slots at within found =
      names-filtered parts.tags.tags (λ (tag : Tag). set.contains slots (own_slot slot tag.slot)) (λ word.
      flag_at (shown_flags document shown_by (key_named shown_by.name word)) at)
      (λ k tag stands.
      sym (flag_of content.cells slots (own_slot slot tag.slot) (first + at) found)
      ∙ sym (flag-part (flags (own_slot slot tag.slot) content.cells) first behind at within)
      ∙ ap (λ fs. flag_at fs at) (flags-seen seen tag.name (own_slot slot tag.slot)
      (known_standing parts.tags.tags k tag slot seen.stands.sound.kept.tags.names_apart stands)))
      ∙ ap (λ (d : Document). filter (λ word. flag_at (shown_flags document shown_by (key_named shown_by.name word)) at)
      d.tags) seen.stands.is

-- no tags at the end
pub tags_on-end : (document : Document) (widget : Widget) (at : ℕ) → length (shown document widget) ≤ at →
    [] ≡ tags_on document widget at
tags_on-end document widget at beyond = none document.tags
  where
    beyond_flags : (fs : List Bool) (k : ℕ) → length fs ≤ k → flag_at fs k ≡ false
    beyond_flags [] k past = refl
    beyond_flags (f ∷ fs) zero past = absurd (omega (arith, past))
    beyond_flags (f ∷ fs) (suc k) past = beyond_flags fs k (omega (arith, past))

    part_len : {A B : Type 0} (xs : List A) (ys : List B) (from to : ℕ) → length xs ≡ length ys →
        length (slice_range xs from to) ≡ length (slice_range ys from to)
    part_len xs ys from to same = omega (
      arith,
      length-take (to - from) (drop from xs),
      length-take (to - from) (drop from ys),
      length-drop from xs,
      length-drop from ys,
      same,
    )

    long : (name : List ℕ) → length (shown_flags document widget (key_named widget.name name))
        ≡ length (shown document widget)
    long name = part_len _ _ (view_start widget) (view_end document widget)
        (length-map document.cells (λ (cell : KeyedCell). set.contains cell.keys (key_named widget.name name))
        ∙ sym (length-map document.cells (λ (cell : KeyedCell). cell.character)))

    none : (tags : List (List ℕ)) →
        [] ≡ filter (λ name. flag_at (shown_flags document widget (key_named widget.name name)) at) tags
    none [] = refl
    none (name ∷ tags) =
        none tags
        ∙ ap (λ b.
        cond b (name ∷ filter (λ other. flag_at (shown_flags document widget (key_named widget.name other)) at)
        tags)
        (filter (λ other. flag_at (shown_flags document widget (key_named widget.name other)) at) tags))
        (sym (beyond_flags (shown_flags document widget (key_named widget.name name)) at
        (omega (arith, beyond, long name))))
