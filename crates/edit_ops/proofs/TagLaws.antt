-- One span more is tagged.
use Rattle.edit_ops.proofs.Common.{◌≡◌, ℕ, ◌+◌, ◌<◌, Bool, List, [], ◌∷◌, ◌++◌, false, map, length, get_or, drop, sym}
use Rattle.edit_ops.proofs.Common.{ap, ◌∙◌, drop_more, map-id, Step, SetTag, ClearSlot, Content, Fits, StepFits, after}
use Rattle.edit_ops.proofs.Common.{with_slot, map-map, Fits-append, after-append, length-after_step, Span, SpanFits}
use Rattle.edit_ops.proofs.Common.{tagged, cell_without, cleared}
use Rattle.text_model.specs.declared.places.TagSlot.{TagSlot}
use Rattle.text_model.specs.TagBits.{slot_count}

-- the first of the spans are tagged, and these are left
pub record Tagging (slot : TagSlot) (on : Bool) (spans : List Span) (steps : List Step) (rest : List Span) (len : ℕ)
    (content : Content) : Type 0 where
  pub fits : Fits steps content
  pub long : length (after steps content).cells ≡ len
  pub makes : tagged slot.0 on rest (after steps content) ≡ tagged slot.0 on spans content

pub tagging-more : (slot : TagSlot) (on : Bool) (spans : List Span) (steps : List Step) (i len : ℕ) (d : Span)
    (content : Content) → slot.0 < slot_count → i < length spans
    → SpanFits len (get_or spans i d) → Tagging slot on spans steps (drop i spans) len content
    → Tagging slot on spans (steps ++ SetTag (get_or spans i d).from (get_or spans i d).to slot on ∷ [])
    (drop (i + 1) spans) len content
tagging-more slot on spans steps i len d content known within inside so_far =
    let span = get_or spans i d in
    let step = SetTag span.from span.to slot on in
    let before = after steps content in
    let fit : StepFits step before = (inside.ordered, rw so_far.long inside.within, known) in
    record {
      fits = Fits-append steps (step ∷ []) content so_far.fits (fit, tt);
      long = ap (λ (c : Content). length c.cells) (after-append steps (step ∷ []) content)
          ∙ length-after_step step before fit ∙ so_far.long;
      makes = ap (tagged slot.0 on (drop (i + 1) spans)) (after-append steps (step ∷ []) content)
          ∙ ap (λ left. tagged slot.0 on left before) (sym (drop_more spans i d within)) ∙ so_far.makes;
    }

-- the first of the slots are taken off all cells, and these are left
abbrev pub numbers : List TagSlot → List ℕ
numbers slots = map (λ (slot : TagSlot). slot.0) slots

pub record Clearing (slots : List TagSlot) (steps : List Step) (rest : List TagSlot) (content : Content) : Type 0 where
  pub fits : Fits steps content
  pub makes : cleared (numbers rest) (after steps content) ≡ cleared (numbers slots) content

one-cleared : (slot : TagSlot) (rest : List TagSlot) (content : Content)
    → cleared (numbers rest) (record content { cells = map (with_slot slot.0 false) content.cells })
    ≡ cleared (numbers (slot ∷ rest)) content
one-cleared slot rest content = ap (λ cells. record content { cells = cells })
    (map-map (cell_without (numbers rest)) (with_slot slot.0 false) content.cells)

pub cleared-none : (rest : List TagSlot) (content : Content) → rest ≡ [] → cleared (numbers rest) content ≡ content
cleared-none rest content none = ap (λ slots. cleared (numbers slots) content) none
    ∙ ap (λ cells. record content { cells = cells }) (map-id content.cells)

pub clearing-more : (slots : List TagSlot) (steps : List Step) (i : ℕ) (d : TagSlot) (content : Content) →
    (get_or slots i d).0 < slot_count → i < length slots
    → Clearing slots steps (drop i slots) content →
    Clearing slots (steps ++ ClearSlot (get_or slots i d) ∷ []) (drop (i + 1) slots) content
clearing-more slots steps i d content known within so_far =
    let slot = get_or slots i d in
    let step = ClearSlot slot in
    let before = after steps content in
    record {
      fits = Fits-append steps (step ∷ []) content so_far.fits (known, tt);
      makes = ap (cleared (numbers (drop (i + 1) slots))) (after-append steps (step ∷ []) content)
          ∙ one-cleared slot (drop (i + 1) slots) before
          ∙ ap (λ left. cleared (numbers left) before) (sym (drop_more slots i d within)) ∙ so_far.makes;
    }
