-- Edits that take marks out of a store, and what widgets have of their own.
use Rattle.command_effects.proofs.Common.{◌≡◌, ℕ, ◌+◌, ◌<◌, List, [], ◌∷◌, ◌++◌, length, map, take, refl, sym, ap, ◌∙◌}
use Rattle.command_effects.proofs.Common.{arith, append_assoc, map-append, ClearSlot, TakeMark, MarkNo, Content, Fits}
use Rattle.command_effects.proofs.Common.{after, after_step, taken, ◌*◌, All, All-head, All-tail, slot_count, TagSlot}
use Rattle.command_effects.proofs.Common.{get_or, take_more}
use Rattle.command_effects.specs.Edits.{without_widgets, without_widget}
use Rattle.text_model.specs.declared.edits.Step.{Step}
use Rattle.text_model.specs.declared.limits.TheConstants.Limits.{MOST_WIDGETS}

abbrev pub takes : List MarkNo → List Step
takes numbers = map (λ (number : MarkNo). TakeMark number) numbers

pub takes-fit : (numbers : List MarkNo) (content : Content) → Fits (takes numbers) content
takes-fit [] content = tt
takes-fit (number ∷ numbers) content = (tt, takes-fit numbers (after_step (TakeMark number) content))

pub takes-after : (numbers : List MarkNo) (content : Content) →
    after (takes numbers) content
    ≡ record content { marks = taken (map (λ (number : MarkNo). number.0) numbers) content.marks }
takes-after [] content = refl
takes-after (number ∷ numbers) content = takes-after numbers (after_step (TakeMark number) content)

pub takes-more : (numbers : List MarkNo) (at : ℕ) (default : MarkNo) (steps : List Step) → at < length numbers →
    steps ≡ takes (take at numbers)
    → steps ++ TakeMark (get_or numbers at default) ∷ [] ≡ takes (take (at + 1) numbers)
takes-more numbers at default steps within old =
    ap (λ ss. ss ++ TakeMark (get_or numbers at default) ∷ []) old
    ∙ sym (map-append (λ (n : MarkNo). TakeMark n) (take at numbers) (get_or numbers at default ∷ []))
    ∙ ap takes (sym (take_more numbers at default within))

-- ---- what widgets have of their own

-- the steps that take it out
abbrev pub drops : List TagSlot → List Step
drops [] = []
drops (slot ∷ slots) = ClearSlot slot ∷ TakeMark (record { 0 = 2 * slot.0 })
    ∷ TakeMark (record { 0 = 2 * slot.0 + 1 }) ∷ drops slots

drops-append : (slots more : List TagSlot) → drops (slots ++ more) ≡ drops slots ++ drops more
drops-append [] more = refl
drops-append (slot ∷ slots) more =
    ap (λ ss. ClearSlot slot ∷ TakeMark (record { 0 = 2 * slot.0 }) ∷ TakeMark (record { 0 = 2 * slot.0 + 1 })
    ∷ ss) (drops-append slots more)

pub drops-fit : (slots : List TagSlot) (content : Content) →
    All (λ (slot : TagSlot). slot.0 < MOST_WIDGETS) slots → Fits (drops slots) content
drops-fit [] content known = tt
drops-fit (slot ∷ slots) content known =
    let fits : slot.0 < slot_count = omega (
      arith,
      All-head (λ (slot : TagSlot). slot.0 < MOST_WIDGETS) slot slots known,
    ) in (
      fits,
      (
        tt,
        (
          tt,
          drops-fit slots (without_widget slot.0 content)
              (All-tail (λ (slot : TagSlot). slot.0 < MOST_WIDGETS) slot slots known),
        ),
      ),
    )

pub drops-after : (slots : List TagSlot) (content : Content) →
    after (drops slots) content ≡ without_widgets (map (λ (slot : TagSlot). slot.0) slots) content
drops-after [] content = refl
drops-after (slot ∷ slots) content = drops-after slots (without_widget slot.0 content)

pub drops-more : (slots : List TagSlot) (at : ℕ) (default : TagSlot) (steps : List Step) → at < length slots →
    steps ≡ drops (take at slots)
    → ((steps ++ ClearSlot (get_or slots at default) ∷ [])
    ++ TakeMark (record { 0 = 2 * (get_or slots at default).0 }) ∷ [])
    ++ TakeMark (record { 0 = 2 * (get_or slots at default).0 + 1 }) ∷ []
    ≡ drops (take (at + 1) slots)
drops-more slots at default steps within old =
    let slot = get_or slots at default in
    append_assoc (steps ++ ClearSlot slot ∷ []) (TakeMark (record { 0 = 2 * slot.0 }) ∷ [])
    (TakeMark (record { 0 = 2 * slot.0 + 1 }) ∷ [])
    ∙ append_assoc steps (ClearSlot slot ∷ []) (TakeMark (record { 0 = 2 * slot.0 })
    ∷ TakeMark (record { 0 = 2 * slot.0 + 1 }) ∷ [])
    ∙ ap (λ ss. ss ++ drops (slot ∷ [])) old
    ∙ sym (drops-append (take at slots) (slot ∷ []))
    ∙ ap drops (sym (take_more slots at default within))
