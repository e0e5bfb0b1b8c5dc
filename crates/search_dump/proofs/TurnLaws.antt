-- Tags that are turned where they change.
use Rattle.search_dump.proofs.Common.{outlook, Outlook, slot_at, ◌≡◌, ◌≢◌, ℕ, inl, inr, ◌<◌, ◌≤◌, ◌⊎◌, ◌==◌, Bool, cond}
use Rattle.search_dump.proofs.Common.{List, length, refl, sym, ap, ◌∙◌, arith, not, if◌then◌else◌, cases_eq, eq-eqb}
use Rattle.search_dump.proofs.Common.{ne_eqb, slots_of, flag_at, next_change, Slots, shown_flags, AreAt, AreBefore}
use Rattle.search_dump.proofs.Common.{AreKept, AreKnownTo, AreTurned, IsTurned, change_after, slot_of_row, turned_at}
use Rattle.search_dump.proofs.Common.{flag_before}
use Rattle.text_model.proofs.CellLaws.{contains-set_slot}
use Rattle.search_dump.proofs.ChangeLaws.{flag-other, flag-same, flag-upto}
use Rattle.std.specs.FinSet as set

-- what turning one slot leaves: each slot is as it was at first, or turned
abbrev pub IsEither : (ℕ → ℕ) → ℕ → Slots → Slots → ℕ → Type 0
IsEither change place tags turned q =
    (set.contains turned q ≡ set.contains tags q) ⊎ (set.contains turned q ≡ turned_at change place tags q)

module _ (change : ℕ → ℕ) (place slot kept : ℕ) (tags old new : Slots) (known : kept ≡ change slot)
    (turned : kept ≡ place → IsTurned slot tags old new) (same : kept ≢ place → new ≡ old) where
  turn-here : (q : ℕ) → kept ≡ place → q ≡ slot →
      set.contains new q ≡ turned_at change place tags q
  turn-here q there is =
      let is_on = not (set.contains tags slot) in
      ap (λ s. set.contains s q) (turned there) ∙ contains-set_slot slot is_on old q
      ∙ ap (λ b. cond b is_on (set.contains old q)) (eq-eqb q slot is)
      ∙ ap (λ s. not (set.contains tags s)) (sym is)
      ∙ sym (ap (λ b. if b then not (set.contains tags q) else set.contains tags q)
      (eq-eqb (change q) place (ap change is ∙ sym known ∙ there)))

  turn-other : (q : ℕ) → kept ≡ place → q ≢ slot → set.contains new q ≡ set.contains old q
  turn-other q there other =
      let is_on = not (set.contains tags slot) in
      ap (λ s. set.contains s q) (turned there) ∙ contains-set_slot slot is_on old q
      ∙ ap (λ b. cond b is_on (set.contains old q)) (ne_eqb q slot other)

  pub turn-kept : (q : ℕ) → set.contains old q ≡ turned_at change place tags q →
      set.contains new q ≡ turned_at change place tags q
  turn-kept q before =
      elim (cases_eq kept place) [
        | inr not-there ↦ ap (λ s. set.contains s q) (same not-there) ∙ before
        | inl there ↦ elim (cases_eq q slot) [
          | inl is ↦ turn-here q there is
          | inr other ↦ turn-other q there other ∙ before
        ]
      ]

  pub turn-either : (q : ℕ) → IsEither change place tags old q → IsEither change place tags new q
  turn-either q (inr is) = inr (turn-kept q is)
  turn-either q (inl is) =
      elim (cases_eq kept place) [
        | inr not-there ↦ inl (ap (λ s. set.contains s q) (same not-there) ∙ is)
        | inl there ↦ elim (cases_eq q slot) [
          | inl here ↦ inr (turn-here q there here)
          | inr other ↦ inl (turn-other q there other ∙ is)
        ]
      ]

  pub turn-row : IsEither change place tags old slot → set.contains new slot ≡ turned_at change place tags slot
  turn-row (inr is) = turn-kept slot is
  turn-row (inl is) =
      elim (cases_eq kept place) [
        | inl there ↦ turn-here slot there (ap (λ n. n) (let e : slot ≡ slot = omega arith in e))
        | inr not-there ↦ ap (λ s. set.contains s slot) (same not-there) ∙ is
            ∙ sym (ap (λ b. if b then not (set.contains tags slot) else set.contains tags slot)
            (ne_eqb (change slot) place (λ is. not-there (known ∙ is))))
      ]

  -- one row more
  pub turn-more : (widget : ℕ) (slots : List ℕ) (row : ℕ) → slot ≡ slot_of_row widget slots row →
      ((q : ℕ) → IsEither change place tags old q) → (at : ℕ) →
      (at ≢ row → set.contains old (slot_of_row widget slots at)
      ≡ turned_at change place tags (slot_of_row widget slots at))
      → set.contains new (slot_of_row widget slots at) ≡ turned_at change place tags (slot_of_row widget slots at)
  turn-more widget slots row is either at before =
      elim (cases_eq at row) [
        | inl last ↦ ap (set.contains new) (ap (slot_of_row widget slots) last ∙ sym is) ∙ turn-row (either slot)
            ∙ ap (turned_at change place tags) (is ∙ ap (slot_of_row widget slots) (sym last))
        | inr other ↦ turn-kept (slot_of_row widget slots at) (before other)
      ]

-- a slot that doesn't change at a place stays
pub turned-none : (change : ℕ → ℕ) (place slot : ℕ) (tags : Slots) → change slot ≢ place →
    set.contains tags slot ≡ turned_at change place tags slot
turned-none change place slot tags other =
    sym (ap (λ b. if b then not (set.contains tags slot) else set.contains tags slot) (ne_eqb (change slot) place other))

-- the tags before a place, turned, are those at it
turned-flag : (flags : List Bool) (place stop change : ℕ) (before : Bool) → place < stop → stop < length flags →
    change ≡ next_change flags place → stop ≤ change → before ≡ flag_before flags stop →
    (if change == stop then not before else before) ≡ flag_at flags stop
turned-flag flags place stop change before above within known upto is =
    let was : before ≡ flag_at flags place = is ∙ flag-upto flags place stop above (omega (arith, upto, known)) in
    elim (cases_eq change stop) [
      | inl there ↦
          ap (λ b. if b then not before else before) (eq-eqb change stop there) ∙ ap not was
          ∙ sym (flag-other flags place stop (sym known ∙ there) within)
      | inr other ↦
          ap (λ b. if b then not before else before) (ne_eqb change stop other) ∙ was
          ∙ sym (flag-same flags place stop (omega (arith, above)) (omega (arith, upto, known, other)))
    ]

pub turned-are : (outlook : Outlook) (place stop : ℕ) (next : List ℕ)
    (before behind : Slots) → place < stop
    → ((slot : ℕ) → stop < length (shown_flags slot outlook.part))
    → AreKnownTo outlook place stop next →
    AreBefore outlook stop before →
    ((change : ℕ → ℕ) → AreKept change outlook.widget (slots_of outlook.tags) (length outlook.tags) next
    → AreTurned change outlook.widget (slots_of outlook.tags) (length outlook.tags) stop before behind) →
    AreAt outlook stop behind
turned-are outlook place stop next before behind above within known are turned at below =
    let slot = slot_at outlook at in
    let change = change_after outlook.part place in
    turned change (λ row inside. (known.each row inside).0) at below
    ∙ turned-flag (shown_flags slot outlook.part) place stop (change slot)
    (set.contains before slot) above (within slot) refl
    (omega (arith, (known.each at below).0, (known.each at below).1)) (are at below)
