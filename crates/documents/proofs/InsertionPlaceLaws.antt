-- Where a text is inserted for an index.
use Rattle.documents.proofs.Common.{◌≡◌, ℕ, ◌+◌, ◌-◌, ◌||◌, ◌==◌, min, Bool, true, false, get_or, sym, ap, ap₂, ◌∙◌}
use Rattle.documents.proofs.Common.{Option, Some, None, Result, Ok, Err, if◌then◌else◌, Fault, Memory, Gives, Content}
use Rattle.documents.proofs.Common.{Document, Widget, Parts, widget_at, is_idle, insertion_offset, with_value}
use Rattle.documents.proofs.ReplacementLaws.{cut-at}
use Rattle.documents.proofs.ViewLaws.{IsSeen, active-found, idle-is}

-- what comes of a place, which is found unless memory is wanted
pub gives-with : {A B : Type 0} (found defined : Result A Fault) (next : A → Result B Fault) → Gives found defined →
    Gives (with_value found next) (with_value defined next)
gives-with (Ok value) defined next gives = λ other.
    ap (λ placed. with_value placed next)
    (gives (λ memory. let h : Ok value ≡ Err Memory = memory in absurd (cc)))
gives-with (Err fault) defined next gives = λ other.
    ap (λ placed. with_value placed next)
    (gives (λ memory. other (ap (λ placed. with_value placed next) memory)))

-- where a text is inserted for a place
abbrev pub at_place : Document → Widget → ℕ → Result (Option ℕ) Fault
at_place document widget given =
    Ok (if is_idle document widget then None else Some (insertion_offset document widget given))

pub none-inserted : (document : Document) (widget : Widget) (given : ℕ) → is_idle document widget ≡ true
    → at_place document widget given ≡ Ok None
none-inserted document widget given idle =
    ap (λ b. Ok (if b then None else Some (insertion_offset document widget given))) idle

module _ {parts : Parts} {document : Document} {place slot : ℕ} {content : Content} {first behind : ℕ}
    (seen : IsSeen parts document place slot content first behind) where
  -- whether the widget is disabled or shows nothing
  pub idle-found : {disabled : Bool} → get_or parts.journal.disabled slot false ≡ disabled
      → is_idle document (widget_at document place) ≡ (disabled || first == behind)
  idle-found {disabled} is =
      idle-is parts document place slot seen.stands seen.sits
      ∙ ap₂ (λ off shows. off || shows) is (ap₂ (λ s e. s == e) (sym seen.starts) (sym seen.ends))

  pub some-inserted : (given : ℕ) → is_idle document (widget_at document place) ≡ false
      → at_place document (widget_at document place) given ≡ Ok (Some (min (first + given) (behind - 1)))
  some-inserted given active =
      ap (λ b. Ok (if b then None else Some (insertion_offset document (widget_at document place) given))) active
      ∙ ap (λ at. Ok (Some at)) (sym (cut-at given seen (active-found seen active)))
