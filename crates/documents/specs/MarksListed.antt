-- How marks are listed and carried before they are settled.
use Rattle.std.specs.Prelude.{◌≡◌, ◌≢◌, ℕ, ◌+◌, ◌-◌, Bool, true, false, nat_lt, List, [], ◌∷◌, length, Some, option_map}
use Rattle.std.specs.Prelude.{if◌then◌else◌}
use Rattle.std.specs.List.{All}
use Rattle.text_model.specs.Splices.{drawn}
use Rattle.text_model.specs.declared.places.Place.{Place}
use Rattle.edit_ops.specs.declared.changes.TextChange.{TextChange}
use Rattle.command_effects.specs.Words.{is_among}
use Rattle.documents.specs.Documents.{Document}
use Rattle.documents.specs.MarksTold.{AreOthers, AreSingle, carried, mark_at, watched}
use Rattle.documents.specs.Names.{mark_number}
use Rattle.documents.specs.declared.mark_lists.MarkChange.{MarkChange}
use Rattle.documents.specs.declared.mark_lists.MarkKey.{MarkKey}
use Rattle.documents.specs.declared.mark_lists.MarkKind.TheVariants.{Shared}

-- the same as `carried`, where an offset past a limit is the limit
abbrev pub carried_within : ℕ → TextChange → Place → Place
carried_within most change place =
    let drawn_to = drawn change.at (change.at + change.removed) place in
    if nat_lt (most - length change.inserted) drawn_to.offset then record drawn_to { offset = most }
    else carried change place

abbrev pub all_carried_within : ℕ → List TextChange → Place → Place
all_carried_within most [] place = place
all_carried_within most (change ∷ changes) place =
    all_carried_within most changes (carried_within most change place)

-- a mark that is taken along with the text
abbrev pub mark_taken : (Place → Place) → MarkChange → MarkChange
mark_taken goes mark = record mark { new = option_map goes mark.new }

-- a mark says where it is now, and it is said whether that is somewhere else
pub record IsSettled (new : Document) (mark : MarkChange) (elsewhere : Bool) (after : MarkChange) : Type 0 where
  pub place : after ≡ record mark { new = mark_at new mark.key }
  pub there : elsewhere ≡ false → mark_at new mark.key ≡ mark.new
  pub moved : elsewhere ≡ true → mark_at new mark.key ≢ mark.new

abbrev pub shared_key : List ℕ → MarkKey
shared_key name = record { kind = Shared; name = name }

-- Marks are the shared marks of a document among some words, each once, where of each shared mark is known by its
-- number whether it was seen.
pub record AreListed (document : Document) (words : List (List ℕ)) (seen : ℕ → Bool)
    (marks : List MarkChange) : Type 0 where
  pub each : All (λ (mark : MarkChange). mark ≡ watched document mark.key) marks
  pub single : AreSingle marks
  pub unseen : (number : ℕ) (name : List ℕ) → mark_number document name ≡ Some (2 + number) →
      seen number ≡ false → AreOthers (shared_key name) marks
  pub known : (number : ℕ) (name : List ℕ) → mark_number document name ≡ Some (2 + number) →
      seen number ≡ true → AreOthers (shared_key name) marks → ⊥
  pub all : (number : ℕ) (name : List ℕ) → mark_number document name ≡ Some (2 + number) →
      is_among name words ≡ true → AreOthers (shared_key name) marks → ⊥
