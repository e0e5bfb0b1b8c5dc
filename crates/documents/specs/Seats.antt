-- What is kept by the slots of widgets.
use Rattle.std.specs.Prelude.{◌≡◌, ℕ, ◌<◌, ◌++◌, ◌∷◌, [], List, replicate}
use Rattle.text_model.specs.Content.{Content}
use Rattle.text_model.specs.LimitTable.{most_widgets}
use Rattle.name_list.specs.Names.{AreNames, IsLeastFree, Names, numbers_of}
use Rattle.command_effects.specs.Edits.{new_mark, with_own_marks}

-- a list with a value behind it so many times
abbrev pub IsLonger : {A : Type 0} → A → List A → List A → Type 0
IsLonger value old new = (count : ℕ) × (new ≡ old ++ replicate count value)

-- A name is put last with the least free slot, and the two marks of the slot at an offset.
pub record IsSeatPut (name : List ℕ) (offset : ℕ) (old new : Names) (content changed : Content) (slot : ℕ) : Type 0
  where
    pub least : IsLeastFree (numbers_of old.entries) slot
    pub below : slot < most_widgets
    pub last : new ≡ record old { entries = old.entries ++ record { name = name; number = slot } ∷ [] }
    pub sound : AreNames new
    pub store : changed ≡ with_own_marks slot (record new_mark { offset = offset }) content
