-- Lists of parts, in the order of the text or turned.
use Rattle.std.specs.Prelude.{◌≡◌, ℕ, ◌-◌, Bool, List, [], ◌∷◌, ◌++◌, length, take, reverse, sum_by, if◌then◌else◌}
use Rattle.text_cursor.specs.declared.parts.Part.{Part}

abbrev pub parts_len : List Part → ℕ
parts_len parts = sum_by (λ (part : Part). part.to - part.from) parts

-- a list, or what stands in it from the end
abbrev pub turned_if : Bool → List Part → List Part
turned_if turned parts = if turned then reverse parts else parts

-- a part is the last one of some
abbrev pub EndsWith : List Part → Part → Type 0
EndsWith parts part = parts ≡ take (length parts - 1) parts ++ part ∷ []
