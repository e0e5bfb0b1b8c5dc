-- Words whose bytes follow one another.
use Rattle.std.specs.Prelude.{◌≡◌, ℕ, ◌+◌, ◌<◌, List, [], ◌∷◌, length, map, take, drop, chars, IsUtf8, ⊤}

-- the bytes, cut into pieces of these lengths
abbrev pub cut : List ℕ → List ℕ → List (List ℕ)
cut [] bytes = []
cut (n ∷ lengths) bytes = take n bytes ∷ cut lengths (drop n bytes)

-- the characters of these pieces
abbrev pub words_at : List ℕ → List ℕ → List (List ℕ)
words_at lengths bytes = map chars (cut lengths bytes)

abbrev pub total : List ℕ → ℕ
total [] = 0
total (n ∷ lengths) = n + total lengths

-- there is a length, and all of them add up to the bytes
abbrev pub AreLengths : List ℕ → List ℕ → Type 0
AreLengths lengths bytes = (0 < length lengths) × (total lengths ≡ length bytes)

abbrev pub AreTexts : List (List ℕ) → Type 0
AreTexts [] = ⊤
AreTexts (word ∷ words) = IsUtf8 word × AreTexts words
