-- Characters that go onto a word as they are.
use Rattle.std.specs.Prelude.{◌≡◌, ℕ, ◌<◌, ◌≤◌, Bool, true, false, ◌==◌, if◌then◌else◌, List, length, slice_index}
use Rattle.tcl_words.specs.Characters.{is_end, is_blank}
use Rattle.tcl_words.specs.declared.stage.TextWord.TheVariants.{Bare, Quoted}
use Rattle.tcl_words.specs.declared.stage.Stage.{Stage}
use Rattle.tcl_words.specs.declared.stage.Stage.TheVariants.{BeforeCommand, BeforeWord, Text, Braced}

abbrev pub is_ordinary : ℕ → Bool
is_ordinary c = if c == 91 then false else (if c == 36 then false else (if c == 92 then false else true))

abbrev pub is_bare : ℕ → Bool
is_bare c = if is_end c then false else (if is_blank c then false else (if c == 92 then false else is_ordinary c))

-- begins a bare word where a word may begin, and where a command may
abbrev pub begins_word : ℕ → Bool
begins_word c = if c == 123 then false else (if c == 34 then false else is_bare c)

abbrev pub begins_command : ℕ → Bool
begins_command c = if c == 35 then false else begins_word c

abbrev pub is_quoted : ℕ → Bool
is_quoted c = if c == 34 then false else is_ordinary c

abbrev pub is_braced : ℕ → Bool
is_braced c = if c == 125 then false else (if c == 123 then false else (if c == 92 then false else true))

abbrev pub is_plain : Stage → ℕ → Bool
is_plain (Text Bare) c = is_bare c
is_plain (Text Quoted) c = is_quoted c
is_plain (Braced depth) c = is_braced c
is_plain _ c = false

-- the stage before a character, where a bare word that it begins counts as begun
abbrev pub begun : Stage → ℕ → Stage
begun BeforeCommand c = if begins_command c then Text Bare else BeforeCommand
begun BeforeWord c = if begins_word c then Text Bare else BeforeWord
begun stage c = stage

-- All bytes from one place to before another are ordinary,
abbrev pub AllOrdinary : (ℕ → Bool) → List ℕ → ℕ → ℕ → Type 0
AllOrdinary ordinary bytes from to = (k : ℕ) → from ≤ k → k < to → ordinary (slice_index bytes k) ≡ true

-- and these are as many as there are.
abbrev pub IsRun : (ℕ → Bool) → List ℕ → ℕ → ℕ → Type 0
IsRun ordinary bytes from to =
    (to ≤ length bytes) × AllOrdinary ordinary bytes from to
    × (to < length bytes → ordinary (slice_index bytes to) ≡ false)
