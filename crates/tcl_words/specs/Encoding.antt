-- Where the text at the front of bytes stops.
use Rattle.std.specs.Prelude.{◌≡◌, ℕ, ◌<◌, List, [], ◌++◌, length, encode_utf8}
use Rattle.std.specs.Char.{IsScalar}
use Rattle.std.specs.Str.{StartsWithNoChar}
use Rattle.tcl_words.specs.declared.encoding.TextStop.{TextStop}
use Rattle.tcl_words.specs.declared.encoding.TextStop.TheVariants.{AtEnd, WithinCharacter, Broken}

-- bytes that begin no character, however they go on
abbrev pub BeginsNoChar : List ℕ → Type 0
BeginsNoChar bytes = (0 < length bytes) × ((more : List ℕ) → StartsWithNoChar (bytes ++ more))

-- the bytes are the front of one character
abbrev pub BeginsOneChar : List ℕ → Type 0
BeginsOneChar bytes = (c : ℕ) × (more : List ℕ) × IsScalar c × (encode_utf8 c ≡ bytes ++ more)

-- what the bytes after the text are
abbrev pub StopsAs : TextStop → List ℕ → Type 0
StopsAs AtEnd after = after ≡ []
StopsAs WithinCharacter after = (0 < length after) × StartsWithNoChar after × BeginsOneChar after
StopsAs Broken after = BeginsNoChar after
