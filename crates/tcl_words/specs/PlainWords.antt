-- Words that stand in a command as they are, but for escapes of two in a quoted one, and commands of such.
use Rattle.std.specs.Prelude.{◌≡◌, ℕ, ◌+◌, ◌<◌, ◌≤◌, Bool, true, false, List, [], ◌∷◌, length, map, drop, slice_index}
use Rattle.std.specs.Prelude.{slice_range, IsUtf8, chars, encode_utf8_all, ◌==◌, ◌&&◌, if◌then◌else◌, is_some}
use Rattle.std.specs.Bool.{⊤}
use Rattle.tcl_words.specs.Characters.{is_end, is_blank}
use Rattle.tcl_words.specs.Escapes.{letter_value}
use Rattle.tcl_words.specs.EscapeSteps.{pair_gives}
use Rattle.tcl_words.specs.Runs.{is_quoted}
use Rattle.tcl_words.specs.Scanning.{later, scanned, pieces_from}
use Rattle.tcl_words.specs.declared.plain_words.PlainWord.{PlainWord}
use Rattle.tcl_words.specs.declared.scanner.Scan.{Scan}
use Rattle.tcl_words.specs.declared.scanner.Scan.TheVariants.{EndsAt}
use Rattle.tcl_words.specs.declared.stage.Stage.{Stage}
use Rattle.tcl_words.specs.declared.stage.Stage.TheVariants.{BeforeCommand, BeforeWord}

-- the scan of a word of so many bytes, which may be the last, and of what follows
abbrev pub scan_behind : Bool → ℕ → List ℕ → Scan
scan_behind true len rest = EndsAt len
scan_behind false len rest = later len (scanned rest BeforeWord)

-- the words that follow
abbrev pub words_behind : Bool → List ℕ → List (List ℕ)
words_behind true rest = []
words_behind false rest = pieces_from (chars rest) BeforeWord

-- the words of some bytes, in their bytes
abbrev pub spelled_from : List ℕ → Stage → List (List ℕ)
spelled_from bytes stage = map encode_utf8_all (pieces_from (chars bytes) stage)

-- Bytes of a quoted word, where `behind` says whether they follow a backslash: all of them are ordinary ones and
-- escapes of two.
abbrev pub is_quoted_from : Bool → List ℕ → Bool
is_quoted_from true [] = false
is_quoted_from false [] = true
is_quoted_from true (c ∷ cs) = is_some (pair_gives c) && is_quoted_from false cs
is_quoted_from false (c ∷ cs) = if c == 92 then is_quoted_from true cs else is_quoted c && is_quoted_from false cs

abbrev pub is_quoted_text : List ℕ → Bool
is_quoted_text text = is_quoted_from false text

-- what they spell: what a byte behind a backslash stands for, and the others as they are
abbrev pub unquoted_from : Bool → List ℕ → List ℕ
unquoted_from behind [] = []
unquoted_from true (c ∷ cs) = letter_value c ∷ unquoted_from false cs
unquoted_from false (c ∷ cs) = if c == 92 then unquoted_from true cs else c ∷ unquoted_from false cs

abbrev pub unquoted : List ℕ → List ℕ
unquoted text = unquoted_from false text

-- what the text of a word spells that may have escapes
abbrev pub spelled_by : Bool → List ℕ → List ℕ
spelled_by true text = unquoted text
spelled_by false text = text

abbrev pub IsWordText : Bool → List ℕ → Type 0
IsWordText true text = is_quoted_text text ≡ true
IsWordText false text = ⊤

-- a word at the front of some bytes, from a stage
pub record IsFoundWord (stage : Stage) (bytes : List ℕ) (word : PlainWord) (has_escapes : Bool) : Type 0 where
  pub order : word.from ≤ word.to
  pub inside : word.to < word.len
  pub within : word.len ≤ length bytes
  pub flag : word.has_escapes ≡ has_escapes
  pub scans : scanned bytes stage ≡ scan_behind word.is_last word.len (drop word.len bytes)
  pub text : IsUtf8 bytes → IsUtf8 (slice_range bytes word.from word.to)
  pub rest : IsUtf8 bytes → IsUtf8 (drop word.len bytes)
  pub escapes : IsWordText has_escapes (slice_range bytes word.from word.to)
  pub pieces : IsUtf8 bytes → spelled_from bytes stage ≡ spelled_by has_escapes (slice_range bytes word.from word.to)
      ∷ map encode_utf8_all (words_behind word.is_last (drop word.len bytes))

-- the same of one that stands there as it is
abbrev pub IsPlainWord : Stage → List ℕ → PlainWord → Type 0
IsPlainWord stage bytes word = IsFoundWord stage bytes word false

-- the character ends a word, and the command where the word is the last
abbrev pub EndsWord : ℕ → Bool → Type 0
EndsWord c true = is_end c ≡ true
EndsWord c false = (is_blank c ≡ true) × (is_end c ≡ false)

-- Behind the first byte and so many others stands one that closes the word, and then what ends it.
pub record IsClosed (bytes : List ℕ) (run close : ℕ) (word : PlainWord) : Type 0 where
  pub within : run + 2 < length bytes
  pub closes : slice_index bytes (run + 1) ≡ close
  pub ends : EndsWord (slice_index bytes (run + 2)) word.is_last
  pub is : word ≡ record { from = 1; to = run + 1; len = run + 3; is_last = word.is_last; has_escapes = false }

-- a text begins with a command of these words, which has so many bytes
pub record IsPlainCommand (text : List ℕ) (words : List (List ℕ)) (len : ℕ) : Type 0 where
  pub scans : scanned text BeforeCommand ≡ EndsAt len
  pub pieces : words ≡ spelled_from text BeforeCommand
