-- How a scan goes over a command one by one, and what it writes.
use Rattle.std.specs.Prelude.{ℕ, ◌+◌, Bool, if◌then◌else◌, List, [], ◌∷◌, ◌++◌, Option, Some, None, encode_utf8}
use Rattle.std.specs.Prelude.{map, chars, encode_utf8_all}
use Rattle.tcl_words.specs.Steps.{step_of, last_step}
use Rattle.tcl_words.specs.declared.stage.Stage.{Stage}
use Rattle.tcl_words.specs.declared.stage.Next.{Next}
use Rattle.tcl_words.specs.declared.stage.Next.TheVariants.{Go, End, Refuse}
use Rattle.tcl_words.specs.declared.stage.Output.{Output}
use Rattle.tcl_words.specs.declared.scanner.Scan.{Scan}
use Rattle.tcl_words.specs.declared.scanner.Scan.TheVariants.{EndsAt, Refused, Reaches}

-- a scan that begins so many bytes later
abbrev pub later : ℕ → Scan → Scan
later n (EndsAt m) = EndsAt (n + m)
later n (Refused fault) = Refused fault
later n (Reaches stage) = Reaches stage

-- the scan from a byte on, and the scan of the bytes after it from each stage
abbrev pub scan_next : Next → (Stage → Scan) → Scan
scan_next (Go stage) after = later 1 (after stage)
scan_next End after = EndsAt 1
scan_next (Refuse fault) after = Refused fault

unfoldable pub scanned : List ℕ → Stage → Scan
scanned [] stage = Reaches stage
scanned (c ∷ cs) stage = scan_next (step_of stage c).next (scanned cs)

-- the character goes onto the first word
abbrev pub onto_piece : ℕ → List (List ℕ) → List (List ℕ)
onto_piece c [] = []
onto_piece c (word ∷ words) = (c ∷ word) ∷ words

abbrev pub given_onto : Option ℕ → List (List ℕ) → List (List ℕ)
given_onto None words = words
given_onto (Some c) words = onto_piece c words

abbrev pub kept_onto : Bool → ℕ → List (List ℕ) → List (List ℕ)
kept_onto kept c words = if kept then onto_piece c words else words

abbrev pub ended_before : Bool → List (List ℕ) → List (List ℕ)
ended_before ended words = if ended then [] ∷ words else words

-- what a character adds goes before the words that follow
abbrev pub written : Output → ℕ → List (List ℕ) → List (List ℕ)
written output c words = given_onto output.given (kept_onto output.kept c (ended_before output.ended words))

-- the words after a character, and those of what follows from each stage
abbrev pub words_next : Next → (Stage → List (List ℕ)) → List (List ℕ)
words_next (Go stage) after = after stage
words_next End after = []
words_next (Refuse fault) after = []

-- the words of a command's characters
unfoldable pub pieces_from : List ℕ → Stage → List (List ℕ)
pieces_from [] stage = written (last_step stage).output 0 []
pieces_from (c ∷ cs) stage = written (step_of stage c).output c (words_next (step_of stage c).next (pieces_from cs))

-- bytes go onto the first word
abbrev pub prefixed : List ℕ → List (List ℕ) → List (List ℕ)
prefixed bytes [] = []
prefixed bytes (word ∷ words) = (bytes ++ word) ∷ words

-- the words of a text from a stage, in their bytes, behind bytes of the first
abbrev pub words_on : List ℕ → List ℕ → Stage → List (List ℕ)
words_on word text stage = prefixed word (map encode_utf8_all (pieces_from (chars text) stage))

-- What is written so far: the bytes of the words that ended, and of the one that is under way.

abbrev pub given_bytes : Option ℕ → List ℕ
given_bytes None = []
given_bytes (Some c) = encode_utf8 c

abbrev pub kept_bytes : Bool → ℕ → List ℕ
kept_bytes kept c = if kept then encode_utf8 c else []

-- the word with what a character adds
abbrev pub word_with : Output → ℕ → List ℕ → List ℕ
word_with output c word = (word ++ given_bytes output.given) ++ kept_bytes output.kept c

-- the words after it, and the word that is under way then
abbrev pub words_after : Bool → List ℕ → List (List ℕ) → List (List ℕ)
words_after ended word words = if ended then words ++ word ∷ [] else words

abbrev pub word_after : Bool → List ℕ → List ℕ
word_after ended word = if ended then [] else word
