-- How far the bytes not yet given were read, and what they hold next.
use Rattle.std.specs.Prelude.{◌≡◌, ◌≢◌, ℕ, ◌<◌, ◌≤◌, Bool, true, false, Option, Some, None, Result, Ok, Err, List}
use Rattle.std.specs.Prelude.{length, take, drop, IsUtf8, chars}
use Rattle.tcl_words.specs.Scanning.{scanned, pieces_from}
use Rattle.tcl_words.specs.Unread.{Unread, IsNextCommand, HasNoCommand, HasFault}
use Rattle.tcl_words.specs.declared.fault.ScriptFault.{ScriptFault}
use Rattle.tcl_words.specs.declared.fault.ScriptFault.TheVariants.{Memory, NotUtf8}
use Rattle.tcl_words.specs.declared.encoding.TextStop.{TextStop}
use Rattle.tcl_words.specs.declared.encoding.TextStop.TheVariants.{AtEnd, WithinCharacter, Broken}
use Rattle.tcl_words.specs.Steps.{last_step}
use Rattle.tcl_words.specs.declared.stage.Stage.{Stage}
use Rattle.tcl_words.specs.declared.stage.Stage.TheVariants.{BeforeCommand}
use Rattle.tcl_words.specs.declared.stage.Next.{Next}
use Rattle.tcl_words.specs.declared.stage.Next.TheVariants.{Go, End, Refuse}
use Rattle.tcl_words.specs.declared.scanner.Scan.TheVariants.{Reaches}
use Rattle.tcl_words.specs.declared.progress.Progress.{Progress}

abbrev pub starting_at : ℕ → Progress
starting_at valid = record { valid = valid; seen = 0; stage = BeforeCommand }

-- the bytes were read so far
pub record IsProgress (rest : List ℕ) (progress : Progress) : Type 0 where
  pub order : progress.seen ≤ progress.valid
  pub within : progress.valid ≤ length rest
  pub text : IsUtf8 (take progress.valid rest)
  pub reached : scanned (take progress.seen rest) BeforeCommand ≡ Reaches progress.stage

-- the first so many bytes are the next command
pub record IsCommandOf (finished : Bool) (rest : List ℕ) (len : ℕ) : Type 0 where
  pub some : 0 < len
  pub within : len ≤ length rest
  pub words : List (List ℕ)
  pub is : IsNextCommand finished (drop len rest) words (take len rest)
  pub written : pieces_from (chars (take len rest)) BeforeCommand ≡ words
  pub text : IsUtf8 (take len rest)

-- the next command has these words and so many bytes
pub record IsFound (unread : Unread) (words : List (List ℕ)) (len : ℕ) : Type 0 where
  pub no_fault : unread.fault ≡ None
  pub is : IsCommandOf unread.finished unread.rest len
  pub same : words ≡ is.words
  pub some : 0 < length words

-- what the bytes hold next
abbrev pub IsNext : Bool → List ℕ → Result (Option ℕ) ScriptFault → Type 0
IsNext finished rest (Ok (Some len)) = IsCommandOf finished rest len
IsNext finished rest (Ok None) = HasNoCommand finished rest
IsNext finished rest (Err fault) = (fault ≢ Memory) × HasFault finished rest fault

-- what the end of the script is next
abbrev pub last_found : Next → ℕ → Result (Option ℕ) ScriptFault
last_found (Go stage) len = Ok None
last_found End len = Ok (Some len)
last_found (Refuse fault) len = Err fault

-- the command that the end of the script ends, if one has begun
abbrev pub last_command : Stage → ℕ → Result (Option ℕ) ScriptFault
last_command stage len = last_found (last_step stage).next len

-- what is next where the scan has passed the text and met no end
abbrev pub text_end : TextStop → Bool → Stage → ℕ → Result (Option ℕ) ScriptFault
text_end AtEnd true stage len = last_command stage len
text_end AtEnd false stage len = Ok None
text_end WithinCharacter true stage len = Err NotUtf8
text_end WithinCharacter false stage len = Ok None
text_end Broken finished stage len = Err NotUtf8
