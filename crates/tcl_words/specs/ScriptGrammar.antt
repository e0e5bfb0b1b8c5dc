-- Which bytes are which commands, or which script fault (Tcl(n)).
use Rattle.std.specs.Prelude.{◌≡◌, ℕ, zero, suc, ◌<◌, Bool, true, false, if◌then◌else◌, ◌||◌, ◌&&◌, ◌==◌, ◌⊎◌, List, []}
use Rattle.std.specs.Prelude.{◌∷◌, ◌++◌, length, Option, Some, None, encode_utf8_all, ⊤}
use Rattle.std.specs.Str.{all_scalars, StartsWithNoChar}
use Rattle.tcl_words.specs.Characters.{is_end, is_blank, is_joint, is_expansion, names_variable}
use Rattle.tcl_words.specs.Escapes.{Escape, Gives, NoCharacter, Undecided, escape, gap}
use Rattle.tcl_words.specs.declared.fault.ScriptFault.{ScriptFault}
use Rattle.tcl_words.specs.declared.fault.ScriptFault.TheVariants.{MissingBrace, MissingQuote, ExtraAfterBrace}
use Rattle.tcl_words.specs.declared.fault.ScriptFault.TheVariants.{ExtraAfterQuote, Substitution, NotUtf8}
use Rattle.tcl_words.specs.declared.fault.ScriptFault.TheVariants.{BadCharacterCode}

-- What follows the characters at hand: nothing, bytes that aren't UTF-8, or anything at all.
pub data Ending : Type 0 where
  Ends : Ending
  Breaks : Ending
  Continues : Ending

abbrev pub is_last : Ending → Bool
is_last Ends = true
is_last Breaks = false
is_last Continues = false

-- What the characters hold first: a command, with the characters after it; no command up to the end; a
-- fault; or something that only what follows them decides.
pub data First : Type 0 where
  Command : List (List ℕ) → List ℕ → First
  Nothing : First
  Fault : ScriptFault → First
  Open : First

-- Where the characters stop, the script's end gives what is there so far, bytes that aren't UTF-8 are a
-- fault, and else it is open.
abbrev pub at_stop : Ending → First → First
at_stop Ends so_far = so_far
at_stop Breaks so_far = Fault NotUtf8
at_stop Continues so_far = Open

-- the character goes onto the first word
abbrev pub onto_word : ℕ → First → First
onto_word c (Command (word ∷ words) rest) = Command ((c ∷ word) ∷ words) rest
onto_word c (Command [] rest) = Command [] rest
onto_word c Nothing = Nothing
onto_word c (Fault fault) = Fault fault
onto_word c Open = Open

-- a word ends before the words that follow
abbrev pub end_word : First → First
end_word (Command words rest) = Command ([] ∷ words) rest
end_word Nothing = Nothing
end_word (Fault fault) = Fault fault
end_word Open = Open

-- Where the next character stands: where a command would begin, in a comment, where a word may begin, in a
-- bare word, in quotes, in so many braces beside the first, or behind a word that was closed, where all
-- but the end of a word is this fault.
pub data Where : Type 0 where
  AtCommand : Where
  InComment : Where
  AtWord : Where
  InBare : Where
  InQuotes : Where
  InBraces : ℕ → Where
  Behind : ScriptFault → Where

-- what the end of the script gives there
abbrev pub at_end : Where → First
at_end AtCommand = Nothing
at_end InComment = Nothing
at_end AtWord = Command [] []
at_end InBare = end_word (Command [] [])
at_end InQuotes = Fault MissingQuote
at_end (InBraces depth) = Fault MissingBrace
at_end (Behind fault) = Command [] []

-- Each rule below says what stands at the front: the character c and those after it, cs. What `go n place`
-- gives is read after n of the characters cs, at the place.

-- what an escape gives goes onto the word
abbrev pub escaped : Ending → (ℕ → First) → Escape → First
escaped e go (Gives c n) = onto_word c (go n)
escaped e go NoCharacter = Fault BadCharacterCode
escaped e go Undecided = at_stop e Open

-- in a bare or a quoted word: no substitution but that of backslashes
abbrev pub text_rule : Ending → ℕ → List ℕ → (ℕ → First) → First
text_rule e c cs go =
    if c == 91 || (c == 36 && names_variable cs) then Fault Substitution
    else (if c == 92 then escaped e go (escape (is_last e) cs)
    else onto_word c (go 0))

-- a bare word goes to the next blank, newline or semicolon
abbrev pub bare_rule : Ending → ℕ → List ℕ → (ℕ → Where → First) → First
bare_rule e c cs go =
    if is_end c then end_word (Command [] cs)
    else (if is_blank c then end_word (go 0 AtWord)
    else (if is_joint c cs then end_word (go 1 AtWord)
    else text_rule e c cs (λ n. go n InBare)))

-- a quoted word goes to the next quote
abbrev pub quoted_rule : Ending → ℕ → List ℕ → (ℕ → Where → First) → First
quoted_rule e c cs go =
    if c == 34 then end_word (go 0 (Behind ExtraAfterQuote))
    else text_rule e c cs (λ n. go n InQuotes)

-- the brace that closes the word, or one within it
abbrev pub close_rule : ℕ → ℕ → (ℕ → Where → First) → First
close_rule zero c go = end_word (go 0 (Behind ExtraAfterBrace))
close_rule (suc depth) c go = onto_word c (go 0 (InBraces depth))

-- a backslash is kept, with the character after it; before a newline it is one space
abbrev pub kept_rule : ℕ → List ℕ → (ℕ → Where → First) → First
kept_rule depth [] go = onto_word 92 (go 0 (InBraces depth))
kept_rule depth (c ∷ cs) go =
    if c == 10 then onto_word 32 (go (suc (gap cs)) (InBraces depth))
    else onto_word 92 (onto_word c (go 1 (InBraces depth)))

-- a braced word goes to the brace that closes it
abbrev pub braced_rule : ℕ → ℕ → List ℕ → (ℕ → Where → First) → First
braced_rule depth c cs go =
    if c == 125 then close_rule depth c go
    else (if c == 123 then onto_word c (go 0 (InBraces (suc depth)))
    else (if c == 92 then kept_rule depth cs go
    else onto_word c (go 0 (InBraces depth))))

-- `{*}` is a word only where it stands alone
abbrev pub open_rule : List ℕ → (ℕ → Where → First) → First
open_rule cs go =
    if is_expansion cs then onto_word 42 (end_word (go 2 (Behind Substitution)))
    else go 0 (InBraces 0)

-- where a word may begin
abbrev pub word_rule : Ending → ℕ → List ℕ → (ℕ → Where → First) → First
word_rule e c cs go =
    if is_end c then Command [] cs
    else (if is_blank c then go 0 AtWord
    else (if is_joint c cs then go 1 AtWord
    else (if c == 123 then open_rule cs go
    else (if c == 34 then go 0 InQuotes
    else text_rule e c cs (λ n. go n InBare)))))

-- no characters are at hand
abbrev pub is_nil : List ℕ → Bool
is_nil [] = true
is_nil (c ∷ cs) = false

-- behind a word that was closed; a backslash may be that of a backslash-newline
abbrev pub behind_rule : Ending → ScriptFault → ℕ → List ℕ → (ℕ → Where → First) → First
behind_rule e fault c cs go =
    if is_end c then Command [] cs
    else (if is_blank c then go 0 AtWord
    else (if is_joint c cs then go 1 AtWord
    else (if c == 92 && is_nil cs then at_stop e (Fault fault)
    else Fault fault)))

-- where a command would begin; commands without words are left out
abbrev pub command_rule : Ending → ℕ → List ℕ → (ℕ → Where → First) → First
command_rule e c cs go =
    if is_end c || is_blank c then go 0 AtCommand
    else (if is_joint c cs then go 1 AtCommand
    else (if c == 35 then go 0 InComment
    else word_rule e c cs go))

-- a comment goes through the next newline that no backslash escapes
abbrev pub comment_rule : ℕ → (ℕ → Where → First) → First
comment_rule c go =
    if c == 10 then go 0 AtCommand
    else (if c == 92 then go 1 InComment
    else go 0 InComment)

abbrev pub rule : Ending → Where → ℕ → List ℕ → (ℕ → Where → First) → First
rule e AtCommand c cs go = command_rule e c cs go
rule e InComment c cs go = comment_rule c go
rule e AtWord c cs go = word_rule e c cs go
rule e InBare c cs go = bare_rule e c cs go
rule e InQuotes c cs go = quoted_rule e c cs go
rule e (InBraces depth) c cs go = braced_rule depth c cs go
rule e (Behind fault) c cs go = behind_rule e fault c cs go

-- What the characters hold first, after so many of them that were read already, at a place.
unfoldable pub read : List ℕ → Ending → ℕ → Where → First
read [] e n place = at_stop e (at_end place)
read (c ∷ cs) e (suc n) place = read cs e n place
read (c ∷ cs) e zero place = rule e place c cs (read cs e)

-- what the characters hold first, where a command would begin
abbrev pub first : Ending → List ℕ → First
first e cs = read cs e 0 AtCommand

-- what may follow, in bytes
abbrev pub Follows : Ending → List ℕ → Type 0
Follows Ends bytes = bytes ≡ []
Follows Breaks bytes = (0 < length bytes) × StartsWithNoChar bytes
Follows Continues bytes = ⊤

-- the bytes are these characters in UTF-8
abbrev pub Spells : List ℕ → List ℕ → Type 0
Spells bytes characters = (all_scalars characters ≡ true) × (encode_utf8_all characters ≡ bytes)

-- at the front of the bytes stands a fault, whatever stood before it
abbrev pub MeetsFault : List ℕ → ScriptFault → Type 0
MeetsFault bytes fault = (front : List ℕ) × (back : List ℕ) × (characters : List ℕ) × (e : Ending)
    × (bytes ≡ front ++ back) × Spells front characters × Follows e back × (first e characters ≡ Fault fault)

-- the bytes hold no command, up to their end
abbrev pub HoldsNothing : List ℕ → Type 0
HoldsNothing bytes = (characters : List ℕ) × Spells bytes characters × (first Ends characters ≡ Nothing)

-- the bytes are a command of these words, whole: its newline or semicolon is the last of them
abbrev pub IsWholeCommand : List (List ℕ) → List ℕ → Type 0
IsWholeCommand words bytes =
    (characters : List ℕ) × Spells bytes characters × (first Continues characters ≡ Command words [])

-- the bytes are a command of these words, which the end of the script ends
abbrev pub IsLastCommand : List (List ℕ) → List ℕ → Type 0
IsLastCommand words bytes = (characters : List ℕ) × Spells bytes characters × (first Ends characters ≡ Command words [])

-- the bytes are a command of these words, before these other bytes
abbrev pub IsCommandBefore : List ℕ → List (List ℕ) → List ℕ → Type 0
IsCommandBefore rest words bytes = IsWholeCommand words bytes ⊎ ((rest ≡ []) × IsLastCommand words bytes)

-- The script's bytes are these commands, and then perhaps a fault.
abbrev pub ReadsScript : List ℕ → List (List (List ℕ)) → Option ScriptFault → Type 0
ReadsScript bytes [] None = HoldsNothing bytes
ReadsScript bytes [] (Some fault) = MeetsFault bytes fault
ReadsScript bytes (words ∷ commands) fault =
    (used : List ℕ) × (rest : List ℕ) × (bytes ≡ used ++ rest) × IsCommandBefore rest words used
    × ReadsScript rest commands fault

-- no command is whole in the bytes
abbrev pub HoldsNoWhole : List ℕ → Type 0
HoldsNoWhole bytes = (words : List (List ℕ)) (used rest : List ℕ) → bytes ≡ used ++ rest → ¬ IsWholeCommand words used

-- the bytes hold the fault first, however they go on
abbrev pub HoldsFault : List ℕ → ScriptFault → Type 0
HoldsFault bytes fault = (more : List ℕ) → MeetsFault (bytes ++ more) fault

-- These commands stand whole at the front of the bytes, and then perhaps a fault, however the bytes go on.
abbrev pub ReadsFront : List ℕ → List (List (List ℕ)) → Option ScriptFault → Type 0
ReadsFront bytes [] None = ⊤
ReadsFront bytes [] (Some fault) = HoldsFault bytes fault
ReadsFront bytes (words ∷ commands) fault =
    (used : List ℕ) × (rest : List ℕ) × (bytes ≡ used ++ rest) × IsWholeCommand words used
    × ReadsFront rest commands fault
