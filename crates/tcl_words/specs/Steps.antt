-- What each character of a command does, by what stands before it.
use Rattle.std.specs.Prelude.{ℕ, zero, suc, true, false, ◌||◌, ◌==◌, if◌then◌else◌, Option, Some, None}
use Rattle.tcl_words.specs.Characters.{is_end, is_blank, begins_name}
use Rattle.tcl_words.specs.EscapeSteps.{is_gap, escape_step, last_given}
use Rattle.tcl_words.specs.declared.fault.ScriptFault.{ScriptFault}
use Rattle.tcl_words.specs.declared.fault.ScriptFault.TheVariants.{MissingBrace, MissingQuote, ExtraAfterBrace}
use Rattle.tcl_words.specs.declared.fault.ScriptFault.TheVariants.{ExtraAfterQuote, Substitution, BadCharacterCode}
use Rattle.tcl_words.specs.declared.escapes.EscapeStage.TheVariants.{Backslash}
use Rattle.tcl_words.specs.declared.escapes.EscapeStep.{EscapeStep}
use Rattle.tcl_words.specs.declared.escapes.EscapeStep.TheVariants as escape
use Rattle.tcl_words.specs.declared.stage.TextWord.{TextWord}
use Rattle.tcl_words.specs.declared.stage.TextWord.TheVariants.{Bare, Quoted}
use Rattle.tcl_words.specs.declared.stage.Closing.{Closing}
use Rattle.tcl_words.specs.declared.stage.Closing.TheVariants.{Brace, Quote, Expansion}
use Rattle.tcl_words.specs.declared.stage.Stage.{Stage}
use Rattle.tcl_words.specs.declared.stage.Stage.TheVariants.{BeforeCommand, CommandBackslash, Comment, CommentBackslash}
use Rattle.tcl_words.specs.declared.stage.Stage.TheVariants.{BeforeWord, WordBackslash, BareBackslash, Text}
use Rattle.tcl_words.specs.declared.stage.Stage.TheVariants.{AfterDollar, AfterColon, Escaped, AfterOpening, AfterStar}
use Rattle.tcl_words.specs.declared.stage.Stage.TheVariants.{Braced, BracedBackslash, BracedGap, Behind}
use Rattle.tcl_words.specs.declared.stage.Stage.TheVariants.{BehindBackslash}
use Rattle.tcl_words.specs.declared.stage.Next.{Next}
use Rattle.tcl_words.specs.declared.stage.Next.TheVariants.{Go, End, Refuse}
use Rattle.tcl_words.specs.declared.stage.Output.{Output}
use Rattle.tcl_words.specs.declared.stage.Step.{Step}

-- what a character adds: nothing, itself, or the end of its word

abbrev pub no_output : Output
no_output = record { given = None; kept = false; ended = false }

abbrev pub itself : Output
itself = record { given = None; kept = true; ended = false }

abbrev pub word_end : Output
word_end = record { given = None; kept = false; ended = true }

abbrev pub passes : Stage → Step
passes stage = record { output = no_output; next = Go stage }

abbrev pub keeps : Stage → Step
keeps stage = record { output = itself; next = Go stage }

abbrev pub closes : Next → Step
closes next = record { output = word_end; next = next }

abbrev pub ends_here : Step
ends_here = record { output = no_output; next = End }

abbrev pub refuses : ScriptFault → Step
refuses fault = record { output = no_output; next = Refuse fault }

-- the same, behind an escape that gives this character
abbrev pub after : ℕ → Step → Step
after c step = record { output = record step.output { given = Some c }; next = step.next }

-- what anything else than the end of a word is behind what closed it
abbrev pub fault_behind : Closing → ScriptFault
fault_behind Brace = ExtraAfterBrace
fault_behind Quote = ExtraAfterQuote
fault_behind Expansion = Substitution

abbrev pub text_step : TextWord → ℕ → Step
text_step word c =
    if c == 91 then refuses Substitution
    else (if c == 36 then keeps (AfterDollar word)
    else (if c == 92 then passes (Escaped word Backslash)
    else keeps (Text word)))

abbrev pub bare_step : ℕ → Step
bare_step c =
    if is_end c then closes End
    else (if is_blank c then closes (Go BeforeWord)
    else (if c == 92 then passes BareBackslash
    else text_step Bare c))

abbrev pub quoted_step : ℕ → Step
quoted_step c = if c == 34 then closes (Go (Behind Quote)) else text_step Quoted c

abbrev pub word_step : ℕ → Step
word_step c =
    if is_end c then ends_here
    else (if is_blank c then passes BeforeWord
    else (if c == 92 then passes WordBackslash
    else (if c == 123 then passes AfterOpening
    else (if c == 34 then passes (Text Quoted)
    else text_step Bare c))))

abbrev pub command_step : ℕ → Step
command_step c =
    if is_end c || is_blank c then passes BeforeCommand
    else (if c == 92 then passes CommandBackslash
    else (if c == 35 then passes Comment
    else word_step c))

abbrev pub comment_step : ℕ → Step
comment_step c =
    if c == 10 then passes BeforeCommand
    else (if c == 92 then passes CommentBackslash
    else passes Comment)

abbrev pub close_step : ℕ → Step
close_step zero = closes (Go (Behind Brace))
close_step (suc depth) = keeps (Braced depth)

abbrev pub braced_step : ℕ → ℕ → Step
braced_step depth c =
    if c == 125 then close_step depth
    else (if c == 123 then keeps (Braced (suc depth))
    else (if c == 92 then passes (BracedBackslash depth)
    else keeps (Braced depth)))

abbrev pub kept_step : ℕ → ℕ → Step
kept_step depth c =
    if c == 10 then after 32 (passes (BracedGap depth))
    else after 92 (keeps (Braced depth))

abbrev pub behind_step : Closing → ℕ → Step
behind_step closing c =
    if is_end c then ends_here
    else (if is_blank c then passes BeforeWord
    else (if c == 92 then passes (BehindBackslash closing)
    else refuses (fault_behind closing)))

-- in a word where escapes count
abbrev pub inside_step : TextWord → ℕ → Step
inside_step Bare c = bare_step c
inside_step Quoted c = quoted_step c

abbrev pub dollar_step : TextWord → ℕ → Step
dollar_step word c =
    if begins_name c then refuses Substitution
    else (if c == 58 then keeps (AfterColon word)
    else inside_step word c)

abbrev pub colon_step : TextWord → ℕ → Step
colon_step word c = if c == 58 then refuses Substitution else inside_step word c

-- what a character does to a word, by what it does to an escape
abbrev pub step_by : TextWord → ℕ → EscapeStep → Step
step_by word c (escape.Goes stage) = passes (Escaped word stage)
step_by word c (escape.Gives d) = after d (passes (Text word))
step_by word c escape.Keeps = keeps (Text word)
step_by word c (escape.Before d) = after d (inside_step word c)
step_by word c escape.NoCharacter = refuses BadCharacterCode

-- behind a backslash that may be that of a blank
abbrev pub joint_step : Step → ℕ → Step
joint_step blank c = if c == 10 then blank else step_by Bare c (escape_step Backslash c)

abbrev pub opening_step : ℕ → Step
opening_step c = if c == 42 then keeps AfterStar else braced_step 0 c

abbrev pub star_step : ℕ → Step
star_step c = if c == 125 then closes (Go (Behind Expansion)) else braced_step 0 c

abbrev pub gap_in_braces : ℕ → ℕ → Step
gap_in_braces depth c = if is_gap c then passes (BracedGap depth) else braced_step depth c

abbrev pub behind_joint : Closing → ℕ → Step
behind_joint closing c = if c == 10 then passes BeforeWord else refuses (fault_behind closing)

abbrev pub step_of : Stage → ℕ → Step
step_of BeforeCommand c = command_step c
step_of CommandBackslash c = joint_step (passes BeforeCommand) c
step_of Comment c = comment_step c
step_of CommentBackslash c = passes Comment
step_of BeforeWord c = word_step c
step_of WordBackslash c = joint_step (passes BeforeWord) c
step_of BareBackslash c = joint_step (closes (Go BeforeWord)) c
step_of (Text word) c = inside_step word c
step_of (AfterDollar word) c = dollar_step word c
step_of (AfterColon word) c = colon_step word c
step_of (Escaped word stage) c = step_by word c (escape_step stage c)
step_of AfterOpening c = opening_step c
step_of AfterStar c = star_step c
step_of (Braced depth) c = braced_step depth c
step_of (BracedBackslash depth) c = kept_step depth c
step_of (BracedGap depth) c = gap_in_braces depth c
step_of (Behind closing) c = behind_step closing c
step_of (BehindBackslash closing) c = behind_joint closing c

-- What the end of the script does: to go on means that no command has begun.

abbrev pub last_in_text : TextWord → Step
last_in_text Bare = closes End
last_in_text Quoted = refuses MissingQuote

abbrev pub last_by : TextWord → Option ℕ → Step
last_by word (Some c) = after c (last_in_text word)
last_by word None = refuses BadCharacterCode

abbrev pub last_step : Stage → Step
last_step BeforeCommand = passes BeforeCommand
last_step CommandBackslash = last_by Bare (last_given Backslash)
last_step Comment = passes BeforeCommand
last_step CommentBackslash = passes BeforeCommand
last_step BeforeWord = ends_here
last_step WordBackslash = last_by Bare (last_given Backslash)
last_step BareBackslash = last_by Bare (last_given Backslash)
last_step (Text word) = last_in_text word
last_step (AfterDollar word) = last_in_text word
last_step (AfterColon word) = last_in_text word
last_step (Escaped word stage) = last_by word (last_given stage)
last_step AfterOpening = refuses MissingBrace
last_step AfterStar = refuses MissingBrace
last_step (Braced depth) = refuses MissingBrace
last_step (BracedBackslash depth) = refuses MissingBrace
last_step (BracedGap depth) = refuses MissingBrace
last_step (Behind closing) = ends_here
last_step (BehindBackslash closing) = refuses (fault_behind closing)

-- how many braces are open beside the first
abbrev pub depth_of : Stage → ℕ
depth_of (Braced depth) = depth
depth_of (BracedBackslash depth) = depth
depth_of (BracedGap depth) = depth
depth_of _ = 0
