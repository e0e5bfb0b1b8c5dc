-- How a list's text is read one character after the other.
use Rattle.std.specs.Prelude.{ℕ, zero, suc, ◌==◌, if◌then◌else◌, Option, Some, None}
use Rattle.tcl_words.specs.EscapeSteps.{escape_step, last_given}
use Rattle.tcl_words.specs.ListText.{is_white}
use Rattle.tcl_words.specs.Steps.{no_output, itself, word_end}
use Rattle.tcl_words.specs.declared.escapes.EscapeStage.TheVariants.{Backslash}
use Rattle.tcl_words.specs.declared.escapes.EscapeStep.{EscapeStep}
use Rattle.tcl_words.specs.declared.escapes.EscapeStep.TheVariants as escape
use Rattle.tcl_words.specs.declared.stage.TextWord.{TextWord}
use Rattle.tcl_words.specs.declared.stage.TextWord.TheVariants.{Bare, Quoted}
use Rattle.tcl_words.specs.declared.stage.Stage.{Stage}
use Rattle.tcl_words.specs.declared.stage.Stage.TheVariants as script
use Rattle.tcl_words.specs.declared.list_steps.ListStage.{ListStage}
use Rattle.tcl_words.specs.declared.list_steps.ListStage.TheVariants.{Between, Text, Escaped, Braced, BracedBackslash}
use Rattle.tcl_words.specs.declared.list_steps.ListStage.TheVariants.{Closed}
use Rattle.tcl_words.specs.declared.list_steps.ListNext.TheVariants.{Go, Bad}
use Rattle.tcl_words.specs.declared.list_steps.ListStep.{ListStep}

abbrev pub list_passes : ListStage → ListStep
list_passes stage = record { output = no_output; next = Go stage }

abbrev pub list_keeps : ListStage → ListStep
list_keeps stage = record { output = itself; next = Go stage }

abbrev pub list_closes : ListStage → ListStep
list_closes stage = record { output = word_end; next = Go stage }

abbrev pub no_list : ListStep
no_list = record { output = no_output; next = Bad }

abbrev pub list_after : ℕ → ListStep → ListStep
list_after c step = record { output = record step.output { given = Some c }; next = step.next }

abbrev pub text_element : TextWord → ℕ → ListStep
text_element word c = if c == 92 then list_passes (Escaped word Backslash) else list_keeps (Text word)

abbrev pub step_in_element : TextWord → ℕ → ListStep
step_in_element Bare c = if is_white c then list_closes Between else text_element Bare c
step_in_element Quoted c = if c == 34 then list_closes Closed else text_element Quoted c

abbrev pub step_at_element : ℕ → ListStep
step_at_element c =
    if is_white c then list_passes Between
    else (if c == 123 then list_passes (Braced 0)
    else (if c == 34 then list_passes (Text Quoted)
    else text_element Bare c))

abbrev pub close_brace : ℕ → ListStep
close_brace zero = list_closes Closed
close_brace (suc depth) = list_keeps (Braced depth)

abbrev pub step_in_braces : ℕ → ℕ → ListStep
step_in_braces depth c =
    if c == 125 then close_brace depth
    else (if c == 123 then list_keeps (Braced (suc depth))
    else (if c == 92 then list_keeps (BracedBackslash depth)
    else list_keeps (Braced depth)))

abbrev pub element_by : TextWord → ℕ → EscapeStep → ListStep
element_by word c (escape.Goes stage) = list_passes (Escaped word stage)
element_by word c (escape.Gives d) = list_after d (list_passes (Text word))
element_by word c escape.Keeps = list_keeps (Text word)
element_by word c (escape.Before d) = list_after d (step_in_element word c)
element_by word c escape.NoCharacter = no_list

abbrev pub list_step : ListStage → ℕ → ListStep
list_step Between c = step_at_element c
list_step (Text word) c = step_in_element word c
list_step (Escaped word stage) c = element_by word c (escape_step stage c)
list_step (Braced depth) c = step_in_braces depth c
list_step (BracedBackslash depth) c = list_keeps (Braced depth)
list_step Closed c = if is_white c then list_passes Between else no_list

-- what the end of the text does
abbrev pub last_in_element : TextWord → ListStep
last_in_element Bare = list_closes Between
last_in_element Quoted = no_list

abbrev pub last_element_by : TextWord → Option ℕ → ListStep
last_element_by word (Some c) = list_after c (last_in_element word)
last_element_by word None = no_list

abbrev pub last_list_step : ListStage → ListStep
last_list_step Between = list_passes Between
last_list_step (Text word) = last_in_element word
last_list_step (Escaped word stage) = last_element_by word (last_given stage)
last_list_step (Braced depth) = no_list
last_list_step (BracedBackslash depth) = no_list
last_list_step Closed = list_passes Between

-- how many braces are open beside the first
abbrev pub open_braces : ListStage → ℕ
open_braces (Braced depth) = depth
open_braces (BracedBackslash depth) = depth
open_braces _ = 0

-- the stage of a script in which all that goes onto a word as it is does so here too
abbrev pub script_stage : ListStage → Stage
script_stage Between = script.BeforeCommand
script_stage (Text word) = script.Text word
script_stage (Escaped word stage) = script.BeforeCommand
script_stage (Braced depth) = script.Braced depth
script_stage (BracedBackslash depth) = script.BeforeCommand
script_stage Closed = script.BeforeCommand
