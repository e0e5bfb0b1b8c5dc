-- What a scan says of the grammar, whatever follows the characters.
use Rattle.tcl_words.proofs.Common.{◌≡◌, ◌≢◌, ℕ, zero, suc, ◌<◌, ◌≤◌, ◌==◌, Bool, true, false, cond, ◌||◌, Option, Some}
use Rattle.tcl_words.proofs.Common.{None, List, [], ◌∷◌, ◌++◌, length, take, refl, sym, ap, ◌∙◌, arith, one-add, ⊤}
use Rattle.tcl_words.proofs.Common.{is_end, is_blank, begins_name, Gives, NoCharacter, is_gap, escape_step, last_given}
use Rattle.tcl_words.proofs.Common.{Ending, Ends, Breaks, Continues, First, Command, Nothing, Fault, Open, onto_word}
use Rattle.tcl_words.proofs.Common.{end_word, escaped, after, fault_behind, text_step, inside_step, word_step}
use Rattle.tcl_words.proofs.Common.{close_step, braced_step, step_by, step_of, last_in_text, last_by, last_step}
use Rattle.tcl_words.proofs.Common.{depth_of, later, scan_next, onto_piece, given_onto, kept_onto, ended_before}
use Rattle.tcl_words.proofs.Common.{written, words_next, ScriptFault, MissingQuote, NotUtf8, Memory, EscapeStage}
use Rattle.tcl_words.proofs.Common.{Backslash, Digits, EscapeStep, TextWord, Bare, Quoted, Closing, Brace, Quote}
use Rattle.tcl_words.proofs.Common.{Expansion, Stage, Next, Go, End, Refuse, Output, Step, Scan, EndsAt, Refused}
use Rattle.tcl_words.proofs.Common.{Reaches}
use lib.Utf8.{scalar}
use Rattle.tcl_words.specs.Escapes.{numeral}
use Rattle.tcl_words.specs.ScriptGrammar.{read}
use Rattle.tcl_words.specs.Scanning.{scanned, pieces_from}
use Rattle.tcl_words.proofs.Stages.{from, from-step, put, onto_given, arrive}
use Rattle.tcl_words.specs.declared.escapes.EscapeStep.TheVariants as escape_steps
use Rattle.tcl_words.specs.declared.stage.Stage.TheVariants as stages

-- Which faults a scan meets, and how deep it goes.

abbrev pub IsMet : ScriptFault → Type 0
IsMet fault = (fault ≢ Memory) × (fault ≢ NotUtf8)

abbrev pub IsSound : ℕ → Next → Type 0
IsSound depth (Go stage) = depth_of stage ≤ suc depth
IsSound depth End = ⊤
IsSound depth (Refuse fault) = IsMet fault

sound_if : (depth : ℕ) (test : Bool) (s t : Step) → IsSound depth s.next → IsSound depth t.next →
    IsSound depth (cond test s t).next
sound_if depth true s t h k = h
sound_if depth false s t h k = k

met_behind : (closing : Closing) → IsMet (fault_behind closing)
met_behind Brace = ((λ e. cc), (λ e. cc))
met_behind Quote = ((λ e. cc), (λ e. cc))
met_behind Expansion = ((λ e. cc), (λ e. cc))

sound_text : (depth : ℕ) (word : TextWord) (c : ℕ) → IsSound depth (text_step word c).next
sound_text depth word c =
    sound_if depth (c == 91) _ _ ((λ e. cc), (λ e. cc))
    (sound_if depth (c == 36) _ _ (omega arith) (sound_if depth (c == 92) _ _ (omega arith) (omega arith)))

sound_inside : (depth : ℕ) (word : TextWord) (c : ℕ) → IsSound depth (inside_step word c).next
sound_inside depth Bare c =
    sound_if depth (is_end c) _ _ tt (sound_if depth (is_blank c) _ _ (omega arith)
    (sound_if depth (c == 92) _ _ (omega arith) (sound_text depth Bare c)))
sound_inside depth Quoted c = sound_if depth (c == 34) _ _ (omega arith) (sound_text depth Quoted c)

sound_word : (depth c : ℕ) → IsSound depth (word_step c).next
sound_word depth c =
    sound_if depth (is_end c) _ _ tt (sound_if depth (is_blank c) _ _ (omega arith)
    (sound_if depth (c == 92) _ _ (omega arith)
    (sound_if depth (c == 123) _ _ (omega arith)
    (sound_if depth (c == 34) _ _ (omega arith) (sound_text depth Bare c)))))

sound_close : (depth : ℕ) → IsSound depth (close_step depth).next
sound_close zero = omega arith
sound_close (suc depth) = omega arith

sound_braced : (depth c : ℕ) → IsSound depth (braced_step depth c).next
sound_braced depth c =
    sound_if depth (c == 125) _ _ (sound_close depth)
    (sound_if depth (c == 123) _ _ (omega arith) (sound_if depth (c == 92) _ _ (omega arith) (omega arith)))

sound_by : (depth : ℕ) (word : TextWord) (c : ℕ) (step : EscapeStep) → IsSound depth (step_by word c step).next
sound_by depth word c (escape_steps.Goes stage) = omega arith
sound_by depth word c (escape_steps.Gives d) = omega arith
sound_by depth word c escape_steps.Keeps = omega arith
sound_by depth word c (escape_steps.Before d) = sound_inside depth word c
sound_by depth word c escape_steps.NoCharacter = ((λ e. cc), (λ e. cc))

pub sound_step : (stage : Stage) (c : ℕ) → IsSound (depth_of stage) (step_of stage c).next
sound_step stages.BeforeCommand c =
    sound_if 0 (is_end c || is_blank c) _ _ (omega arith)
    (sound_if 0 (c == 92) _ _ (omega arith) (sound_if 0 (c == 35) _ _ (omega arith) (sound_word 0 c)))
sound_step stages.CommandBackslash c =
    sound_if 0 (c == 10) _ _ (omega arith) (sound_by 0 Bare c (escape_step Backslash c))
sound_step stages.Comment c =
    sound_if 0 (c == 10) _ _ (omega arith) (sound_if 0 (c == 92) _ _ (omega arith) (omega arith))
sound_step stages.CommentBackslash c = omega arith
sound_step stages.BeforeWord c = sound_word 0 c
sound_step stages.WordBackslash c = sound_if 0 (c == 10) _ _ (omega arith) (sound_by 0 Bare c (escape_step Backslash c))
sound_step stages.BareBackslash c = sound_if 0 (c == 10) _ _ (omega arith) (sound_by 0 Bare c (escape_step Backslash c))
sound_step (stages.Text word) c = sound_inside 0 word c
sound_step (stages.AfterDollar word) c =
    sound_if 0 (begins_name c) _ _ ((λ e. cc), (λ e. cc))
    (sound_if 0 (c == 58) _ _ (omega arith) (sound_inside 0 word c))
sound_step (stages.AfterColon word) c = sound_if 0 (c == 58) _ _ ((λ e. cc), (λ e. cc)) (sound_inside 0 word c)
sound_step (stages.Escaped word stage) c = sound_by 0 word c (escape_step stage c)
sound_step stages.AfterOpening c = sound_if 0 (c == 42) _ _ (omega arith) (sound_braced 0 c)
sound_step stages.AfterStar c = sound_if 0 (c == 125) _ _ (omega arith) (sound_braced 0 c)
sound_step (stages.Braced depth) c = sound_braced depth c
sound_step (stages.BracedBackslash depth) c = sound_if depth (c == 10) _ _ (omega arith) (omega arith)
sound_step (stages.BracedGap depth) c = sound_if depth (is_gap c) _ _ (omega arith) (sound_braced depth c)
sound_step (stages.Behind closing) c =
    sound_if 0 (is_end c) _ _ tt (sound_if 0 (is_blank c) _ _ (omega arith)
    (sound_if 0 (c == 92) _ _ (omega arith) (met_behind closing)))
sound_step (stages.BehindBackslash closing) c = sound_if 0 (c == 10) _ _ (omega arith) (met_behind closing)

-- the end of the script

abbrev pub IsMetAtEnd : Next → Type 0
IsMetAtEnd (Go stage) = ⊤
IsMetAtEnd End = ⊤
IsMetAtEnd (Refuse fault) = IsMet fault

met_in_text : (word : TextWord) → IsMetAtEnd (last_in_text word).next
met_in_text Bare = tt
met_in_text Quoted = ((λ e. cc), (λ e. cc))

met_by : (word : TextWord) (given : Option ℕ) → IsMetAtEnd (last_by word given).next
met_by word (Some c) = met_in_text word
met_by word None = ((λ e. cc), (λ e. cc))

pub met_at_end : (stage : Stage) → IsMetAtEnd (last_step stage).next
met_at_end (stages.Text word) = met_in_text word
met_at_end (stages.AfterDollar word) = met_in_text word
met_at_end (stages.AfterColon word) = met_in_text word
met_at_end (stages.Escaped word stage) = met_by word (last_given stage)
met_at_end stages.AfterOpening = ((λ e. cc), (λ e. cc))
met_at_end stages.AfterStar = ((λ e. cc), (λ e. cc))
met_at_end (stages.Braced depth) = ((λ e. cc), (λ e. cc))
met_at_end (stages.BracedBackslash depth) = ((λ e. cc), (λ e. cc))
met_at_end (stages.BracedGap depth) = ((λ e. cc), (λ e. cc))
met_at_end (stages.BehindBackslash closing) = met_behind closing
met_at_end stage = tt

-- What a character adds to what is found.

abbrev kept_on : Bool → ℕ → First → First
kept_on kept c found = cond kept (onto_word c found) found

abbrev put_by : Option ℕ → Bool → Bool → ℕ → First → First
put_by given kept ended c found = onto_given given (kept_on kept c (cond ended (end_word found) found))

fault_by : (given : Option ℕ) (kept ended : Bool) (c : ℕ) (fault : ScriptFault) →
    put_by given kept ended c (Fault fault) ≡ Fault fault
fault_by None true true c fault = refl
fault_by None false true c fault = refl
fault_by (Some d) true true c fault = refl
fault_by (Some d) false true c fault = refl
fault_by given kept ended c fault = refl

pub put_fault : (output : Output) (c : ℕ) (fault : ScriptFault) → put output c (Fault fault) ≡ Fault fault
put_fault output c fault = fault_by output.given output.kept output.ended c fault

open_by : (given : Option ℕ) (kept ended : Bool) (c : ℕ) → put_by given kept ended c Open ≡ Open
open_by None true true c = refl
open_by None false true c = refl
open_by (Some d) true true c = refl
open_by (Some d) false true c = refl
open_by given kept ended c = refl

nothing_by : (given : Option ℕ) (kept ended : Bool) (c : ℕ) → put_by given kept ended c Nothing ≡ Nothing
nothing_by None true true c = refl
nothing_by None false true c = refl
nothing_by (Some d) true true c = refl
nothing_by (Some d) false true c = refl
nothing_by given kept ended c = refl

onto_command : (c : ℕ) (words : List (List ℕ)) (rest : List ℕ) →
    onto_word c (Command words rest) ≡ Command (onto_piece c words) rest
onto_command c [] rest = refl
onto_command c (word ∷ words) rest = refl

end_command : (ended : Bool) (words : List (List ℕ)) (rest : List ℕ) →
    cond ended (end_word (Command words rest)) (Command words rest) ≡ Command (ended_before ended words) rest
end_command true words rest = refl
end_command false words rest = refl

kept_command : (kept : Bool) (c : ℕ) (words : List (List ℕ)) (rest : List ℕ) →
    kept_on kept c (Command words rest) ≡ Command (kept_onto kept c words) rest
kept_command true c words rest = onto_command c words rest
kept_command false c words rest = refl

given_command : (given : Option ℕ) (words : List (List ℕ)) (rest : List ℕ) →
    onto_given given (Command words rest) ≡ Command (given_onto given words) rest
given_command None words rest = refl
given_command (Some c) words rest = onto_command c words rest

pub put_command : (output : Output) (c : ℕ) (words : List (List ℕ)) (rest : List ℕ) →
    put output c (Command words rest) ≡ Command (written output c words) rest
put_command output c words rest =
    ap (λ found. onto_given output.given (kept_on output.kept c found)) (end_command output.ended words rest)
    ∙ ap (onto_given output.given) (kept_command output.kept c (ended_before output.ended words) rest)
    ∙ given_command output.given (kept_onto output.kept c (ended_before output.ended words)) rest

-- what the end of the script makes of the stage where the characters end
abbrev pub at_last : Next → List (List ℕ) → First
at_last (Go stage) words = Nothing
at_last End words = Command words []
at_last (Refuse fault) words = Fault fault

put_at_last : (next : Next) (output : Output) (c : ℕ) (words : List (List ℕ)) →
    put output c (at_last next words) ≡ at_last next (written output c words)
put_at_last (Go stage) output c words = nothing_by output.given output.kept output.ended c
put_at_last End output c words = put_command output c words []
put_at_last (Refuse fault) output c words = put_fault output c fault

-- where the characters end

valued_bare : (test : Bool) (value : ℕ)
    → escaped Ends (λ n. Command ([] ∷ []) []) (cond test (Gives value 0) NoCharacter)
    ≡ at_last (last_by Bare (cond test (Some value) None)).next
    (written (last_by Bare (cond test (Some value) None)).output 0 [])
valued_bare true value = refl
valued_bare false value = refl

valued_quoted : (test : Bool) (value : ℕ)
    → escaped Ends (λ n. Fault MissingQuote) (cond test (Gives value 0) NoCharacter)
    ≡ at_last (last_by Quoted (cond test (Some value) None)).next
    (written (last_by Quoted (cond test (Some value) None)).output 0 [])
valued_quoted true value = refl
valued_quoted false value = refl

abbrev AtEnd : Stage → Type 0
AtEnd stage = (from stage Continues [] ≡ Open) × (from stage Breaks [] ≡ Fault NotUtf8)
    × (from stage Ends [] ≡ at_last (last_step stage).next (pieces_from [] stage))

escaped_ends : (word : TextWord) (stage : EscapeStage) → AtEnd (stages.Escaped word stage)
unfolding read numeral pieces_from
escaped_ends Bare (Digits radix value more) = (refl, refl, valued_bare (scalar value) value)
escaped_ends Quoted (Digits radix value more) = (refl, refl, valued_quoted (scalar value) value)
escaped_ends word stage = (refl, refl, refl)

from_ends : (stage : Stage) → AtEnd stage
unfolding read pieces_from
from_ends (stages.Text Bare) = (refl, refl, refl)
from_ends (stages.AfterDollar Bare) = (refl, refl, refl)
from_ends (stages.AfterColon Bare) = (refl, refl, refl)
from_ends (stages.Escaped word stage) = escaped_ends word stage
from_ends stage = (refl, refl, refl)

-- what a scan says of the characters, whatever follows them
abbrev pub Verdict : Scan → Stage → List ℕ → Type 0
Verdict (EndsAt n) stage cs = (n ≤ length cs) × (0 < n)
    × ((e : Ending) (tail : List ℕ) → from stage e (take n cs ++ tail) ≡ Command (pieces_from (take n cs) stage) tail)
Verdict (Refused fault) stage cs =
    IsMet fault × ((e : Ending) (tail : List ℕ) → from stage e (cs ++ tail) ≡ Fault fault)
Verdict (Reaches last) stage cs = (from stage Continues cs ≡ Open) × (from stage Breaks cs ≡ Fault NotUtf8)
    × (from stage Ends cs ≡ at_last (last_step last).next (pieces_from cs stage))

verdict_go : (stage next : Stage) (output : Output) (c : ℕ) (cs : List ℕ)
    → ((e : Ending) (xs : List ℕ) → from stage e (c ∷ xs) ≡ put output c (from next e xs))
    → ((xs : List ℕ) → pieces_from (c ∷ xs) stage ≡ written output c (pieces_from xs next))
    → (scan : Scan) → Verdict scan next cs → Verdict (later 1 scan) stage (c ∷ cs)
verdict_go stage next output c cs goes pieces (EndsAt n) v = let long = v.0 in
    rw (one-add n) (
      omega arith,
      omega arith,
      λ e tail.
          goes e (take n cs ++ tail) ∙ ap (put output c) (v.2 e tail)
          ∙ put_command output c (pieces_from (take n cs) next) tail
          ∙ ap (λ words. Command words tail) (sym (pieces (take n cs))),
    )
verdict_go stage next output c cs goes pieces (Refused fault) v =
    (v.0, λ e tail. goes e (cs ++ tail) ∙ ap (put output c) (v.1 e tail) ∙ put_fault output c fault)
verdict_go stage next output c cs goes pieces (Reaches last) v = (
  goes Continues cs ∙ ap (put output c) v.0 ∙ open_by output.given output.kept output.ended c,
  goes Breaks cs ∙ ap (put output c) v.1 ∙ put_fault output c NotUtf8,
  goes Ends cs ∙ ap (put output c) v.2 ∙ put_at_last (last_step last).next output c (pieces_from cs next)
      ∙ ap (at_last (last_step last).next) (sym (pieces cs)),
)

verdict_step : (stage : Stage) (depth : ℕ) (output : Output) (next : Next) (c : ℕ) (cs : List ℕ) (after : Stage →
    Scan) → IsSound depth next
    → ((e : Ending) (xs : List ℕ) → from stage e (c ∷ xs) ≡ put output c (arrive next (λ s. from s e xs) xs))
    → ((xs : List ℕ) → pieces_from (c ∷ xs) stage ≡ written output c (words_next next (pieces_from xs)))
    → ((s : Stage) → Verdict (after s) s cs) → Verdict (scan_next next after) stage (c ∷ cs)
verdict_step stage depth output (Go next) c cs after sound goes pieces rest =
    verdict_go stage next output c cs goes pieces (after next) (rest next)
verdict_step stage depth output End c cs after sound goes pieces rest = (
  omega arith,
  omega arith,
  λ e tail. goes e tail ∙ put_command output c [] tail ∙ ap (λ words. Command words tail) (sym (pieces [])),
)
verdict_step stage depth output (Refuse fault) c cs after sound goes pieces rest =
    (sound, λ e tail. goes e (cs ++ tail) ∙ put_fault output c fault)

pub scanned-nil : (stage : Stage) → scanned [] stage ≡ Reaches stage
unfolding scanned
scanned-nil stage = refl

pub scanned-cons : (c : ℕ) (cs : List ℕ) (stage : Stage) →
    scanned (c ∷ cs) stage ≡ scan_next (step_of stage c).next (scanned cs)
unfolding scanned
scanned-cons c cs stage = refl

pub pieces-nil : (stage : Stage) → pieces_from [] stage ≡ written (last_step stage).output 0 []
unfolding pieces_from
pieces-nil stage = refl

pub pieces-cons : (c : ℕ) (cs : List ℕ) (stage : Stage)
    → pieces_from (c ∷ cs) stage ≡ written (step_of stage c).output c
    (words_next (step_of stage c).next (pieces_from cs))
unfolding pieces_from
pieces-cons c cs stage = refl

pub verdict : (cs : List ℕ) (stage : Stage) → Verdict (scanned cs stage) stage cs
verdict [] stage = rw (scanned-nil stage) (from_ends stage)
verdict (c ∷ cs) stage = rw (scanned-cons c cs stage)
    (verdict_step stage (depth_of stage) (step_of stage c).output (step_of stage c).next c cs (scanned cs)
    (sound_step stage c)
    (λ e xs. from-step stage e c xs) (λ xs. pieces-cons c xs stage) (λ next. verdict cs next))
