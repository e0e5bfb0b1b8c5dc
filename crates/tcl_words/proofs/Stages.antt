-- What each stage of a scan says of the grammar.
use Rattle.tcl_words.proofs.Common.{◌≡◌, ℕ, zero, suc, ◌+◌, ◌*◌, ◌-◌, ◌==◌, Bool, true, false, cond, ◌||◌, ◌&&◌, Option}
use Rattle.tcl_words.proofs.Common.{Some, None, List, [], ◌∷◌, refl, sym, ap, ◌∙◌, arith, true≢false, nat_tests}
use Rattle.tcl_words.proofs.Common.{is_digit, digit_value, is_end, is_blank, begins_name, begins_with, names_variable}
use Rattle.tcl_words.proofs.Common.{Escape, Gives, NoCharacter, further, valued, joins, hexadecimal, gap, letter_value}
use Rattle.tcl_words.proofs.Common.{escape, base_of, limit_of, given, before, is_gap, is_letter, plain_step}
use Rattle.tcl_words.proofs.Common.{escape_step, Ending, is_last, First, Command, Fault, at_stop, onto_word, end_word}
use Rattle.tcl_words.proofs.Common.{Where, AtCommand, InComment, AtWord, InBare, InQuotes, Behind, escaped, text_rule}
use Rattle.tcl_words.proofs.Common.{bare_rule, quoted_rule, close_rule, kept_rule, braced_rule, open_rule, word_rule}
use Rattle.tcl_words.proofs.Common.{behind_rule, command_rule, rule, is_nil, passes, keeps, closes, ends_here, refuses}
use Rattle.tcl_words.proofs.Common.{after, fault_behind, text_step, bare_step, quoted_step, inside_step, word_step}
use Rattle.tcl_words.proofs.Common.{command_step, close_step, braced_step, behind_step, step_by, opening_step, step_of}
use Rattle.tcl_words.proofs.Common.{ScriptFault, Substitution, Radix, Octal, Hexadecimal, EscapeStage, Backslash}
use Rattle.tcl_words.proofs.Common.{Letter, Digits, Gap, EscapeStep, TextWord, Bare, Quoted, Closing, Quote, Expansion}
use Rattle.tcl_words.proofs.Common.{Stage, Next, Go, End, Refuse, Output, Step, InBraces}
use lib.Utf8.{scalar}
use Rattle.tcl_words.specs.Escapes.{numeral}
use Rattle.tcl_words.specs.ScriptGrammar.{read}
use Rattle.tcl_words.specs.declared.escapes.EscapeStep.TheVariants as escape_steps
use Rattle.tcl_words.specs.declared.stage.Stage.TheVariants as stages

-- Escapes.

-- what an escape gives, from a stage on
abbrev pub escape_from : EscapeStage → Bool → List ℕ → Escape
escape_from Backslash ends cs = escape ends cs
escape_from (Letter letter more) ends cs = hexadecimal letter (suc more) ends cs
escape_from (Digits radix value more) ends cs = numeral (base_of radix) (limit_of radix) ends cs (suc more) value
escape_from Gap ends cs = Gives 32 (gap cs)

-- what a step gives, before what follows
abbrev pub escape_by : EscapeStep → ℕ → (EscapeStage → Escape) → Escape
escape_by (escape_steps.Goes stage) c go = further (go stage)
escape_by (escape_steps.Gives d) c go = Gives d 1
escape_by escape_steps.Keeps c go = Gives c 1
escape_by (escape_steps.Before d) c go = Gives d 0
escape_by escape_steps.NoCharacter c go = NoCharacter

given_by : (test : Bool) (value c : ℕ) (go : EscapeStage → Escape)
    → further (cond test (Gives value 0) NoCharacter)
    ≡ escape_by (cond test (escape_steps.Gives value) escape_steps.NoCharacter) c go
given_by true value c go = refl
given_by false value c go = refl

before_by : (test : Bool) (value c : ℕ) (go : EscapeStage → Escape)
    → cond test (Gives value 0) NoCharacter
    ≡ escape_by (cond test (escape_steps.Before value) escape_steps.NoCharacter) c go
before_by true value c go = refl
before_by false value c go = refl

digit_tests : (joined : Bool) (radix : Radix) (value added more c : ℕ) (ends : Bool) (cs : List ℕ)
    → cond joined (further (numeral (base_of radix) (limit_of radix) ends cs more added)) (valued value)
    ≡ escape_by (cond joined (cond (more == 0) (given added) (escape_steps.Goes (Digits radix added (more - 1))))
    (before value)) c (λ s. escape_from s ends cs)
unfolding numeral
digit_tests true radix value added zero c ends cs = given_by (scalar added) added c (λ s. escape_from s ends cs)
digit_tests true radix value added (suc more) c ends cs =
    let e : suc more - 1 ≡ more = omega arith in
    let some : (suc more == 0) ≡ false = grind (arith, nat_tests) in
    rw (some, e) refl
digit_tests false radix value added more c ends cs = before_by (scalar value) value c (λ s. escape_from s ends cs)

letter_tests : (digit : Bool) (letter value more c : ℕ) (ends : Bool) (cs : List ℕ)
    → cond digit (further (numeral 16 1114111 ends cs (suc more) value)) (Gives letter 0)
    ≡ escape_by (cond digit (escape_steps.Goes (Digits Hexadecimal value more)) (escape_steps.Before letter)) c (λ s.
    escape_from s ends cs)
letter_tests true letter value more c ends cs = refl
letter_tests false letter value more c ends cs = refl

plain_tests : (letter : Bool) (value c : ℕ) (go : EscapeStage → Escape) → (letter ≡ false → value ≡ c)
    → Gives value 1 ≡ escape_by (cond letter (escape_steps.Gives value) escape_steps.Keeps) c go
plain_tests true value c go same = refl
plain_tests false value c go same = ap (λ v. Gives v 1) (same refl)

backslash_tests : (octal x u long newline : Bool) (c value : ℕ) (ends : Bool) (cs : List ℕ) (plain : Escape)
    (step : EscapeStep)
    → plain ≡ escape_by step c (λ s. escape_from s ends cs)
    → cond octal (further (numeral 8 255 ends cs 2 value))
    (cond x (further (hexadecimal c 1 ends cs))
    (cond u (further (hexadecimal c 3 ends cs))
    (cond long (further (hexadecimal c 7 ends cs)) (cond newline (Gives 32 (suc (gap cs))) plain))))
    ≡ escape_by (cond octal (escape_steps.Goes (Digits Octal value 1))
    (cond x (escape_steps.Goes (Letter c 0))
    (cond u (escape_steps.Goes (Letter c 2))
    (cond long (escape_steps.Goes (Letter c 6)) (cond newline (escape_steps.Goes Gap) step))))) c (λ s.
    escape_from s ends cs)
backslash_tests false false false false false c value ends cs plain step h = h
backslash_tests octal x u long newline c value ends cs plain step h = refl

gap_tests : (blank : Bool) (c : ℕ) (ends : Bool) (cs : List ℕ)
    → Gives 32 (cond blank (suc (gap cs)) 0)
    ≡ escape_by (cond blank (escape_steps.Goes Gap) (escape_steps.Before 32)) c (λ s. escape_from s ends cs)
gap_tests true c ends cs = refl
gap_tests false c ends cs = refl

-- what an escape gives from a character on, by its step
pub escape-step : (stage : EscapeStage) (ends : Bool) (c : ℕ) (cs : List ℕ)
    → escape_from stage ends (c ∷ cs) ≡ escape_by (escape_step stage c) c (λ s. escape_from s ends cs)
unfolding numeral
escape-step Backslash ends c cs =
    backslash_tests (is_digit c 8) (c == 120) (c == 117) (c == 85) (c == 10) c (digit_value c) ends cs
    (Gives (letter_value c) 1) (plain_step c)
    (plain_tests (is_letter c) (letter_value c) c (λ s. escape_from s ends cs) (λ isn't. grind (arith, nat_tests)))
escape-step (Letter letter more) ends c cs = letter_tests (is_digit c 16) letter (digit_value c) more c ends cs
escape-step (Digits radix value more) ends c cs =
    digit_tests (joins (base_of radix) (limit_of radix) value c) radix value (value * base_of radix + digit_value c)
    more c ends cs
escape-step Gap ends c cs = gap_tests (is_gap c) c ends cs

-- Commands and words.

abbrev pub place_of : TextWord → Where
place_of Bare = InBare
place_of Quoted = InQuotes

-- what the characters hold first, from a stage on
abbrev pub from : Stage → Ending → List ℕ → First
from stages.BeforeCommand e cs = read cs e 0 AtCommand
from stages.CommandBackslash e cs = rule e AtCommand 92 cs (read cs e)
from stages.Comment e cs = read cs e 0 InComment
from stages.CommentBackslash e cs = read cs e 1 InComment
from stages.BeforeWord e cs = read cs e 0 AtWord
from stages.WordBackslash e cs = rule e AtWord 92 cs (read cs e)
from stages.BareBackslash e cs = rule e InBare 92 cs (read cs e)
from (stages.Text word) e cs = read cs e 0 (place_of word)
from (stages.AfterDollar word) e cs = cond (names_variable cs) (Fault Substitution) (read cs e 0 (place_of word))
from (stages.AfterColon word) e cs = cond (begins_with 58 cs) (Fault Substitution) (read cs e 0 (place_of word))
from (stages.Escaped word stage) e cs = escaped e (λ n. read cs e n (place_of word)) (escape_from stage (is_last e) cs)
from stages.AfterOpening e cs = open_rule cs (read cs e)
from stages.AfterStar e cs =
    cond (begins_with 125 cs) (end_word (read cs e 1 (Behind Substitution))) (read cs e 0 (InBraces 0))
from (stages.Braced depth) e cs = read cs e 0 (InBraces depth)
from (stages.BracedBackslash depth) e cs = kept_rule depth cs (read cs e)
from (stages.BracedGap depth) e cs = read cs e (gap cs) (InBraces depth)
from (stages.Behind closing) e cs = read cs e 0 (Behind (fault_behind closing))
from (stages.BehindBackslash closing) e cs = rule e (Behind (fault_behind closing)) 92 cs (read cs e)

-- what a character adds goes before what is found

abbrev pub onto_given : Option ℕ → First → First
onto_given None found = found
onto_given (Some c) found = onto_word c found

abbrev pub put : Output → ℕ → First → First
put output c found = onto_given output.given
    (cond output.kept (onto_word c (cond output.ended (end_word found) found))
    (cond output.ended (end_word found) found))

abbrev pub arrive : Next → (Stage → First) → List ℕ → First
arrive (Go stage) go cs = go stage
arrive End go cs = Command [] cs
arrive (Refuse fault) go cs = Fault fault

-- what is found from a character on, by its step
abbrev pub does : Step → ℕ → List ℕ → (Stage → First) → First
does step c cs go = put step.output c (arrive step.next go cs)

text_tests : (bracket dollar named back : Bool) (word : TextWord) (c : ℕ) (cs : List ℕ) (go : Stage → First)
    → go (stages.AfterDollar word) ≡ cond named (Fault Substitution) (go (stages.Text word)) →
    (dollar ≡ true → back ≡ false)
    → cond (bracket || (dollar && named)) (Fault Substitution)
    (cond back (go (stages.Escaped word Backslash)) (onto_word c (go (stages.Text word))))
    ≡ does (cond bracket (refuses Substitution)
    (cond dollar (keeps (stages.AfterDollar word))
    (cond back (passes (stages.Escaped word Backslash)) (keeps (stages.Text word))))) c cs go
text_tests true dollar named back word c cs go h other = refl
text_tests false true true back word c cs go h other = ap (onto_word c) (sym h)
text_tests false true false true word c cs go h other = absurd (true≢false (other refl))
text_tests false true false false word c cs go h other = ap (onto_word c) (sym h)
text_tests false false named true word c cs go h other = refl
text_tests false false named false word c cs go h other = refl

from_text : (word : TextWord) (e : Ending) (c : ℕ) (cs : List ℕ)
    → text_rule e c cs (λ n. read cs e n (place_of word)) ≡ does (text_step word c) c cs (λ stage. from stage e cs)
from_text word e c cs = text_tests (c == 91) (c == 36) (names_variable cs) (c == 92) word c cs (λ stage.
    from stage e cs) refl (λ is. grind (arith, nat_tests))

-- the rules that ask for a backslash-newline
joint_tests : (end blank back newline : Bool) (c : ℕ) (cs : List ℕ) (go : Stage →
    First) (ended spaced joined other : First) (end_step blank_step back_step step : Step)
    → ended ≡ does end_step c cs go → spaced ≡ does blank_step c cs go →
    (back ≡ true → cond newline joined other ≡ does back_step c cs go) → (back ≡ false → other ≡ does step c cs go)
    → cond end ended (cond blank spaced (cond (back && newline) joined other))
    ≡ does (cond end end_step (cond blank blank_step (cond back back_step step))) c cs go
joint_tests true blank back newline c cs go ended spaced joined other end_step blank_step back_step step p q r s = p
joint_tests false true back newline c cs go ended spaced joined other end_step blank_step back_step step p q r s = q
joint_tests false false true newline c cs go ended spaced joined other end_step blank_step back_step step p q r s =
    r refl
joint_tests false false false newline c cs go ended spaced joined other end_step blank_step back_step step p q r s =
    s refl

pub same_char : (c d : ℕ) → (c == d) ≡ true → c ≡ d
same_char c d h = grind (arith, nat_tests)

from_bare : (e : Ending) (c : ℕ) (cs : List ℕ) → bare_rule e c cs (read cs e)
    ≡ does (bare_step c) c cs (λ stage. from stage e cs)
from_bare e c cs =
    joint_tests (is_end c) (is_blank c) (c == 92) (begins_with 10 cs) c cs (λ stage. from stage e cs)
    (end_word (Command [] cs)) (end_word (read cs e 0 AtWord)) (end_word (read cs e 1 AtWord))
    (text_rule e c cs (λ n. read cs e n InBare))
    (closes End) (closes (Go stages.BeforeWord)) (passes stages.BareBackslash) (text_step Bare c)
    refl refl
    (λ h. ap (λ d. cond (begins_with 10 cs) (end_word (read cs e 1 AtWord))
    (text_rule e d cs (λ n. read cs e n InBare))) (same_char c 92 h))
    (λ h. from_text Bare e c cs)

-- by a test, of which each side is what a step makes
either_by : (test : Bool) (x y : First) (s t : Step) (c : ℕ) (cs : List ℕ) (go : Stage → First) →
    x ≡ does s c cs go → y ≡ does t c cs go → cond test x y ≡ does (cond test s t) c cs go
either_by true x y s t c cs go h k = h
either_by false x y s t c cs go h k = k

from_quoted : (e : Ending) (c : ℕ) (cs : List ℕ) → quoted_rule e c cs (read cs e)
    ≡ does (quoted_step c) c cs (λ stage. from stage e cs)
from_quoted e c cs =
    either_by (c == 34) _ _ (closes (Go (stages.Behind Quote))) (text_step Quoted c) c cs _ refl
    (from_text Quoted e c cs)

from_inside : (word : TextWord) (e : Ending) (c : ℕ) (cs : List ℕ) →
    rule e (place_of word) c cs (read cs e) ≡ does (inside_step word c) c cs (λ stage. from stage e cs)
from_inside Bare e c cs = from_bare e c cs
from_inside Quoted e c cs = from_quoted e c cs

abbrev word_begin : Ending → List ℕ → ℕ → First
word_begin e cs c =
    cond (c == 123) (open_rule cs (read cs e))
    (cond (c == 34) (read cs e 0 InQuotes) (text_rule e c cs (λ n. read cs e n InBare)))

from_word : (e : Ending) (c : ℕ) (cs : List ℕ) → word_rule e c cs (read cs e)
    ≡ does (word_step c) c cs (λ stage. from stage e cs)
from_word e c cs =
    joint_tests (is_end c) (is_blank c) (c == 92) (begins_with 10 cs) c cs (λ stage. from stage e cs)
    (Command [] cs) (read cs e 0 AtWord) (read cs e 1 AtWord) (word_begin e cs c)
    ends_here (passes stages.BeforeWord) (passes stages.WordBackslash)
    (cond (c == 123) (passes stages.AfterOpening) (cond (c == 34) (passes (stages.Text Quoted)) (text_step Bare c)))
    refl refl
    (λ h. ap (λ d. cond (begins_with 10 cs) (read cs e 1 AtWord) (word_begin e cs d)) (same_char c 92 h))
    (λ h. either_by (c == 123) _ _ (passes stages.AfterOpening) _ c cs _ refl
    (either_by (c == 34) _ _ (passes (stages.Text Quoted)) (text_step Bare c) c cs _ refl (from_text Bare e c cs)))

abbrev command_begin : Ending → List ℕ → ℕ → First
command_begin e cs c = cond (c == 35) (read cs e 0 InComment) (word_rule e c cs (read cs e))

from_command : (e : Ending) (c : ℕ) (cs : List ℕ) → command_rule e c cs (read cs e)
    ≡ does (command_step c) c cs (λ stage. from stage e cs)
from_command e c cs =
    joint_tests (is_end c || is_blank c) false (c == 92) (begins_with 10 cs) c cs (λ stage. from stage e cs)
    (read cs e 0 AtCommand) (Fault Substitution) (read cs e 1 AtCommand) (command_begin e cs c)
    (passes stages.BeforeCommand) (refuses Substitution) (passes stages.CommandBackslash)
    (cond (c == 35) (passes stages.Comment) (word_step c))
    refl refl
    (λ h. ap (λ d. cond (begins_with 10 cs) (read cs e 1 AtCommand) (command_begin e cs d)) (same_char c 92 h))
    (λ h. either_by (c == 35) _ _ (passes stages.Comment) (word_step c) c cs _ refl (from_word e c cs))

from_close : (depth : ℕ) (e : Ending) (c : ℕ) (cs : List ℕ) →
    close_rule depth c (read cs e) ≡ does (close_step depth) c cs (λ stage. from stage e cs)
from_close zero e c cs = refl
from_close (suc depth) e c cs = refl

from_braced : (depth : ℕ) (e : Ending) (c : ℕ) (cs : List ℕ) →
    braced_rule depth c cs (read cs e) ≡ does (braced_step depth c) c cs (λ stage. from stage e cs)
from_braced depth e c cs =
    either_by (c == 125) _ _ (close_step depth) _ c cs _ (from_close depth e c cs)
    (either_by (c == 123) _ _ (keeps (stages.Braced (suc depth))) _ c cs _ refl
    (either_by (c == 92) _ _ (passes (stages.BracedBackslash depth)) (keeps (stages.Braced depth)) c cs _ refl refl))

abbrev behind_other : Ending → ScriptFault → List ℕ → ℕ → First
behind_other e fault cs c = cond (c == 92 && is_nil cs) (at_stop e (Fault fault)) (Fault fault)

behind_plain : (back nil : Bool) (found : First) (fault : ScriptFault) → back ≡ false →
    cond (back && nil) found (Fault fault) ≡ Fault fault
behind_plain true nil found fault h = absurd (true≢false h)
behind_plain false nil found fault h = refl

from_behind : (closing : Closing) (e : Ending) (c : ℕ) (cs : List ℕ)
    → behind_rule e (fault_behind closing) c cs (read cs e)
    ≡ does (behind_step closing c) c cs (λ stage. from stage e cs)
from_behind closing e c cs =
    joint_tests (is_end c) (is_blank c) (c == 92) (begins_with 10 cs) c cs (λ stage. from stage e cs)
    (Command [] cs) (read cs e 0 AtWord) (read cs e 1 AtWord) (behind_other e (fault_behind closing) cs c)
    ends_here (passes stages.BeforeWord) (passes (stages.BehindBackslash closing)) (refuses (fault_behind closing))
    refl refl
    (λ h. ap (λ d. cond (begins_with 10 cs) (read cs e 1 AtWord) (behind_other e (fault_behind closing) cs d))
    (same_char c 92 h))
    (λ h. behind_plain (c == 92) (is_nil cs) (at_stop e (Fault (fault_behind closing))) (fault_behind closing) h)

dollar_tests : (names colon colons : Bool) (word : TextWord) (c : ℕ) (cs : List ℕ) (go : Stage →
    First) (words : First) (step : Step)
    → words ≡ does step c cs go → (colon ≡ true → step ≡ keeps (stages.Text word))
    → go (stages.AfterColon word) ≡ cond colons (Fault Substitution) (go (stages.Text word))
    → cond (names || (colon && colons)) (Fault Substitution) words
    ≡ does (cond names (refuses Substitution) (cond colon (keeps (stages.AfterColon word)) step)) c cs go
dollar_tests true colon colons word c cs go words step h i w = refl
dollar_tests false true true word c cs go words step h i w = ap (onto_word c) (sym w)
dollar_tests false true false word c cs go words step h i w =
    h ∙ ap (λ s. does s c cs go) (i refl) ∙ ap (onto_word c) (sym w)
dollar_tests false false colons word c cs go words step h i w = h

colon_inside : (word : TextWord) (c : ℕ) → (c == 58) ≡ true → inside_step word c ≡ keeps (stages.Text word)
colon_inside Bare c h = ap (inside_step Bare) (same_char c 58 h)
colon_inside Quoted c h = ap (inside_step Quoted) (same_char c 58 h)

-- escapes in words

escaped_further : (e : Ending) (c : ℕ) (cs : List ℕ) (place : Where) (escape : Escape)
    → escaped e (λ n. read (c ∷ cs) e n place) (further escape) ≡ escaped e (λ n. read cs e n place) escape
unfolding read
escaped_further e c cs place (Gives d n) = refl
escaped_further e c cs place escape = refl

given_none : (b : Bool) (s t : Step) → s.output.given ≡ None → t.output.given ≡ None → (cond b s t).output.given ≡ None
given_none true s t h k = h
given_none false s t h k = k

text_given : (word : TextWord) (c : ℕ) → (text_step word c).output.given ≡ None
text_given word c = given_none (c == 91) _ _ refl (given_none (c == 36) _ _ refl (given_none (c == 92) _ _ refl refl))

inside_given : (word : TextWord) (c : ℕ) → (inside_step word c).output.given ≡ None
inside_given Bare c = given_none (is_end c) _ _ refl
    (given_none (is_blank c) _ _ refl (given_none (c == 92) _ _ refl (text_given Bare c)))
inside_given Quoted c = given_none (c == 34) _ _ refl (text_given Quoted c)

does_after : (d : ℕ) (step : Step) (c : ℕ) (cs : List ℕ) (go : Stage → First) → step.output.given ≡ None
    → onto_word d (does step c cs go) ≡ does (after d step) c cs go
does_after d step c cs go h =
    ap (λ g.
    onto_word d (onto_given g (cond step.output.kept
    (onto_word c (cond step.output.ended (end_word (arrive step.next go cs)) (arrive step.next go cs)))
    (cond step.output.ended (end_word (arrive step.next go cs)) (arrive step.next go cs))))) h

abbrev escaped_in : TextWord → Ending → List ℕ → Escape → First
escaped_in word e cs found = escaped e (λ n. read cs e n (place_of word)) found

from_by : (step : EscapeStep) (word : TextWord) (e : Ending) (c : ℕ) (cs : List ℕ)
    → escaped_in word e (c ∷ cs) (escape_by step c (λ s. escape_from s (is_last e) cs))
    ≡ does (step_by word c step) c cs (λ stage. from stage e cs)
unfolding read
from_by (escape_steps.Goes stage) word e c cs =
    escaped_further e c cs (place_of word) (escape_from stage (is_last e) cs)
from_by (escape_steps.Gives d) word e c cs = refl
from_by escape_steps.Keeps word e c cs = refl
from_by (escape_steps.Before d) word e c cs =
    ap (onto_word d) (from_inside word e c cs)
    ∙ does_after d (inside_step word c) c cs (λ stage. from stage e cs) (inside_given word c)
from_by escape_steps.NoCharacter word e c cs = refl

from_escaped : (word : TextWord) (stage : EscapeStage) (e : Ending) (c : ℕ) (cs : List ℕ)
    → from (stages.Escaped word stage) e (c ∷ cs)
    ≡ does (step_by word c (escape_step stage c)) c cs (λ stage. from stage e cs)
from_escaped word stage e c cs =
    ap (escaped_in word e (c ∷ cs)) (escape-step stage (is_last e) c cs) ∙ from_by (escape_step stage c) word e c cs

opening_tests : (star brace : Bool) (c : ℕ) (cs : List ℕ) (go : Stage →
    First) (closed plain braced : First) (step : Step)
    → braced ≡ does step c cs go → go stages.AfterStar ≡ cond brace closed plain →
    (star ≡ true → braced ≡ onto_word c plain)
    → cond (star && brace) (onto_word c closed) braced ≡ does (cond star (keeps stages.AfterStar) step) c cs go
opening_tests true true c cs go closed plain braced step h k i = ap (onto_word c) (sym k)
opening_tests true false c cs go closed plain braced step h k i = i refl ∙ ap (onto_word c) (sym k)
opening_tests false brace c cs go closed plain braced step h k i = h

star_of : (star brace : Bool) (c : ℕ) (closed braced : First) → (star ≡ true → c ≡ 42)
    → cond (star && brace) (onto_word 42 closed) braced ≡ cond (star && brace) (onto_word c closed) braced
star_of true true c closed braced h = ap (λ d. onto_word d closed) (sym (h refl))
star_of true false c closed braced h = refl
star_of false brace c closed braced h = refl

from_opening : (e : Ending) (c : ℕ) (cs : List ℕ) → from stages.AfterOpening e (c ∷ cs)
    ≡ does (opening_step c) c cs (λ stage. from stage e cs)
unfolding read
from_opening e c cs =
    star_of (c == 42) (begins_with 125 cs) c (end_word (read cs e 1 (Behind Substitution)))
    (braced_rule 0 c cs (read cs e)) (same_char c 42)
    ∙ opening_tests (c == 42) (begins_with 125 cs) c cs (λ stage. from stage e cs)
    (end_word (read cs e 1 (Behind Substitution))) (read cs e 0 (InBraces 0)) (braced_rule 0 c cs (read cs e))
    (braced_step 0 c)
    (from_braced 0 e c cs) refl (λ h. ap (λ d. braced_rule 0 d cs (read cs e)) (same_char c 42 h)
    ∙ ap (λ d. onto_word d (read cs e 0 (InBraces 0))) (sym (same_char c 42 h)))

gap_step_tests : (blank : Bool) (depth : ℕ) (e : Ending) (c : ℕ) (cs : List ℕ)
    → read (c ∷ cs) e (cond blank (suc (gap cs)) 0) (InBraces depth)
    ≡ does (cond blank (passes (stages.BracedGap depth)) (braced_step depth c)) c cs (λ stage. from stage e cs)
unfolding read
gap_step_tests true depth e c cs = refl
gap_step_tests false depth e c cs = from_braced depth e c cs

asked_again : (test : Bool) (x y z : First) → cond test x (cond test y z) ≡ cond test x z
asked_again true x y z = refl
asked_again false x y z = refl

-- what is found from a character on, by its step
pub from-step : (stage : Stage) (e : Ending) (c : ℕ) (cs : List ℕ) →
    from stage e (c ∷ cs) ≡ does (step_of stage c) c cs (λ stage. from stage e cs)
unfolding read
from-step stages.BeforeCommand e c cs = from_command e c cs
from-step stages.CommandBackslash e c cs =
    asked_again (c == 10) (read cs e 0 AtCommand) (read cs e 0 AtWord) (from (stages.Escaped Bare Backslash) e (c ∷ cs))
    ∙ either_by (c == 10) _ _ (passes stages.BeforeCommand) (step_by Bare c (escape_step Backslash c)) c cs _ refl
    (from_escaped Bare Backslash e c cs)
from-step stages.Comment e c cs =
    either_by (c == 10) _ _ (passes stages.BeforeCommand) _ c cs _ refl
    (either_by (c == 92) _ _ (passes stages.CommentBackslash) (passes stages.Comment) c cs _ refl refl)
from-step stages.CommentBackslash e c cs = refl
from-step stages.BeforeWord e c cs = from_word e c cs
from-step stages.WordBackslash e c cs =
    either_by (c == 10) _ _ (passes stages.BeforeWord) (step_by Bare c (escape_step Backslash c)) c cs _ refl
    (from_escaped Bare Backslash e c cs)
from-step stages.BareBackslash e c cs =
    either_by (c == 10) _ _ (closes (Go stages.BeforeWord)) (step_by Bare c (escape_step Backslash c)) c cs _ refl
    (from_escaped Bare Backslash e c cs)
from-step (stages.Text Bare) e c cs = from_bare e c cs
from-step (stages.Text Quoted) e c cs = from_quoted e c cs
from-step (stages.AfterDollar word) e c cs =
    dollar_tests (begins_name c) (c == 58) (begins_with 58 cs) word c cs (λ stage. from stage e cs)
    (read (c ∷ cs) e 0 (place_of word)) (inside_step word c)
    (from_inside word e c cs) (colon_inside word c) refl
from-step (stages.AfterColon word) e c cs =
    either_by (c == 58) _ _ (refuses Substitution) (inside_step word c) c cs _ refl (from_inside word e c cs)
from-step (stages.Escaped word stage) e c cs = from_escaped word stage e c cs
from-step stages.AfterOpening e c cs = from_opening e c cs
from-step stages.AfterStar e c cs =
    either_by (c == 125) _ _ (closes (Go (stages.Behind Expansion))) (braced_step 0 c) c cs _ refl
    (from_braced 0 e c cs)
from-step (stages.Braced depth) e c cs = from_braced depth e c cs
from-step (stages.BracedBackslash depth) e c cs =
    either_by (c == 10) _ _ (after 32 (passes (stages.BracedGap depth))) (after 92 (keeps (stages.Braced depth))) c cs _
    refl refl
from-step (stages.BracedGap depth) e c cs = gap_step_tests (is_gap c) depth e c cs
from-step (stages.Behind closing) e c cs = from_behind closing e c cs
from-step (stages.BehindBackslash closing) e c cs =
    either_by (c == 10) _ _ (passes stages.BeforeWord) (refuses (fault_behind closing)) c cs _ refl refl
