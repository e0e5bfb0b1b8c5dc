-- What each stage of reading a list says of the list.
use Rattle.tcl_words.proofs.Common.{◌≡◌, ℕ, zero, suc, ◌==◌, Bool, true, false, cond, Option, Some, None, List, [], ◌∷◌}
use Rattle.tcl_words.proofs.Common.{refl, ap, ◌∙◌, Escape, Gives, NoCharacter, further, escape, escape_step, is_white}
use Rattle.tcl_words.proofs.Common.{Spot, AtElement, InElement, Closed, onto_element, end_element, escaped_element}
use Rattle.tcl_words.proofs.Common.{element_rule, close_element, kept_element, braced_element, begin_element, list_rule}
use Rattle.tcl_words.proofs.Common.{list_passes, list_keeps, list_closes, no_list, list_after, text_element}
use Rattle.tcl_words.proofs.Common.{step_in_element, step_at_element, close_brace, step_in_braces, element_by}
use Rattle.tcl_words.proofs.Common.{list_step, last_element_by, last_list_step, onto_piece, given_onto, kept_onto}
use Rattle.tcl_words.proofs.Common.{ended_before, written, Backslash, Digits, EscapeStep, TextWord, Bare, Quoted}
use Rattle.tcl_words.proofs.Common.{Output, ListStage, ListNext, Bad, ListStep}
use Rattle.tcl_words.specs.ListText.{InBraces, InQuotes, read_list}
use lib.Utf8.{scalar}
use Rattle.tcl_words.specs.Escapes.{numeral}
use Rattle.tcl_words.specs.declared.list_steps.ListNext.TheVariants.{Go}
use Rattle.tcl_words.proofs.Stages.{escape_from, escape_by, escape-step}
use Rattle.tcl_words.specs.declared.escapes.EscapeStep.TheVariants as escape_steps
use Rattle.tcl_words.specs.declared.list_steps.ListStage.TheVariants as stages

-- a list that may be found
abbrev pub Found : Type 0
Found = Option (List (List ℕ))

abbrev pub spot_of : TextWord → Spot
spot_of Bare = InElement
spot_of Quoted = InQuotes

-- what is found from a stage on
abbrev pub list_from : ListStage → List ℕ → Found
list_from stages.Between cs = read_list cs 0 AtElement
list_from (stages.Text word) cs = read_list cs 0 (spot_of word)
list_from (stages.Escaped word stage) cs =
    escaped_element (λ n. read_list cs n (spot_of word)) (escape_from stage true cs)
list_from (stages.Braced depth) cs = read_list cs 0 (InBraces depth)
list_from (stages.BracedBackslash depth) cs = kept_element depth cs (read_list cs)
list_from stages.Closed cs = read_list cs 0 Closed

-- what a character adds goes before what is found

abbrev pub given_before : Option ℕ → Found → Found
given_before None found = found
given_before (Some c) found = onto_element c found

abbrev pub kept_before : Bool → ℕ → Found → Found
kept_before kept c found = cond kept (onto_element c found) found

abbrev pub ends_before : Bool → Found → Found
ends_before ended found = cond ended (end_element found) found

abbrev pub list_put : Output → ℕ → Found → Found
list_put output c found = given_before output.given (kept_before output.kept c (ends_before output.ended found))

abbrev pub list_arrive : ListNext → (ListStage → Found) → Found
list_arrive (Go stage) go = go stage
list_arrive Bad go = None

abbrev pub list_does : ListStep → ℕ → (ListStage → Found) → Found
list_does step c go = list_put step.output c (list_arrive step.next go)

-- two ways by a test
either_by : (test : Bool) (x y : Found) (s t : ListStep) (c : ℕ) (go : ListStage → Found) → x ≡ list_does s c go →
    y ≡ list_does t c go
    → cond test x y ≡ list_does (cond test s t) c go
either_by true x y s t c go h k = h
either_by false x y s t c go h k = k

list_text_step : (word : TextWord) (c : ℕ) (cs : List ℕ)
    → element_rule c cs (λ n. read_list cs n (spot_of word))
    ≡ list_does (text_element word c) c (λ stage. list_from stage cs)
list_text_step word c cs =
    either_by (c == 92) _ _ (list_passes (stages.Escaped word Backslash)) (list_keeps (stages.Text word)) c _ refl refl

list_inside : (word : TextWord) (c : ℕ) (cs : List ℕ) → list_rule (spot_of word) c cs (read_list cs)
    ≡ list_does (step_in_element word c) c (λ stage. list_from stage cs)
list_inside Bare c cs =
    either_by (is_white c) _ _ (list_closes stages.Between) (text_element Bare c) c _ refl (list_text_step Bare c cs)
list_inside Quoted c cs =
    either_by (c == 34) _ _ (list_closes stages.Closed) (text_element Quoted c) c _ refl (list_text_step Quoted c cs)

list_close : (depth c : ℕ) (cs : List ℕ) → close_element depth c (read_list cs)
    ≡ list_does (close_brace depth) c (λ stage. list_from stage cs)
list_close zero c cs = refl
list_close (suc depth) c cs = refl

list_braced : (depth c : ℕ) (cs : List ℕ) → braced_element depth c cs (read_list cs)
    ≡ list_does (step_in_braces depth c) c (λ stage. list_from stage cs)
list_braced depth c cs =
    either_by (c == 125) _ _ (close_brace depth) _ c _ (list_close depth c cs)
    (either_by (c == 123) _ _ (list_keeps (stages.Braced (suc depth))) _ c _ refl
    (either_by (c == 92) _ _ (list_keeps (stages.BracedBackslash depth)) (list_keeps (stages.Braced depth)) c _ refl
    refl))

list_begin : (c : ℕ) (cs : List ℕ) → begin_element c cs (read_list cs)
    ≡ list_does (step_at_element c) c (λ stage. list_from stage cs)
list_begin c cs =
    either_by (is_white c) _ _ (list_passes stages.Between) _ c _ refl
    (either_by (c == 123) _ _ (list_passes (stages.Braced 0)) _ c _ refl
    (either_by (c == 34) _ _ (list_passes (stages.Text Quoted)) (text_element Bare c) c _ refl
    (list_text_step Bare c cs)))

-- escapes in elements

further_element : (c : ℕ) (cs : List ℕ) (spot : Spot) (escape : Escape)
    → escaped_element (λ n. read_list (c ∷ cs) n spot) (further escape)
    ≡ escaped_element (λ n. read_list cs n spot) escape
unfolding read_list
further_element c cs spot (Gives d n) = refl
further_element c cs spot escape = refl

none_if : (b : Bool) (s t : ListStep) → s.output.given ≡ None → t.output.given ≡ None → (cond b s t).output.given ≡ None
none_if true s t h k = h
none_if false s t h k = k

text_none : (word : TextWord) (c : ℕ) → (text_element word c).output.given ≡ None
text_none word c = none_if (c == 92) _ _ refl refl

inside_none : (word : TextWord) (c : ℕ) → (step_in_element word c).output.given ≡ None
inside_none Bare c = none_if (is_white c) _ _ refl (text_none Bare c)
inside_none Quoted c = none_if (c == 34) _ _ refl (text_none Quoted c)

does_behind : (d : ℕ) (step : ListStep) (c : ℕ) (go : ListStage → Found) → step.output.given ≡ None →
    onto_element d (list_does step c go) ≡ list_does (list_after d step) c go
does_behind d step c go h = ap (λ g.
    onto_element d (given_before g (kept_before step.output.kept c
    (ends_before step.output.ended (list_arrive step.next go))))) h

abbrev element_in : TextWord → List ℕ → Escape → Found
element_in word cs escape = escaped_element (λ n. read_list cs n (spot_of word)) escape

list_by : (step : EscapeStep) (word : TextWord) (c : ℕ) (cs : List ℕ)
    → element_in word (c ∷ cs) (escape_by step c (λ s. escape_from s true cs))
    ≡ list_does (element_by word c step) c (λ stage. list_from stage cs)
unfolding read_list
list_by (escape_steps.Goes stage) word c cs = further_element c cs (spot_of word) (escape_from stage true cs)
list_by (escape_steps.Gives d) word c cs = refl
list_by escape_steps.Keeps word c cs = refl
list_by (escape_steps.Before d) word c cs = ap (onto_element d) (list_inside word c cs)
    ∙ does_behind d (step_in_element word c) c (λ stage. list_from stage cs) (inside_none word c)
list_by escape_steps.NoCharacter word c cs = refl

-- what is found from a character on, by its step
pub list-step : (stage : ListStage) (c : ℕ) (cs : List ℕ) →
    list_from stage (c ∷ cs) ≡ list_does (list_step stage c) c (λ next. list_from next cs)
unfolding read_list
list-step stages.Between c cs = list_begin c cs
list-step (stages.Text Bare) c cs = list_inside Bare c cs
list-step (stages.Text Quoted) c cs = list_inside Quoted c cs
list-step (stages.Escaped word stage) c cs =
    ap (element_in word (c ∷ cs)) (escape-step stage true c cs) ∙ list_by (escape_step stage c) word c cs
list-step (stages.Braced depth) c cs = list_braced depth c cs
list-step (stages.BracedBackslash depth) c cs = refl
list-step stages.Closed c cs = either_by (is_white c) _ _ (list_passes stages.Between) no_list c _ refl refl

-- the end of the text

abbrev pub list_end : ListNext → Found
list_end (Go stage) = Some []
list_end Bad = None

valued_element : (test : Bool) (value : ℕ) →
    escaped_element (λ n. Some ([] ∷ [])) (cond test (Gives value 0) NoCharacter)
    ≡ list_put (last_element_by Bare (cond test (Some value) None)).output 0
    (list_end (last_element_by Bare (cond test (Some value) None)).next)
valued_element true value = refl
valued_element false value = refl

quoted_element_end : (test : Bool) (value : ℕ) → escaped_element (λ n. None) (cond test (Gives value 0) NoCharacter)
    ≡ list_put (last_element_by Quoted (cond test (Some value) None)).output 0
    (list_end (last_element_by Quoted (cond test (Some value) None)).next)
quoted_element_end true value = refl
quoted_element_end false value = refl

pub list-end : (stage : ListStage) → list_from stage []
    ≡ list_put (last_list_step stage).output 0 (list_end (last_list_step stage).next)
unfolding read_list numeral
list-end (stages.Text Bare) = refl
list-end (stages.Escaped Bare (Digits radix value more)) = valued_element (scalar value) value
list-end (stages.Escaped Quoted (Digits radix value more)) = quoted_element_end (scalar value) value
list-end stage = refl

-- what is put before a list

pub onto_some : (c : ℕ) (xs : List (List ℕ)) → onto_element c (Some xs) ≡ Some (onto_piece c xs)
onto_some c [] = refl
onto_some c (x ∷ xs) = refl

given_some : (given : Option ℕ) (xs : List (List ℕ)) → given_before given (Some xs) ≡ Some (given_onto given xs)
given_some None xs = refl
given_some (Some c) xs = onto_some c xs

kept_some : (kept : Bool) (c : ℕ) (xs : List (List ℕ)) → kept_before kept c (Some xs) ≡ Some (kept_onto kept c xs)
kept_some true c xs = onto_some c xs
kept_some false c xs = refl

ended_some : (ended : Bool) (xs : List (List ℕ)) → ends_before ended (Some xs) ≡ Some (ended_before ended xs)
ended_some true xs = refl
ended_some false xs = refl

pub put_some : (output : Output) (c : ℕ) (xs : List (List ℕ)) → list_put output c (Some xs) ≡ Some (written output c xs)
put_some output c xs =
    ap (λ found. given_before output.given (kept_before output.kept c found)) (ended_some output.ended xs)
    ∙ ap (given_before output.given) (kept_some output.kept c (ended_before output.ended xs))
    ∙ given_some output.given (kept_onto output.kept c (ended_before output.ended xs))

none_by : (given : Option ℕ) (kept ended : Bool) (c : ℕ) →
    given_before given (kept_before kept c (ends_before ended None)) ≡ None
none_by None true true c = refl
none_by None false true c = refl
none_by (Some d) true true c = refl
none_by (Some d) false true c = refl
none_by given kept ended c = refl

pub put_none : (output : Output) (c : ℕ) → list_put output c None ≡ None
put_none output c = none_by output.given output.kept output.ended c
