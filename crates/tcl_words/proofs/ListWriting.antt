-- Steps of the loop that reads a list's elements.
use Rattle.tcl_words.proofs.Common.{◌≡◌, ℕ, zero, suc, ◌≤◌, ◌==◌, Bool, true, false, cond, Some, None, List, [], ◌∷◌}
use Rattle.tcl_words.proofs.Common.{◌++◌, map, length, take, drop, chars, String, string_bytes, encode_utf8}
use Rattle.tcl_words.proofs.Common.{encode_utf8_all, refl, sym, ap, ◌∙◌, arith, subst, append_assoc, append-nil}
use Rattle.tcl_words.proofs.Common.{true≢false, ⊤, nat_tests, chars-nil, escape_step, is_white, AtElement, onto_element}
use Rattle.tcl_words.proofs.Common.{read_list, ReadsList, list_keeps, text_element, step_in_element, close_brace}
use Rattle.tcl_words.proofs.Common.{element_by, list_step, last_list_step, open_braces, script_stage, is_plain}
use Rattle.tcl_words.proofs.Common.{prefixed, word_with, words_after, word_after, texts_of, EscapeStep, TextWord, Bare}
use Rattle.tcl_words.proofs.Common.{Quoted, Output, ListStage, ListNext, Bad, ListStep, cond-false}
use Rattle.tcl_words.specs.declared.list_steps.ListNext.TheVariants.{Go}
use Rattle.tcl_words.proofs.Plain.{AllPlain, RunOf}
use Rattle.tcl_words.proofs.Writing.{spelled, prefixed_onto, written_more}
use Rattle.tcl_words.proofs.ListStages.{Found, list_from, list_put, list_arrive, list_does, list_end, list-step}
use Rattle.tcl_words.proofs.ListStages.{list-end, put_some, put_none, onto_some}
use Rattle.tcl_words.proofs.Splitting.{texts_are}
use Rattle.tcl_words.specs.declared.escapes.EscapeStep.TheVariants as escape_steps
use Rattle.tcl_words.specs.declared.list_steps.ListStage.TheVariants as stages

-- no more braces are open than characters were read

abbrev IsDeep : ℕ → ListNext → Type 0
IsDeep depth (Go stage) = open_braces stage ≤ suc depth
IsDeep depth Bad = ⊤

deep_if : (depth : ℕ) (test : Bool) (s t : ListStep) → IsDeep depth s.next → IsDeep depth t.next →
    IsDeep depth (cond test s t).next
deep_if depth true s t h k = h
deep_if depth false s t h k = k

deep_text : (depth : ℕ) (word : TextWord) (c : ℕ) → IsDeep depth (text_element word c).next
deep_text depth word c = deep_if depth (c == 92) _ _ (omega arith) (omega arith)

deep_inside : (depth : ℕ) (word : TextWord) (c : ℕ) → IsDeep depth (step_in_element word c).next
deep_inside depth Bare c = deep_if depth (is_white c) _ _ (omega arith) (deep_text depth Bare c)
deep_inside depth Quoted c = deep_if depth (c == 34) _ _ (omega arith) (deep_text depth Quoted c)

deep_close : (depth : ℕ) → IsDeep depth (close_brace depth).next
deep_close zero = omega arith
deep_close (suc depth) = omega arith

deep_by : (depth : ℕ) (word : TextWord) (c : ℕ) (step : EscapeStep) → IsDeep depth (element_by word c step).next
deep_by depth word c (escape_steps.Goes stage) = omega arith
deep_by depth word c (escape_steps.Gives d) = omega arith
deep_by depth word c escape_steps.Keeps = omega arith
deep_by depth word c (escape_steps.Before d) = deep_inside depth word c
deep_by depth word c escape_steps.NoCharacter = tt

deep_step : (stage : ListStage) (c : ℕ) → IsDeep (open_braces stage) (list_step stage c).next
deep_step stages.Between c =
    deep_if 0 (is_white c) _ _ (omega arith)
    (deep_if 0 (c == 123) _ _ (omega arith) (deep_if 0 (c == 34) _ _ (omega arith) (deep_text 0 Bare c)))
deep_step (stages.Text word) c = deep_inside 0 word c
deep_step (stages.Escaped word stage) c = deep_by 0 word c (escape_step stage c)
deep_step (stages.Braced depth) c =
    deep_if depth (c == 125) _ _ (deep_close depth)
    (deep_if depth (c == 123) _ _ (omega arith) (deep_if depth (c == 92) _ _ (omega arith) (omega arith)))
deep_step (stages.BracedBackslash depth) c = omega arith
deep_step stages.Closed c = deep_if 0 (is_white c) _ _ (omega arith) tt

pub list_depth : (stage next : ListStage) (step : ListStep) (c : ℕ) → step.next ≡ Go next → step ≡ list_step stage c →
    open_braces next ≤ suc (open_braces stage)
list_depth stage next step c goes does =
    subst (IsDeep (open_braces stage)) (sym (ap (λ (s : ListStep). s.next) does) ∙ goes) (deep_step stage c)

-- runs

plain_element : (stage : ListStage) (c : ℕ) → is_plain (script_stage stage) c ≡ true →
    list_step stage c ≡ list_keeps stage
plain_element (stages.Text Bare) c h =
    cond-false (is_white c) _ _ (grind (arith, nat_tests)) ∙ cond-false (c == 92) _ _ (grind (arith, nat_tests))
plain_element (stages.Text Quoted) c h =
    cond-false (c == 34) _ _ (grind (arith, nat_tests)) ∙ cond-false (c == 92) _ _ (grind (arith, nat_tests))
plain_element (stages.Braced depth) c h =
    cond-false (c == 125) _ _ (grind (arith, nat_tests)) ∙ cond-false (c == 123) _ _ (grind (arith, nat_tests))
    ∙ cond-false (c == 92) _ _ (grind (arith, nat_tests))
plain_element stage c h = absurd (true≢false (sym h))

-- what is found, in bytes, behind words that were written and one that is under way

abbrev pub spelled_found : Found → Found
spelled_found None = None
spelled_found (Some xs) = Some (spelled xs)

abbrev pub behind : List (List ℕ) → List ℕ → Found → Found
behind words word None = None
behind words word (Some xs) = Some (words ++ prefixed word xs)

behind_onto : (c : ℕ) (words : List (List ℕ)) (word : List ℕ) (found : Found)
    → behind words word (spelled_found (onto_element c found))
    ≡ behind words (word ++ encode_utf8 c) (spelled_found found)
behind_onto c words word None = refl
behind_onto c words word (Some xs) =
    ap (λ f. behind words word (spelled_found f)) (onto_some c xs)
    ∙ ap (λ l. Some (words ++ l)) (prefixed_onto c word xs)

behind_put : (output : Output) (c : ℕ) (words : List (List ℕ)) (word : List ℕ) (found : Found)
    → behind words word (spelled_found (list_put output c found))
    ≡ behind (words_after output.ended (word_with output c word) words)
    (word_after output.ended (word_with output c word)) (spelled_found found)
behind_put output c words word None = ap (λ f. behind words word (spelled_found f)) (put_none output c)
behind_put output c words word (Some xs) =
    ap (λ f. behind words word (spelled_found f)) (put_some output c xs) ∙ ap Some (written_more output c word words xs)

-- The characters before the rest led to the stage, and these words and this one that is under way were written.
pub record IsReading (cs rest : List ℕ) (stage : ListStage) (words : List (List ℕ)) (word : List ℕ) : Type 0 where
  pub found : spelled_found (read_list cs 0 AtElement) ≡ behind words word (spelled_found (list_from stage rest))

run_read : (stage : ListStage) (run rest : List ℕ) (words : List (List ℕ)) (word : List ℕ) →
    AllPlain (script_stage stage) run
    → behind words word (spelled_found (list_from stage (run ++ rest)))
    ≡ behind words (word ++ encode_utf8_all run) (spelled_found (list_from stage rest))
run_read stage [] rest words word h =
    ap (λ l. behind words l (spelled_found (list_from stage rest))) (sym (append-nil word))
run_read stage (c ∷ run) rest words word h =
    ap (λ f. behind words word (spelled_found f)) (list-step stage c (run ++ rest))
    ∙ ap (λ (s : ListStep). behind words word (spelled_found (list_does s c (λ next. list_from next (run ++ rest)))))
    (plain_element stage c h.0)
    ∙ behind_onto c words word (list_from stage (run ++ rest))
    ∙ run_read stage run rest words (word ++ encode_utf8 c) h.1
    ∙ ap (λ l. behind words l (spelled_found (list_from stage rest)))
    (append_assoc word (encode_utf8 c) (encode_utf8_all run))

pub reading_runs : {cs bytes : List ℕ} {n : ℕ} {stage : ListStage} {words : List (List ℕ)} {word more : List ℕ} →
    IsReading cs (chars bytes) stage words word → RunOf (script_stage stage) bytes n → more ≡ word ++ take n bytes →
    IsReading cs (chars (drop n bytes)) stage words more
reading_runs {bytes = bytes} {n} {stage} {words} {word} w r e = record {
  found = w.found ∙ ap (λ l. behind words word (spelled_found (list_from stage l))) r.split
      ∙ run_read stage r.run (chars (drop n bytes)) words word r.plain
      ∙ ap (λ l. behind words l (spelled_found (list_from stage (chars (drop n bytes)))))
      (ap (λ l. word ++ l) (sym r.spelled) ∙ sym e);
}

none_found : (found : Found) → spelled_found found ≡ None → found ≡ None
none_found None h = refl
none_found (Some xs) h = cc

no_list_of : (cs : List ℕ) → read_list cs 0 AtElement ≡ None → (xs : List (List ℕ)) → ¬ ReadsList cs xs
no_list_of cs none xs r = let no = sym none ∙ r in cc

-- one more character
module _ {cs now later : List ℕ} {stage : ListStage} {words more : List (List ℕ)} {word rest : List ℕ} {step : ListStep}
    {c : ℕ} (w : IsReading cs now stage words word) (here : now ≡ c ∷ later) (does : step ≡ list_step stage c)
    (e : more ≡ words_after step.output.ended (word_with step.output c word) words)
    (f : rest ≡ word_after step.output.ended (word_with step.output c word)) where
  found_more : spelled_found (read_list cs 0 AtElement)
      ≡ behind more rest (spelled_found (list_arrive step.next (λ next. list_from next later)))
  found_more =
      w.found ∙ ap (λ l. behind words word (spelled_found (list_from stage l))) here
      ∙ ap (λ l. behind words word (spelled_found l)) (list-step stage c later)
      ∙ ap (λ (s : ListStep). behind words word (spelled_found (list_does s c (λ next. list_from next later))))
      (sym does)
      ∙ behind_put step.output c words word (list_arrive step.next (λ next. list_from next later))
      ∙ ap (λ l. behind l (word_after step.output.ended (word_with step.output c word))
      (spelled_found (list_arrive step.next (λ next. list_from next later)))) (sym e)
      ∙ ap (λ l. behind more l (spelled_found (list_arrive step.next (λ next. list_from next later)))) (sym f)

  pub reading_goes : {next : ListStage} → step.next ≡ Go next → IsReading cs later next more rest
  reading_goes goes = record {
    found = found_more ∙ ap (λ s. behind more rest (spelled_found (list_arrive s (λ n. list_from n later)))) goes;
  }

  pub reading_fails : step.next ≡ Bad → (xs : List (List ℕ)) → ¬ ReadsList cs xs
  reading_fails bad =
      no_list_of cs (none_found (read_list cs 0 AtElement) (found_more
      ∙ ap (λ s. behind more rest (spelled_found (list_arrive s (λ n. list_from n later)))) bad))

-- the end of the text

found_at_end : (cs bytes : List ℕ) (stage : ListStage) (words : List (List ℕ)) (word : List ℕ) (step : ListStep) →
    IsReading cs (chars bytes) stage words word
    → length bytes ≡ 0 → step ≡ last_list_step stage
    → spelled_found (read_list cs 0 AtElement)
    ≡ behind (words_after step.output.ended (word_with step.output 0 word) words)
    (word_after step.output.ended (word_with step.output 0 word)) (spelled_found (list_end step.next))
found_at_end cs [] stage words word step w h does =
    w.found ∙ ap (λ l. behind words word (spelled_found (list_from stage l))) chars-nil
    ∙ ap (λ l. behind words word (spelled_found l)) (list-end stage)
    ∙ ap (λ (s : ListStep). behind words word (spelled_found (list_put s.output 0 (list_end s.next)))) (sym does)
    ∙ behind_put step.output 0 words word (list_end step.next)
found_at_end cs (b ∷ bytes) stage words word step w h does = absurd (omega arith)

texts_of_found : {Z : Type 0} (found : Found) (strings : List (String Z)) →
    spelled_found found ≡ Some (map (λ s. string_bytes s) strings) → found ≡ Some (texts_of strings)
texts_of_found None strings h = cc
texts_of_found (Some xs) strings h =
    let same : map (λ s. string_bytes s) strings ≡ map encode_utf8_all xs = cc in
    ap Some (sym (texts_are strings xs same))

pub reading_ends : {Z : Type 0} {cs : List ℕ} (bytes : List ℕ) {stage next : ListStage} {words : List (List ℕ)}
    {word : List ℕ} {step : ListStep} (strings : List (String Z)) → IsReading cs (chars bytes) stage words word
    → length bytes ≡ 0 → step ≡ last_list_step stage → step.next ≡ Go next
    → map (λ s. string_bytes s) strings ≡ words_after step.output.ended (word_with step.output 0 word) words
    → ReadsList cs (texts_of strings)
reading_ends {cs = cs} bytes {stage} {words = words} {word} {step} strings w h does goes e =
    texts_of_found (read_list cs 0 AtElement) strings (found_at_end cs bytes stage words word step w h does
    ∙ ap (λ s. behind (words_after step.output.ended (word_with step.output 0 word) words)
    (word_after step.output.ended (word_with step.output 0 word)) (spelled_found (list_end s))) goes
    ∙ ap Some (append-nil (words_after step.output.ended (word_with step.output 0 word) words) ∙ sym e))

pub reading_ends_badly : {cs : List ℕ} (bytes : List ℕ) {stage : ListStage} {words : List (List ℕ)} {word : List ℕ}
    {step : ListStep} → IsReading cs (chars bytes) stage words word
    → length bytes ≡ 0 → step ≡ last_list_step stage → step.next ≡ Bad → (xs : List (List ℕ)) → ¬ ReadsList cs xs
reading_ends_badly {cs} bytes {stage} {words} {word} {step} w h does bad =
    no_list_of cs (none_found (read_list cs 0 AtElement) (found_at_end cs bytes stage words word step w h does
    ∙ ap (λ s. behind (words_after step.output.ended (word_with step.output 0 word) words)
    (word_after step.output.ended (word_with step.output 0 word)) (spelled_found (list_end s))) bad))

pub reading_same : {cs rest : List ℕ} {stage : ListStage} {words more : List (List ℕ)} {word : List ℕ} →
    IsReading cs rest stage words word → more ≡ words → IsReading cs rest stage more word
reading_same {cs} {rest} {stage} {word = word} w same = subst (λ l. IsReading cs rest stage l word) (sym same) w
