-- Steps of the loop that writes the words of a command.
use Rattle.tcl_words.proofs.Common.{◌≡◌, ◌<◌, ℕ, get_or, ◌⊎◌, inl, inr, Bool, true, false, Option, Some, None, List, []}
use Rattle.tcl_words.proofs.Common.{◌∷◌, ◌++◌, map, length, take, drop, chars, encode_utf8, encode_utf8_all, refl, sym}
use Rattle.tcl_words.proofs.Common.{ap, ◌∙◌, arith, subst, append_assoc, append-nil, chars-nil, chars-append}
use Rattle.tcl_words.proofs.Common.{chars-IsAscii, IsUtf8-from_ascii, step_of, last_step, onto_piece, given_onto}
use Rattle.tcl_words.proofs.Common.{kept_onto, ended_before, written, words_next, pieces_from, prefixed, given_bytes}
use Rattle.tcl_words.proofs.Common.{kept_bytes, word_with, words_after, word_after, ScriptFault, Stage, BeforeCommand}
use Rattle.tcl_words.proofs.Common.{Next, Go, End, Refuse, Output, Step, begun}
use Rattle.std.proofs.lemmas.Str.Ascii.{IsAscii-cons, IsAscii-nil}
use Rattle.tcl_words.proofs.Verdicts.{pieces-nil, pieces-cons}
use Rattle.tcl_words.proofs.Plain.{AllPlain, plain_step, char_step, RunOf}

-- words in their bytes
abbrev pub spelled : List (List ℕ) → List (List ℕ)
spelled words = map encode_utf8_all words

pub prefixed_onto : (c : ℕ) (bytes : List ℕ) (words : List (List ℕ)) →
    prefixed bytes (spelled (onto_piece c words)) ≡ prefixed (bytes ++ encode_utf8 c) (spelled words)
prefixed_onto c bytes [] = refl
prefixed_onto c bytes (word ∷ words) =
    ap (λ l. l ∷ spelled words) (sym (append_assoc bytes (encode_utf8 c) (encode_utf8_all word)))

prefixed_given : (given : Option ℕ) (bytes : List ℕ) (words : List (List ℕ)) →
    prefixed bytes (spelled (given_onto given words)) ≡ prefixed (bytes ++ given_bytes given) (spelled words)
prefixed_given None bytes words = ap (λ l. prefixed l (spelled words)) (sym (append-nil bytes))
prefixed_given (Some c) bytes words = prefixed_onto c bytes words

prefixed_kept : (kept : Bool) (c : ℕ) (bytes : List ℕ) (words : List (List ℕ)) →
    prefixed bytes (spelled (kept_onto kept c words)) ≡ prefixed (bytes ++ kept_bytes kept c) (spelled words)
prefixed_kept true c bytes words = prefixed_onto c bytes words
prefixed_kept false c bytes words = ap (λ l. prefixed l (spelled words)) (sym (append-nil bytes))

pub prefixed_nil : (words : List (List ℕ)) → prefixed [] words ≡ words
prefixed_nil [] = refl
prefixed_nil (word ∷ words) = refl

prefixed_ended : (ended : Bool) (word : List ℕ) (words others : List (List ℕ))
    → words ++ prefixed word (spelled (ended_before ended others))
    ≡ words_after ended word words ++ prefixed (word_after ended word) (spelled others)
prefixed_ended true word words others =
    ap (λ l. words ++ l ∷ spelled others) (append-nil word) ∙ sym (append_assoc words (word ∷ []) (spelled others))
    ∙ ap (λ l. (words ++ word ∷ []) ++ l) (sym (prefixed_nil (spelled others)))
prefixed_ended false word words others = refl

-- what a character adds is written
pub written_more : (output : Output) (c : ℕ) (word : List ℕ) (words others : List (List ℕ))
    → words ++ prefixed word (spelled (written output c others))
    ≡ words_after output.ended (word_with output c word) words
    ++ prefixed (word_after output.ended (word_with output c word)) (spelled others)
written_more output c word words others =
    ap (λ l. words ++ l) (prefixed_given output.given word (kept_onto output.kept c (ended_before output.ended others))
    ∙ prefixed_kept output.kept c (word ++ given_bytes output.given) (ended_before output.ended others))
    ∙ prefixed_ended output.ended (word_with output c word) words others

-- The characters before the rest led to the stage, and these words and this one that is under way were written.
pub record IsWritten (cs rest : List ℕ) (stage : Stage) (words : List (List ℕ)) (word : List ℕ) : Type 0 where
  pub pieces : spelled (pieces_from cs BeforeCommand) ≡ words ++ prefixed word (spelled (pieces_from rest stage))

-- a run is written
pub run_written : (stage : Stage) (run rest : List ℕ) (word : List ℕ) → AllPlain stage run
    → prefixed word (spelled (pieces_from (run ++ rest) stage))
    ≡ prefixed (word ++ encode_utf8_all run) (spelled (pieces_from rest stage))
run_written stage [] rest word h = ap (λ l. prefixed l (spelled (pieces_from rest stage))) (sym (append-nil word))
run_written stage (c ∷ run) rest word h =
    ap (λ l. prefixed word (spelled l)) (pieces-cons c (run ++ rest) stage)
    ∙ ap (λ (s : Step). prefixed word (spelled (written s.output c (words_next s.next (pieces_from (run ++ rest))))))
    (plain_step stage c h.0)
    ∙ prefixed_onto c word (pieces_from (run ++ rest) stage) ∙ run_written stage run rest (word ++ encode_utf8 c) h.1
    ∙ ap (λ l. prefixed l (spelled (pieces_from rest stage))) (append_assoc word (encode_utf8 c) (encode_utf8_all run))

pub writing_runs : {cs bytes : List ℕ} {n : ℕ} {stage : Stage} {words : List (List ℕ)} {word more : List ℕ} →
    IsWritten cs (chars bytes) stage words word → RunOf stage bytes n → more ≡ word ++ take n bytes →
    IsWritten cs (chars (drop n bytes)) stage words more
writing_runs {bytes = bytes} {n} {stage} {words} {word} w r e = record {
  pieces = w.pieces ∙ ap (λ l. words ++ prefixed word (spelled (pieces_from l stage))) r.split
      ∙ ap (λ l. words ++ l) (run_written stage r.run (chars (drop n bytes)) word r.plain)
      ∙ ap (λ l. words ++ prefixed l (spelled (pieces_from (chars (drop n bytes)) stage)))
      (ap (λ l. word ++ l) (sym r.spelled) ∙ sym e);
}

-- the command's end
abbrev pub IsLast : Next → Type 0
IsLast (Go stage) = ⊥
IsLast End = Unit {0}
IsLast (Refuse fault) = Unit {0}

pub is_last : (next : Next) → (next ≡ End) ⊎ ((fault : ScriptFault) × (next ≡ Refuse fault)) → IsLast next
is_last next (inl h) = subst IsLast (sym h) tt
is_last next (inr h) = subst IsLast (sym h.1) tt

no_more : (next : Next) (after : Stage → List (List ℕ)) → IsLast next → words_next next after ≡ []
no_more (Go stage) after h = absurd h
no_more End after h = refl
no_more (Refuse fault) after h = refl

-- one more character
module _ {cs now later : List ℕ} {stage : Stage} {words more : List (List ℕ)} {word rest : List ℕ} {step : Step} {c : ℕ}
    (w : IsWritten cs now stage words word) (here : now ≡ c ∷ later) (does : step ≡ step_of stage c)
    (e : more ≡ words_after step.output.ended (word_with step.output c word) words)
    (f : rest ≡ word_after step.output.ended (word_with step.output c word)) where
  pieces_more : spelled (pieces_from cs BeforeCommand) ≡ more
      ++ prefixed rest (spelled (words_next step.next (pieces_from later)))
  pieces_more =
      w.pieces ∙ ap (λ l. words ++ prefixed word (spelled (pieces_from l stage))) here
      ∙ ap (λ l. words ++ prefixed word (spelled l)) (pieces-cons c later stage)
      ∙ ap (λ (s : Step). words ++ prefixed word (spelled (written s.output c (words_next s.next (pieces_from later)))))
      (sym does)
      ∙ written_more step.output c word words (words_next step.next (pieces_from later))
      ∙ ap (λ l. l ++ prefixed (word_after step.output.ended (word_with step.output c word))
      (spelled (words_next step.next (pieces_from later)))) (sym e)
      ∙ ap (λ l. more ++ prefixed l (spelled (words_next step.next (pieces_from later)))) (sym f)

  pub writing_goes : {next : Stage} → step.next ≡ Go next → IsWritten cs later next more rest
  writing_goes goes = record {
    pieces = pieces_more ∙ ap (λ s. more ++ prefixed rest (spelled (words_next s (pieces_from later)))) goes;
  }

  pub writing_stops : IsLast step.next → more ≡ spelled (pieces_from cs BeforeCommand)
  writing_stops last =
      sym (pieces_more ∙ ap (λ l. more ++ prefixed rest (spelled l)) (no_more step.next (pieces_from later) last)
      ∙ append-nil more)

-- the end of the text
pub writing_ends : {cs : List ℕ} (bytes : List ℕ) {stage : Stage} {words more : List (List ℕ)} {word : List ℕ}
    {step : Step} → IsWritten cs (chars bytes) stage words word
    → length bytes ≡ 0 → step ≡ last_step stage
    → more ≡ words_after step.output.ended (word_with step.output 0 word) words
    → more ≡ spelled (pieces_from cs BeforeCommand)
writing_ends [] {stage} {words} {word = word} {step = step} w h does e =
    sym (w.pieces ∙ ap (λ l. words ++ prefixed word (spelled (pieces_from l stage))) chars-nil
    ∙ ap (λ l. words ++ prefixed word (spelled l)) (pieces-nil stage)
    ∙ ap (λ (s : Step). words ++ prefixed word (spelled (written s.output 0 []))) (sym does)
    ∙ written_more step.output 0 word words [] ∙ append-nil _ ∙ sym e)
writing_ends (b ∷ bytes) w h does e = absurd (omega arith)

-- A bare word that is to begin may be taken as begun.
pub pieces_begun : (cs bytes : List ℕ) (stage here : Stage) (b : ℕ) → encode_utf8_all cs ≡ bytes → 0 < length bytes →
    here ≡ begun stage b → b ≡ get_or bytes 0 0
    → pieces_from cs stage ≡ pieces_from cs here
pieces_begun [] bytes stage here b split some is first = absurd (omega (arith, ap length split))
pieces_begun (c ∷ cs) bytes stage here b split some is first =
    pieces-cons c cs stage
    ∙ ap (λ (s : Step). written s.output c (words_next s.next (pieces_from cs)))
    (char_step stage here b c (encode_utf8_all cs) is (first ∙ ap (λ l. get_or l 0 0) (sym split)))
    ∙ sym (pieces-cons c cs here)

-- What ends a bare word.

pub ascii_cons : (c : ℕ) (rest : List ℕ) → c < 128 → chars (c ∷ rest) ≡ c ∷ chars rest
ascii_cons c rest low =
    let ascii = IsAscii-cons c [] low IsAscii-nil in
    chars-append (c ∷ []) rest (IsUtf8-from_ascii (c ∷ []) ascii)
    ∙ ap (λ l. l ++ chars rest) (chars-IsAscii (c ∷ []) ascii)

pub writing_same : {cs rest : List ℕ} {stage : Stage} {words more : List (List ℕ)} {word : List ℕ} →
    IsWritten cs rest stage words word → more ≡ words → IsWritten cs rest stage more word
writing_same {cs} {rest} {stage} {word = word} w same = subst (λ l. IsWritten cs rest stage l word) (sym same) w
