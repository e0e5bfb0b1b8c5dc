-- Texts of quoted words that have ordinary characters and escapes of two alone, and what they spell.
use Rattle.tcl_words.proofs.Common.{◌≡◌, ℕ, suc, ◌+◌, ◌<◌, ◌≤◌, ⊎_elim, Bool, true, false, Some, None, cond, ◌&&◌, ◌==◌}
use Rattle.tcl_words.proofs.Common.{is_some, List, [], ◌∷◌, ◌++◌, length, take, drop, get_or, chars, encode_utf8}
use Rattle.tcl_words.proofs.Common.{encode_utf8_all, refl, sym, ap, ◌∙◌, arith, true≢false, append-nil, ⊤, append_assoc}
use Rattle.tcl_words.proofs.Common.{nat_tests, take-add, take_more, drop_more, encode_ascii, inside_one, is_digit}
use Rattle.tcl_words.proofs.Common.{letter_value, is_letter, given_at, pair_gives, escape_step, is_quoted}
use Rattle.tcl_words.proofs.Common.{is_quoted_from, is_quoted_text, unquoted, unquoted_from, prefixed, pieces_from}
use Rattle.tcl_words.proofs.Common.{words_next, written, Stage, Text, Escaped, Quoted, Backslash, EscapeStep, Step}
use Rattle.tcl_words.proofs.Common.{cond-false, Option, IsUtf8, IsCharBoundary, IsUtf8-take, encodes-chars}
use Rattle.tcl_words.proofs.Common.{take-append-drop, chars-append, length-encode, len_utf8_bounds, words_on}
use Rattle.tcl_words.proofs.Common.{IsCharBoundary-after_ascii}
use Rattle.tcl_words.proofs.Verdicts.{pieces-cons}
use Rattle.tcl_words.proofs.Spelling.{below_or, no_digit}
use Rattle.tcl_words.proofs.Plain.{AllPlain, all_plain, plain_step}
use Rattle.tcl_words.proofs.Pairs.{gives_piece}
use Rattle.tcl_words.proofs.Writing.{spelled, prefixed_onto, prefixed_nil, ascii_cons}
use Rattle.tcl_words.specs.declared.escapes.EscapeStep.TheVariants as escapes

both_true : (a b : Bool) → a && b ≡ true → (a ≡ true) × (b ≡ true)
both_true true b h = (refl, h)
both_true false b h = absurd (true≢false (sym h))

and_true : (a b : Bool) → a ≡ true → b ≡ true → a && b ≡ true
and_true a b h k = ap (λ x. x && b) h ∙ k

no_slash : (c : ℕ) → is_quoted c ≡ true → (c == 92) ≡ false
no_slash c h = grind (arith, nat_tests)

-- a run in front of other bytes

run_quoted : (run ys : List ℕ) → AllPlain (Text Quoted) run → is_quoted_from false (run ++ ys) ≡ is_quoted_from false ys
run_quoted [] ys h = refl
run_quoted (c ∷ run) ys h =
    cond-false (c == 92) _ _ (no_slash c h.0) ∙ ap (λ b. b && is_quoted_from false (run ++ ys)) h.0
    ∙ run_quoted run ys h.1

run_unquoted : (run ys : List ℕ) → AllPlain (Text Quoted) run → unquoted_from false (run ++ ys)
    ≡ run ++ unquoted_from false ys
run_unquoted [] ys h = refl
run_unquoted (c ∷ run) ys h =
    cond-false (c == 92) _ _ (no_slash c h.0) ∙ ap (λ l. c ∷ l) (run_unquoted run ys h.1)

run_alone : (run : List ℕ) → AllPlain (Text Quoted) run → is_quoted_text run ≡ true
run_alone run h = ap (is_quoted_from false) (sym (append-nil run)) ∙ run_quoted run [] h

-- such a text behind another one
front_on : (behind : Bool) (xs ys : List ℕ) → is_quoted_from behind xs ≡ true → is_quoted_from false ys ≡ true →
    is_quoted_from behind (xs ++ ys) ≡ true
front_on true [] ys h k = absurd (true≢false (sym h))
front_on false [] ys h k = k
front_on true (c ∷ cs) ys h k =
    let both = both_true (is_some (pair_gives c)) _ h in
    and_true _ _ both.0 (front_on false cs ys both.1 k)
front_on false (c ∷ cs) ys h k =
    elim (c == 92) as (λ b. cond b (is_quoted_from true cs) (is_quoted c && is_quoted_from false cs) ≡ true →
    cond b (is_quoted_from true (cs ++ ys)) (is_quoted c && is_quoted_from false (cs ++ ys)) ≡ true) [
      | true ↦ λ i. front_on true cs ys i k
      | false ↦ λ i. let both = both_true (is_quoted c) _ i in and_true _ _ both.0 (front_on false cs ys both.1 k)
    ] h

-- the front of some bytes goes on by a run,
pub front_run : (bytes slice : List ℕ) (i n : ℕ) → slice ≡ drop i bytes → is_quoted_text (take i bytes) ≡ true →
    ((k : ℕ) → k < n → is_quoted (get_or slice k 0) ≡ true)
    → is_quoted_text (take (i + n) bytes) ≡ true
front_run bytes slice i n same before plain =
    ap is_quoted_text (take-add i n bytes)
    ∙ front_on false (take i bytes) (take n (drop i bytes)) before
    (run_alone (take n (drop i bytes)) (all_plain n (drop i bytes) (Text Quoted)
    (λ k p. ap (λ l. is_quoted (get_or l k 0)) (sym same) ∙ plain k p)))

-- by one of them,
pub front_one : (bytes : List ℕ) (i : ℕ) → i < length bytes → is_quoted (get_or bytes i 0) ≡ true →
    is_quoted_text (take i bytes) ≡ true → is_quoted_text (take (i + 1) bytes) ≡ true
front_one bytes i within plain before =
    ap is_quoted_text (take_more bytes i 0 within)
    ∙ front_on false (take i bytes) (get_or bytes i 0 ∷ []) before (run_alone (get_or bytes i 0 ∷ []) (plain, tt))

pair_alone : (c d : ℕ) → pair_gives c ≡ Some d → is_quoted_text (92 ∷ c ∷ []) ≡ true
pair_alone c d gives = and_true (is_some (pair_gives c)) true (ap is_some gives) refl

-- and by an escape.
pub front_pair : (bytes : List ℕ) (i d : ℕ) → i + 1 < length bytes → get_or bytes i 0 ≡ 92 →
    pair_gives (get_or bytes (i + 1) 0) ≡ Some d → is_quoted_text (take i bytes) ≡ true
    → is_quoted_text (take (i + 2) bytes) ≡ true
front_pair bytes i d within slash gives before =
    let c = get_or bytes (i + 1) 0 in
    let pair : take 2 (drop i bytes) ≡ 92 ∷ c ∷ [] = ap (take 2) (drop_more bytes i 0 (omega arith)
    ∙ ap (λ l. get_or bytes i 0 ∷ l) (drop_more bytes (i + 1) 0 within))
    ∙ ap (λ b. b ∷ c ∷ []) slash in
    ap is_quoted_text (take-add i 2 bytes ∙ ap (λ l. take i bytes ++ l) pair)
    ∙ front_on false (take i bytes) (92 ∷ c ∷ []) before (pair_alone c d gives)

-- the front of some bytes is a run and such a text
pub run_and_front : (bytes slice behind : List ℕ) (n m : ℕ) → slice ≡ bytes → behind ≡ drop n bytes →
    ((k : ℕ) → k < n → is_quoted (get_or slice k 0) ≡ true)
    → is_quoted_text (take m behind) ≡ true → is_quoted_text (take (n + m) bytes) ≡ true
run_and_front bytes slice behind n m same after plain front =
    ap is_quoted_text (take-add n m bytes)
    ∙ front_on false (take n bytes) (take m (drop n bytes))
    (run_alone (take n bytes) (all_plain n bytes (Text Quoted)
    (λ k p. ap (λ l. is_quoted (get_or l k 0)) (sym same) ∙ plain k p)))
    (ap (λ l. is_quoted_text (take m l)) (sym after) ∙ front)

-- What an escape of two gives.

skip_test : (test : Bool) (s t : EscapeStep) (c d : ℕ) → given_at c s ≡ None → given_at c (cond test s t) ≡ Some d →
    given_at c t ≡ Some d
skip_test true s t c d none h = cc
skip_test false s t c d none h = h

letter_gives : (test : Bool) (v c d : ℕ) → (test ≡ false → v ≡ c) →
    given_at c (cond test (escapes.Gives v) escapes.Keeps) ≡ Some d → d ≡ v
letter_gives true v c d same h = cc
letter_gives false v c d same h = let e = same refl in cc

pub pair_value : (c d : ℕ) → pair_gives c ≡ Some d → d ≡ letter_value c
pair_value c d h =
    letter_gives (is_letter c) (letter_value c) c d (λ isn't. grind (arith, nat_tests))
    (skip_test (c == 10) _ _ c d refl (skip_test (c == 85) _ _ c d refl (skip_test (c == 117) _ _ c d refl
    (skip_test (c == 120) _ _ c d refl (skip_test (is_digit c 8) _ _ c d refl h)))))

high_gives : (c : ℕ) → 128 ≤ c → pair_gives c ≡ Some c
high_gives c high =
    ap (given_at c) (cond-false (is_digit c 8) _ _ (no_digit c 8 high (omega arith))
    ∙ cond-false (c == 120) _ _ (grind (arith, nat_tests)) ∙ cond-false (c == 117) _ _ (grind (arith, nat_tests))
    ∙ cond-false (c == 85) _ _ (grind (arith, nat_tests)) ∙ cond-false (c == 10) _ _ (grind (arith, nat_tests))
    ∙ cond-false (is_letter c) _ _ (grind (arith, nat_tests)))

high_letter : (c : ℕ) → 128 ≤ c → letter_value c ≡ c
high_letter c high = grind (arith, nat_tests)

low_letter : (c : ℕ) → c < 128 → letter_value c < 128
low_letter c low = grind (arith, nat_tests)

high_quoted : (c : ℕ) → 128 ≤ c → is_quoted c ≡ true
high_quoted c high = grind (arith, nat_tests)

-- The bytes of a character beyond ASCII.

abbrev AllHigh : List ℕ → Type 0
AllHigh [] = ⊤
AllHigh (b ∷ bs) = (128 ≤ b) × AllHigh bs

all_high : (bs : List ℕ) → ((k : ℕ) → k < length bs → 128 ≤ get_or bs k 0) → AllHigh bs
all_high [] h = tt
all_high (b ∷ bs) h = (h 0 (omega arith), all_high bs (λ k p. h (suc k) (omega arith)))

high_bytes : (c : ℕ) → 128 ≤ c → AllHigh (encode_utf8 c)
high_bytes c high = all_high (encode_utf8 c) (λ k p. ⊎_elim
    (λ low. let same = inside_one c [] (encode_utf8 c) k (sym (append-nil (encode_utf8 c))) p low in
    absurd (omega arith))
    (λ above. above)
    (below_or (get_or (encode_utf8 c) k 0)))

high_plain : (bs : List ℕ) → AllHigh bs → AllPlain (Text Quoted) bs
high_plain [] h = tt
high_plain (b ∷ bs) h = (high_quoted b h.0, high_plain bs h.1)

-- What such a text spells goes onto the word.

abbrev stage_behind : Bool → Stage
stage_behind true = Escaped Quoted Backslash
stage_behind false = Text Quoted

-- a pair of which the backslash was read
pair_on : (c d : ℕ) (cs word : List ℕ) → pair_gives c ≡ Some d →
    prefixed word (spelled (pieces_from (c ∷ cs) (Escaped Quoted Backslash)))
    ≡ prefixed (word ++ encode_utf8 d) (spelled (pieces_from cs (Text Quoted)))
pair_on c d cs word gives =
    ap (λ l. prefixed word (spelled l)) (pieces-cons c cs (Escaped Quoted Backslash)
    ∙ gives_piece Quoted c d (escape_step Backslash c) (pieces_from cs) gives)
    ∙ prefixed_onto d word (pieces_from cs (Text Quoted))

-- an ordinary character
plain_on : (c : ℕ) (cs word : List ℕ) → is_quoted c ≡ true →
    prefixed word (spelled (pieces_from (c ∷ cs) (Text Quoted)))
    ≡ prefixed (word ++ encode_utf8 c) (spelled (pieces_from cs (Text Quoted)))
plain_on c cs word plain =
    ap (λ l. prefixed word (spelled l)) (pieces-cons c cs (Text Quoted))
    ∙ ap (λ (s : Step). prefixed word (spelled (written s.output c (words_next s.next (pieces_from cs)))))
    (plain_step (Text Quoted) c plain)
    ∙ prefixed_onto c word (pieces_from cs (Text Quoted))

-- a backslash
slash_on : (c : ℕ) (cs word : List ℕ) → c ≡ 92 → prefixed word (spelled (pieces_from (c ∷ cs) (Text Quoted)))
    ≡ prefixed word (spelled (pieces_from cs (Escaped Quoted Backslash)))
slash_on c cs word slash =
    ap (λ b. prefixed word (spelled (pieces_from (b ∷ cs) (Text Quoted)))) slash
    ∙ ap (λ l. prefixed word (spelled l)) (pieces-cons 92 cs (Text Quoted))

-- a character beyond ASCII stands for itself, behind a backslash too
high_on : (behind : Bool) (c : ℕ) (cs word : List ℕ) → 128 ≤ c →
    prefixed word (spelled (pieces_from (c ∷ cs) (stage_behind behind)))
    ≡ prefixed (word ++ encode_utf8 c) (spelled (pieces_from cs (Text Quoted)))
high_on true c cs word high = pair_on c c cs word (high_gives c high)
high_on false c cs word high = plain_on c cs word (high_quoted c high)

-- and so do its bytes
high_front : (behind : Bool) (bs more : List ℕ) → AllHigh bs → 0 < length bs →
    is_quoted_from behind (bs ++ more) ≡ true → is_quoted_from false more ≡ true
high_front true [] more h some q = absurd (omega arith)
high_front false [] more h some q = absurd (omega arith)
high_front true (b ∷ bs) more h some q =
    sym (run_quoted bs more (high_plain bs h.1)) ∙ (both_true (is_some (pair_gives b)) _ q).1
high_front false (b ∷ bs) more h some q = sym (run_quoted (b ∷ bs) more (high_plain (b ∷ bs) h)) ∙ q

high_spelled : (behind : Bool) (bs more : List ℕ) → AllHigh bs → 0 < length bs →
    unquoted_from behind (bs ++ more) ≡ bs ++ unquoted_from false more
high_spelled true [] more h some = absurd (omega arith)
high_spelled false [] more h some = absurd (omega arith)
high_spelled true (b ∷ bs) more h some =
    ap (λ x. x ∷ unquoted_from false (bs ++ more)) (high_letter b h.0)
    ∙ ap (λ l. b ∷ l) (run_unquoted bs more (high_plain bs h.1))
high_spelled false (b ∷ bs) more h some = run_unquoted (b ∷ bs) more (high_plain (b ∷ bs) h)

some_of : (found : Option ℕ) → is_some found ≡ true → (d : ℕ) × (found ≡ Some d)
some_of None h = absurd (true≢false (sym h))
some_of (Some d) h = (d, refl)

-- the byte that a pair gives
pair_byte : (c d : ℕ) → c < 128 → pair_gives c ≡ Some d → encode_utf8 d ≡ letter_value c ∷ []
pair_byte c d low gives =
    let same = pair_value c d gives in
    ap encode_utf8 same ∙ encode_ascii (letter_value c) (low_letter c low)

onto_nil : (word : List ℕ) (b : ℕ) (one more : List ℕ) → one ≡ b ∷ [] → (word ++ one) ++ more ≡ word ++ b ∷ more
onto_nil word b one more is = append_assoc word one more ∙ ap (λ l. word ++ (l ++ more)) is

-- one character and those that follow, where these are known
module _ (cs rest : List ℕ)
    (next : (behind : Bool) (word : List ℕ) → is_quoted_from behind (encode_utf8_all cs) ≡ true →
    prefixed word (spelled (pieces_from (cs ++ rest) (stage_behind behind)))
    ≡ prefixed (word ++ unquoted_from behind (encode_utf8_all cs)) (spelled (pieces_from rest (Text Quoted)))) where
  abbrev more : List ℕ
  more = encode_utf8_all cs

  abbrev onto_rest : List ℕ → List (List ℕ)
  onto_rest word = prefixed word (spelled (pieces_from rest (Text Quoted)))

  high_next : (behind : Bool) (c : ℕ) (word : List ℕ) → 128 ≤ c → is_quoted_from behind (encode_utf8 c ++ more) ≡ true →
      prefixed word (spelled (pieces_from (c ∷ cs ++ rest) (stage_behind behind)))
      ≡ onto_rest (word ++ unquoted_from behind (encode_utf8 c ++ more))
  high_next behind c word high q =
      let bounds = len_utf8_bounds c in
      let some : 0 < length (encode_utf8 c) = omega (arith, length-encode c) in
      high_on behind c (cs ++ rest) word high
      ∙ next false (word ++ encode_utf8 c) (high_front behind (encode_utf8 c) more (high_bytes c high) some q)
      ∙ ap onto_rest (append_assoc word (encode_utf8 c) (unquoted_from false more)
      ∙ ap (λ l. word ++ l) (sym (high_spelled behind (encode_utf8 c) more (high_bytes c high) some)))

  low_next : (behind : Bool) (c : ℕ) (word : List ℕ) → c < 128 → is_quoted_from behind (c ∷ more) ≡ true →
      prefixed word (spelled (pieces_from (c ∷ cs ++ rest) (stage_behind behind)))
      ≡ onto_rest (word ++ unquoted_from behind (c ∷ more))
  low_next true c word low q =
      let both = both_true (is_some (pair_gives c)) _ q in
      let given = some_of (pair_gives c) both.0 in
      pair_on c given.0 (cs ++ rest) word given.1 ∙ next false (word ++ encode_utf8 given.0) both.1
      ∙ ap onto_rest (onto_nil word (letter_value c) (encode_utf8 given.0) (unquoted_from false more)
      (pair_byte c given.0 low given.1))
  low_next false c word low q =
      elim (c == 92) as (λ b. (c == 92) ≡ b →
      cond b (is_quoted_from true more) (is_quoted c && is_quoted_from false more) ≡ true → prefixed word (spelled (pieces_from (c ∷ cs ++ rest) (Text Quoted)))
      ≡ onto_rest (word ++ cond b (unquoted_from true more) (c ∷ unquoted_from false more))) [
        | true ↦ λ e i. slash_on c (cs ++ rest) word (grind (arith, nat_tests)) ∙ next true word i
        | false ↦ λ e i. let both = both_true (is_quoted c) _ i in
            plain_on c (cs ++ rest) word both.0 ∙ next false (word ++ encode_utf8 c) both.1
            ∙ ap onto_rest (onto_nil word c (encode_utf8 c) (unquoted_from false more) (encode_ascii c low))
      ] refl q

-- the words of such characters and of what follows
quoted_on : (behind : Bool) (cs rest word : List ℕ) → is_quoted_from behind (encode_utf8_all cs) ≡ true →
    prefixed word (spelled (pieces_from (cs ++ rest) (stage_behind behind)))
    ≡ prefixed (word ++ unquoted_from behind (encode_utf8_all cs)) (spelled (pieces_from rest (Text Quoted)))
quoted_on true [] rest word q = absurd (true≢false (sym q))
quoted_on false [] rest word q = ap (λ l. prefixed l (spelled (pieces_from rest (Text Quoted)))) (sym (append-nil word))
quoted_on behind (c ∷ cs) rest word q = ⊎_elim
    (λ low. let is = ap (λ l. l ++ encode_utf8_all cs) (encode_ascii c low) in
    low_next cs rest (λ b w. quoted_on b cs rest w) behind c word low (ap (is_quoted_from behind) (sym is) ∙ q)
    ∙ ap (λ l. prefixed (word ++ unquoted_from behind l) (spelled (pieces_from rest (Text Quoted)))) (sym is))
    (λ high. high_next cs rest (λ b w. quoted_on b cs rest w) behind c word high q)
    (below_or c)

-- the words of a text that begins with such bytes, which end between characters
pub quoted_words : (bytes : List ℕ) (n : ℕ) → IsUtf8 bytes → IsCharBoundary bytes n →
    is_quoted_text (take n bytes) ≡ true →
    spelled (pieces_from (chars bytes) (Text Quoted))
    ≡ prefixed (unquoted (take n bytes)) (spelled (pieces_from (chars (drop n bytes)) (Text Quoted)))
quoted_words bytes n u boundary quoted =
    let front = IsUtf8-take bytes n u boundary in
    let same = encodes-chars (take n bytes) front in
    ap (λ l. spelled (pieces_from l (Text Quoted))) (ap chars (sym (take-append-drop n bytes))
    ∙ chars-append (take n bytes) (drop n bytes) front)
    ∙ sym (prefixed_nil (spelled (pieces_from (chars (take n bytes) ++ chars (drop n bytes)) (Text Quoted))))
    ∙ quoted_on false (chars (take n bytes)) (chars (drop n bytes)) [] (ap is_quoted_text same ∙ quoted)
    ∙ ap (λ l. prefixed (unquoted l) (spelled (pieces_from (chars (drop n bytes)) (Text Quoted)))) same

-- Steps of the loop that writes what such a text spells.

module _ (rest slice after word new target : List ℕ) (same : slice ≡ rest) (quoted : is_quoted_text rest ≡ true)
    (before : word ++ unquoted rest ≡ target) where
  abbrev Passed : Type 0
  Passed = (is_quoted_text after ≡ true) × (new ++ unquoted after ≡ target)

  pub run_passed : (n : ℕ) → ((k : ℕ) → k < n → is_quoted (get_or slice k 0) ≡ true) → after ≡ drop n rest →
      new ≡ word ++ take n rest → Passed
  run_passed n plain left more =
      let run = all_plain n rest (Text Quoted) (λ k p. ap (λ l. is_quoted (get_or l k 0)) (sym same) ∙ plain k p) in
      let all = take-append-drop n rest in (
        ap is_quoted_text left ∙ sym (run_quoted (take n rest) (drop n rest) run) ∙ ap is_quoted_text all ∙ quoted,
        ap (λ l. new ++ unquoted l) left ∙ ap (λ l. l ++ unquoted (drop n rest)) more
            ∙ append_assoc word (take n rest) (unquoted (drop n rest))
            ∙ ap (λ l. word ++ l) (sym (run_unquoted (take n rest) (drop n rest) run) ∙ ap unquoted all) ∙ before,
      )

  -- the first two bytes
  pair_split : 2 ≤ length slice → get_or slice 0 0 ≡ 92 → rest ≡ 92 ∷ get_or slice 1 0 ∷ drop 2 rest
  pair_split long slash =
      let within : 1 < length rest = omega (arith, ap length same) in
      drop_more rest 0 0 (omega arith)
      ∙ ap (λ b. b ∷ drop 1 rest) (ap (λ l. get_or l 0 0) (sym same) ∙ slash)
      ∙ ap (λ l. 92 ∷ l) (drop_more rest 1 0 within ∙ ap (λ b. b ∷ drop 2 rest) (ap (λ l. get_or l 1 0) (sym same)))

  pub pair_passed : (d : ℕ) → 2 ≤ length slice → get_or slice 0 0 ≡ 92 → get_or slice 1 0 ≤ 127 →
      pair_gives (get_or slice 1 0) ≡ Some d → after ≡ drop 2 rest → new ≡ word ++ encode_utf8 d → Passed
  pair_passed d long slash low gives left more =
      let c = get_or slice 1 0 in
      let split = pair_split long slash in (
        ap is_quoted_text left
            ∙ (both_true (is_some (pair_gives c)) _ (ap is_quoted_text (sym split) ∙ quoted)).1,
        ap (λ l. new ++ unquoted l) left ∙ ap (λ l. l ++ unquoted (drop 2 rest)) more
            ∙ onto_nil word (letter_value c) (encode_utf8 d) (unquoted (drop 2 rest))
            (pair_byte c d (omega arith) gives)
            ∙ ap (λ l. word ++ unquoted l) (sym split) ∙ before,
      )

  pub slash_passed : 2 ≤ length slice → get_or slice 0 0 ≡ 92 → 127 < get_or slice 1 0 → after ≡ drop 1 rest →
      new ≡ word → Passed
  slash_passed long slash high left more =
      let c = get_or slice 1 0 in
      let split = pair_split long slash in
      let behind : after ≡ c ∷ drop 2 rest = left ∙ ap (drop 1) split in
      let plain = high_quoted c (omega arith) in
      let is_one = no_slash c plain in (
        ap is_quoted_text behind ∙ cond-false (c == 92) _ _ is_one
            ∙ and_true _ _ plain (both_true (is_some (pair_gives c)) _ (ap is_quoted_text (sym split) ∙ quoted)).1,
        ap (λ l. new ++ unquoted l) behind ∙ ap (λ l. l ++ unquoted (c ∷ drop 2 rest)) more
            ∙ ap (λ l. word ++ l) (cond-false (c == 92) _ _ is_one
            ∙ ap (λ b. b ∷ unquoted (drop 2 rest)) (sym (high_letter c (omega arith))))
            ∙ ap (λ l. word ++ unquoted l) (sym split) ∙ before,
      )

-- A backslash before a character beyond ASCII adds nothing.

slash_chars : (cs bytes word : List ℕ) → encode_utf8_all cs ≡ bytes → 0 < length bytes → 128 ≤ get_or bytes 0 0 →
    prefixed word (spelled (pieces_from (92 ∷ cs) (Text Quoted)))
    ≡ prefixed word (spelled (pieces_from cs (Text Quoted)))
slash_chars [] bytes word is some high = absurd (omega (arith, ap length is))
slash_chars (c ∷ cs) bytes word is some high = ⊎_elim
    (λ low. let first = ap (λ l. get_or (l ++ encode_utf8_all cs) 0 0) (sym (encode_ascii c low))
    ∙ ap (λ l. get_or l 0 0) is in absurd (omega arith))
    (λ above. slash_on 92 (c ∷ cs) word refl ∙ pair_on c c cs word (high_gives c above)
    ∙ sym (plain_on c cs word (high_quoted c above)))
    (below_or c)

pub slash_kept : (text slice rest word : List ℕ) → slice ≡ text → IsUtf8 rest → 2 ≤ length slice →
    get_or slice 0 0 ≡ 92 → 127 < get_or slice 1 0 → rest ≡ drop 1 text
    → words_on word text (Text Quoted) ≡ words_on word rest (Text Quoted)
slash_kept text slice rest word same u long slash high left =
    let within : 1 < length text = omega (arith, ap length same) in
    let split : text ≡ 92 ∷ rest = drop_more text 0 0 (omega arith)
    ∙ ap (λ b. b ∷ drop 1 text) (ap (λ l. get_or l 0 0) (sym same) ∙ slash)
    ∙ ap (λ l. 92 ∷ l) (sym left) in
    let first : get_or slice 1 0 ≡ get_or rest 0 0 = ap (λ l. get_or l 1 0) (same ∙ split) in
    let some : suc (length rest) ≡ length text = sym (ap length split) in
    ap (λ l. prefixed word (spelled (pieces_from l (Text Quoted)))) (ap chars split ∙ ascii_cons 92 rest (omega arith))
    ∙ slash_chars (chars rest) rest word (encodes-chars rest u) (omega arith) (omega arith)

pub slash_boundary : (text slice : List ℕ) → slice ≡ text → IsUtf8 text → 2 ≤ length slice → get_or slice 0 0 ≡ 92 →
    IsCharBoundary text 1
slash_boundary text slice same u long slash =
    IsCharBoundary-after_ascii text 0 u (omega (arith, ap length same))
    (omega (arith, ap (λ l. get_or l 0 0) same, slash))
