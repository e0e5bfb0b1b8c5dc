-- Runs of characters that go onto a word as they are.
use Rattle.tcl_words.proofs.Common.{◌≡◌, ℕ, zero, suc, ◌+◌, ◌-◌, ◌<◌, ◌≤◌, ⊎_elim, Bool, true, false, cond, ◌||◌, ◌==◌}
use Rattle.tcl_words.proofs.Common.{IsUtf8, IsCharBoundary, List, [], ◌∷◌, ◌++◌, length, take, drop, get_or, chars}
use Rattle.tcl_words.proofs.Common.{encode_utf8, encode_utf8_all, refl, sym, ap, ◌∙◌, arith, subst, true≢false}
use Rattle.tcl_words.proofs.Common.{length-take, take-append-drop, ⊤, slice_range, len_utf8, nat_tests, leb_tells}
use Rattle.tcl_words.proofs.Common.{drop-drop, drop_more, drop-append_seam, IsCharBoundary-past_char, encode_ascii}
use Rattle.tcl_words.proofs.Common.{length-encode, len_utf8_bounds, encodes-chars, chars-append, IsUtf8-take}
use Rattle.tcl_words.proofs.Common.{IsCharBoundary-end, IsCharBoundary-before_ascii, is_end, is_blank, is_ordinary}
use Rattle.tcl_words.proofs.Common.{is_plain, begins_word, begins_command, begun, keeps, closes, text_step, step_of}
use Rattle.tcl_words.proofs.Common.{later, scan_next, scanned, TextWord, Bare, Quoted, Stage, Step, Go, End, cond-false}
use Rattle.tcl_words.proofs.Common.{cond-true}
use Rattle.tcl_words.proofs.Verdicts.{scanned-cons}
use Rattle.tcl_words.proofs.Spelling.{below_or, later-later, later-zero}
use Rattle.tcl_words.specs.declared.stage.Stage.TheVariants as stages

-- an ordinary character keeps the stage

plain_if : (test plain : Bool) (s t : Step) (stage : Stage) → cond test false plain ≡ true →
    (plain ≡ true → t ≡ keeps stage) → cond test s t ≡ keeps stage
plain_if true plain s t stage h k = absurd (true≢false (sym h))
plain_if false plain s t stage h k = k h

plain_text : (word : TextWord) (c : ℕ) → is_ordinary c ≡ true → text_step word c ≡ keeps (stages.Text word)
plain_text word c h =
    plain_if (c == 91) _ _ _ _ h (λ i. plain_if (c == 36) _ _ _ _ i (λ j. plain_if (c == 92) _ _ _ _ j (λ k. refl)))

pub plain_step : (stage : Stage) (c : ℕ) → is_plain stage c ≡ true → step_of stage c ≡ keeps stage
plain_step (stages.Text Bare) c h =
    plain_if (is_end c) _ _ _ _ h (λ i. plain_if (is_blank c) _ _ _ _ i (λ j.
    plain_if (c == 92) _ _ _ _ j (λ k. plain_text Bare c k)))
plain_step (stages.Text Quoted) c h = plain_if (c == 34) _ _ _ _ h (λ i. plain_text Quoted c i)
plain_step (stages.Braced depth) c h =
    plain_if (c == 125) _ _ _ _ h (λ i. plain_if (c == 123) _ _ _ _ i (λ j. plain_if (c == 92) _ _ _ _ j (λ k. refl)))
plain_step stage c h = absurd (true≢false (sym h))

abbrev pub AllPlain : Stage → List ℕ → Type 0
AllPlain stage [] = ⊤
AllPlain stage (c ∷ cs) = (is_plain stage c ≡ true) × AllPlain stage cs

pub all_plain : (m : ℕ) (xs : List ℕ) (stage : Stage) → ((k : ℕ) → k < m → is_plain stage (get_or xs k 0) ≡ true) →
    AllPlain stage (take m xs)
all_plain zero xs stage h = tt
all_plain (suc m) [] stage h = tt
all_plain (suc m) (x ∷ xs) stage h = (h 0 (omega arith), all_plain m xs stage (λ k p. h (suc k) (omega arith)))

-- a scan passes a run
scan_run : (run rest : List ℕ) (stage : Stage) → AllPlain stage run →
    scanned (run ++ rest) stage ≡ later (length run) (scanned rest stage)
scan_run [] rest stage h = sym (later-zero (scanned rest stage))
scan_run (c ∷ run) rest stage h =
    scanned-cons c (run ++ rest) stage ∙ ap (λ (s : Step). scan_next s.next (scanned (run ++ rest)))
    (plain_step stage c h.0)
    ∙ ap (later 1) (scan_run run rest stage h.1) ∙ later-later 1 (length run) (scanned rest stage)
    ∙ ap (λ n. later n (scanned rest stage)) (let e : 1 + length run ≡ suc (length run) = omega arith in e)

scan_passes : (bytes : List ℕ) (i n : ℕ) (stage : Stage) → n ≤ length (drop i bytes) →
    ((k : ℕ) → k < n → is_plain stage (get_or (drop i bytes) k 0) ≡ true)
    → scanned (drop i bytes) stage ≡ later n (scanned (drop (i + n) bytes) stage)
scan_passes bytes i n stage long plain =
    let all : length (take n (drop i bytes)) ≡ n = omega (arith, length-take n (drop i bytes)) in
    ap (λ l. scanned l stage) (sym (take-append-drop n (drop i bytes)))
    ∙ scan_run (take n (drop i bytes)) (drop n (drop i bytes)) stage (all_plain n (drop i bytes) stage plain)
    ∙ ap (λ m. later m (scanned (drop n (drop i bytes)) stage)) all
    ∙ ap (λ l. later n (scanned l stage)) (drop-drop n i bytes)

-- the same of a slice of the bytes from i on
pub scan_skips : (bytes slice : List ℕ) (i n : ℕ) (stage : Stage) → slice ≡ drop i bytes → n ≤ length slice →
    ((k : ℕ) → k < n → is_plain stage (get_or slice k 0) ≡ true)
    → (scanned (drop i bytes) stage ≡ later n (scanned (drop (i + n) bytes) stage)) × (n ≤ length (drop i bytes))
scan_skips bytes slice i n stage same long plain =
    let all : n ≤ length (drop i bytes) = omega (arith, ap length same) in
    (scan_passes bytes i n stage all (λ k h. ap (λ l. is_plain stage (get_or l k 0)) (sym same) ∙ plain k h), all)

-- the characters of a run

plain_split : (stage : Stage) (xs ys : List ℕ) → AllPlain stage (xs ++ ys) → AllPlain stage xs × AllPlain stage ys
plain_split stage [] ys h = (tt, h)
plain_split stage (x ∷ xs) ys h = let k = plain_split stage xs ys h.1 in ((h.0, k.0), k.1)

high_plain : (stage : Stage) (b c : ℕ) → 128 ≤ c → is_plain stage b ≡ true → is_plain stage c ≡ true
high_plain (stages.Text Bare) b c h k = grind (arith, nat_tests)
high_plain (stages.Text Quoted) b c h k = grind (arith, nat_tests)
high_plain (stages.Braced depth) b c h k = grind (arith, nat_tests)
high_plain stage b c h k = k

plain_first : (stage : Stage) (bs : List ℕ) (c : ℕ) → 0 < length bs → AllPlain stage bs → 128 ≤ c →
    is_plain stage c ≡ true
plain_first stage [] c some h high = absurd (omega arith)
plain_first stage (b ∷ bs) c some h high = high_plain stage b c high h.0

plain_char : (stage : Stage) (c : ℕ) → AllPlain stage (encode_utf8 c) → is_plain stage c ≡ true
plain_char stage c h = ⊎_elim
    (λ low. (subst (AllPlain stage) (encode_ascii c low) h).0)
    (λ high. plain_first stage (encode_utf8 c) c (let bounds = len_utf8_bounds c in
    omega (arith, length-encode c)) h high)
    (below_or c)

plain_chars : (stage : Stage) (cs : List ℕ) → AllPlain stage (encode_utf8_all cs) → AllPlain stage cs
plain_chars stage [] h = tt
plain_chars stage (c ∷ cs) h =
    let k = plain_split stage (encode_utf8 c) (encode_utf8_all cs) h in
    (plain_char stage c k.0, plain_chars stage cs k.1)

-- A run of a text ends between characters.
pub run_boundary : (bytes : List ℕ) (n : ℕ) → IsUtf8 bytes → 0 < n → n ≤ length bytes →
    (0 < n → n < length bytes → get_or bytes n 0 < 128) → IsCharBoundary bytes n
run_boundary bytes n u some within end = ⊎_elim
    (λ all. let same : length bytes ≡ n = omega arith in subst (IsCharBoundary bytes) same (IsCharBoundary-end bytes))
    (λ less. IsCharBoundary-before_ascii bytes n less.1 (end some less.1))
    (leb_tells (length bytes) n)

-- the characters of the run and of what follows
pub record RunOf (stage : Stage) (bytes : List ℕ) (n : ℕ) : Type 0 where
  pub run : List ℕ
  pub plain : AllPlain stage run
  pub spelled : take n bytes ≡ encode_utf8_all run
  pub split : chars bytes ≡ run ++ chars (drop n bytes)

pub run_of : (stage : Stage) (bytes : List ℕ) (n : ℕ) → IsUtf8 bytes → IsCharBoundary bytes n →
    ((k : ℕ) → k < n → is_plain stage (get_or bytes k 0) ≡ true) → RunOf stage bytes n
run_of stage bytes n u b plain =
    let front = IsUtf8-take bytes n u b in
    let same = encodes-chars (take n bytes) front in
    record {
      run = chars (take n bytes);
      plain =
          plain_chars stage (chars (take n bytes)) (subst (AllPlain stage) (sym same) (all_plain n bytes stage plain));
      spelled = sym same;
      split = ap chars (sym (take-append-drop n bytes)) ∙ chars-append (take n bytes) (drop n bytes) front;
    }

-- a run at the front of a text, by its bytes
pub run_at : (stage : Stage) (rest slice : List ℕ) (n : ℕ) → slice ≡ rest → IsUtf8 rest → 0 < n → n ≤ length slice →
    ((k : ℕ) → k < n → is_plain stage (get_or slice k 0) ≡ true)
    → (0 < n → n < length slice → get_or slice n 0 < 128) → IsCharBoundary rest n × RunOf stage rest n
run_at stage rest slice n same u some within plain end =
    let long = ap length same in
    let boundary = run_boundary rest n u some (omega arith) (λ p q. let low = end p (omega arith) in
    omega (arith, ap (λ l. get_or l n 0) same)) in
    (boundary, run_of stage rest n u boundary (λ k p. ap (λ l. is_plain stage (get_or l k 0)) (sym same) ∙ plain k p))

-- the front of a slice
pub front_range : (n : ℕ) (xs : List ℕ) → slice_range xs 0 n ≡ take n xs
front_range n xs = let e : n - 0 ≡ n = omega arith in rw e refl

-- a text after its first character
pub char_boundary : (rest after : List ℕ) (c n : ℕ) → IsUtf8 rest → rest ≡ encode_utf8 c ++ after → n ≡ len_utf8 c →
    IsCharBoundary rest n
char_boundary rest after c n u split long =
    let e : 0 + len_utf8 c ≡ n = omega arith in
    subst (IsCharBoundary rest) e (IsCharBoundary-past_char rest after 0 c (omega arith) u split)

pub after_char : (rest after : List ℕ) (c n : ℕ) → rest ≡ encode_utf8 c ++ after → n ≡ length (encode_utf8 c) →
    drop n rest ≡ after
after_char rest after c n split long =
    ap (drop n) split ∙ ap (λ m. drop m (encode_utf8 c ++ after)) long ∙ drop-append_seam (encode_utf8 c) after

pub none_left : (xs : List ℕ) (test : Bool) → test ≡ (length xs == 0) → test ≡ true → length xs ≡ 0
none_left xs test h k = grind (arith, nat_tests)

-- a bare word that a character begins, taken as begun before it

kept_false : (test plain : Bool) → cond test false plain ≡ true → (test ≡ false) × (plain ≡ true)
kept_false true plain h = absurd (true≢false (sym h))
kept_false false plain h = (refl, h)

word_begins : (c : ℕ) → begins_word c ≡ true → step_of stages.BeforeWord c ≡ step_of (stages.Text Bare) c
word_begins c h =
    let brace = kept_false (c == 123) _ h in
    let quote = kept_false (c == 34) _ brace.1 in
    let end = kept_false (is_end c) _ quote.1 in
    let blank = kept_false (is_blank c) _ end.1 in
    let slash = kept_false (c == 92) _ blank.1 in
    cond-false (is_end c) _ _ end.0 ∙ cond-false (is_blank c) _ _ blank.0 ∙ cond-false (c == 92) _ _ slash.0
    ∙ cond-false (c == 123) _ _ brace.0
    ∙ cond-false (c == 34) _ _ quote.0
    ∙ sym (cond-false (is_end c) _ _ end.0 ∙ cond-false (is_blank c) _ _ blank.0
    ∙ cond-false (c == 92) _ _ slash.0)

either_false : (a b : Bool) → a ≡ false → b ≡ false → a || b ≡ false
either_false a b h k = ap (λ x. x || b) h ∙ k

command_begins : (c : ℕ) → begins_command c ≡ true → step_of stages.BeforeCommand c ≡ step_of (stages.Text Bare) c
command_begins c h =
    let hash = kept_false (c == 35) _ h in
    let word = hash.1 in
    let brace = kept_false (c == 123) _ word in
    let quote = kept_false (c == 34) _ brace.1 in
    let end = kept_false (is_end c) _ quote.1 in
    let blank = kept_false (is_blank c) _ end.1 in
    let slash = kept_false (c == 92) _ blank.1 in
    cond-false (is_end c || is_blank c) _ _ (either_false (is_end c) (is_blank c) end.0 blank.0)
    ∙ cond-false (c == 92) _ _ slash.0
    ∙ cond-false (c == 35) _ _ hash.0 ∙ word_begins c word

pub begun_step : (stage : Stage) (c : ℕ) → step_of stage c ≡ step_of (begun stage c) c
begun_step stages.BeforeCommand c =
    elim (begins_command c) as (λ b. begins_command c ≡ b →
    step_of stages.BeforeCommand c ≡ step_of (cond b (stages.Text Bare) stages.BeforeCommand) c)
    [ true ↦ λ is. command_begins c is | false ↦ λ isn't. refl ] refl
begun_step stages.BeforeWord c =
    elim (begins_word c) as (λ b. begins_word c ≡ b → step_of stages.BeforeWord c
    ≡ step_of (cond b (stages.Text Bare) stages.BeforeWord) c)
    [ true ↦ λ is. word_begins c is | false ↦ λ isn't. refl ] refl
begun_step stage c = refl

here_step : (stage here : Stage) (c d : ℕ) → here ≡ begun stage c → c ≡ d → step_of stage d ≡ step_of here d
here_step stage here c d is same = begun_step stage d ∙ ap (λ s. step_of s d) (ap (begun stage) (sym same) ∙ sym is)

-- a scan goes on from there
pub scan_begun : (bytes : List ℕ) (i : ℕ) (stage here : Stage) (c : ℕ) → i < length bytes → here ≡ begun stage c →
    c ≡ get_or bytes i 0
    → scanned (drop i bytes) stage ≡ scanned (drop i bytes) here
scan_begun bytes i stage here c h is same =
    let split = drop_more bytes i 0 h in
    ap (λ l. scanned l stage) split ∙ scanned-cons (get_or bytes i 0) (drop (i + 1) bytes) stage
    ∙ ap (λ (s : Step). scan_next s.next (scanned (drop (i + 1) bytes)))
    (here_step stage here c (get_or bytes i 0) is same)
    ∙ sym (scanned-cons (get_or bytes i 0) (drop (i + 1) bytes) here) ∙ sym (ap (λ l. scanned l here) split)

-- a character whose first byte begins a bare word does so too

high_step : (stage : Stage) (b c : ℕ) → 128 ≤ c → step_of stage c ≡ step_of (begun stage b) c
high_step stages.BeforeCommand b c h =
    elim (begins_command b) as (λ x. step_of stages.BeforeCommand c
    ≡ step_of (cond x (stages.Text Bare) stages.BeforeCommand) c)
    [ true ↦ command_begins c (grind (arith, nat_tests)) | false ↦ refl ]
high_step stages.BeforeWord b c h =
    elim (begins_word b) as (λ x. step_of stages.BeforeWord c ≡ step_of (cond x (stages.Text Bare) stages.BeforeWord) c)
    [ true ↦ word_begins c (grind (arith, nat_tests)) | false ↦ refl ]
high_step stage b c h = refl

pub char_step : (stage here : Stage) (b c : ℕ) (more : List ℕ) → here ≡ begun stage b →
    b ≡ get_or (encode_utf8 c ++ more) 0 0 → step_of stage c ≡ step_of here c
char_step stage here b c more is first = ⊎_elim
    (λ low. here_step stage here b c is (first ∙ ap (λ l. get_or (l ++ more) 0 0) (encode_ascii c low)))
    (λ high. high_step stage b c high ∙ ap (λ s. step_of s c) (sym is))
    (below_or c)

-- what ends a bare word

pub blank_step : (c : ℕ) → is_blank c ≡ true → is_end c ≡ false →
    step_of (stages.Text Bare) c ≡ closes (Go stages.BeforeWord)
blank_step c blank end = cond-false (is_end c) _ _ end ∙ cond-true (is_blank c) _ _ blank

pub end_step : (c : ℕ) → is_end c ≡ true → step_of (stages.Text Bare) c ≡ closes End
end_step c end = cond-true (is_end c) _ _ end
