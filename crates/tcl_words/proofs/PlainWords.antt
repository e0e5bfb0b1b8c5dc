-- Words that stand in a command as they are, step by step.
use Rattle.tcl_words.proofs.Common.{◌≡◌, ◌+◌, ◌-◌, ◌<◌, ◌==◌, ℕ, suc, ⊎_elim, get_or, IsUtf8, Bool, true, false, Option}
use Rattle.tcl_words.proofs.Common.{Some, None, IfSome, List, [], ◌∷◌, ◌++◌, map, length, take, drop, chars}
use Rattle.tcl_words.proofs.Common.{encode_utf8, encode_utf8_all, refl, sym, ap, ◌∙◌, arith, subst, append-nil}
use Rattle.tcl_words.proofs.Common.{nat_tests, slice_range, encode_ascii, encodes-chars, IsUtf8-take, IsUtf8-drop}
use Rattle.tcl_words.proofs.Common.{IsCharBoundary-before_ascii, IsCharBoundary-after_ascii, drop_more, is_end}
use Rattle.tcl_words.proofs.Common.{is_blank, step_of, closes, no_output, prefixed, later, scan_next, scanned, written}
use Rattle.tcl_words.proofs.Common.{words_next, pieces_from, is_plain, is_bare, is_quoted, is_braced, begun}
use Rattle.tcl_words.proofs.Common.{scan_behind, words_behind, spelled_from, EndsWord, IsPlainWord, IsClosed, Bare}
use Rattle.tcl_words.proofs.Common.{IsFoundWord, IsWordText, spelled_by, is_quoted_text, IsCharBoundary, length-drop}
use Rattle.tcl_words.proofs.Common.{drop-drop, ltb, Quoted, Closing, Brace, Quote, Stage, BeforeWord, Text}
use Rattle.tcl_words.proofs.Common.{AfterOpening, Braced, Step, Next, Go, End, ne_eqb, cond-false, cond-true, PlainWord}
use Rattle.tcl_words.specs.declared.stage.Stage.TheVariants.{Behind}
use Rattle.tcl_words.proofs.Verdicts.{scanned-cons, pieces-cons}
use Rattle.tcl_words.proofs.Spelling.{below_or, later-later}
use Rattle.tcl_words.proofs.Plain.{scan_skips, scan_begun, run_of, RunOf, front_range, blank_step, end_step}
use Rattle.tcl_words.proofs.QuotedTexts.{quoted_words, run_and_front}
use Rattle.tcl_words.proofs.Writing.{spelled, prefixed_nil, run_written, pieces_begun, ascii_cons}

-- what ends a word, and the command where it is the last
abbrev pub next_of : Bool → Next
next_of true = End
next_of false = Go BeforeWord

behind_scan : (last : Bool) (n : ℕ) (rest : List ℕ) → later n (scan_next (next_of last) (scanned rest))
    ≡ scan_behind last (n + 1) rest
behind_scan true n rest = refl
behind_scan false n rest = later-later n 1 (scanned rest BeforeWord)

behind_words : (last : Bool) (rest : List ℕ) → words_next (next_of last) (pieces_from (chars rest))
    ≡ words_behind last rest
behind_words true rest = refl
behind_words false rest = refl

-- a front that leaves the stage as it is, and what ends its word
run_closes : (bytes : List ℕ) (n : ℕ) (stage : Stage) (next : Next) → n < length bytes →
    scanned bytes stage ≡ later n (scanned (drop n bytes) stage) → step_of stage (get_or bytes n 0) ≡ closes next
    → scanned bytes stage ≡ later n (scan_next next (scanned (drop (n + 1) bytes)))
run_closes bytes n stage next within passes ends =
    passes
    ∙ ap (later n) (ap (λ l. scanned l stage) (drop_more bytes n 0 within)
    ∙ scanned-cons (get_or bytes n 0) (drop (n + 1) bytes) stage
    ∙ ap (λ (s : Step). scan_next s.next (scanned (drop (n + 1) bytes))) ends)

-- the words of such a front, of what ends its word, and of what follows
run_words : (bytes text : List ℕ) (n : ℕ) (stage : Stage) (next : Next) →
    spelled_from bytes stage ≡ prefixed text (spelled_from (drop n bytes) stage) → n < length bytes →
    get_or bytes n 0 < 128 → step_of stage (get_or bytes n 0) ≡ closes next
    → spelled_from bytes stage ≡ text ∷ spelled (words_next next (pieces_from (chars (drop (n + 1) bytes))))
run_words bytes text n stage next said within low ends =
    let c = get_or bytes n 0 in
    let after = chars (drop (n + 1) bytes) in
    let split : chars (drop n bytes) ≡ c ∷ after = ap chars (drop_more bytes n 0 within)
    ∙ ascii_cons c (drop (n + 1) bytes) low in
    said
    ∙ ap (λ l. prefixed text (spelled (pieces_from l stage))) split
    ∙ ap (λ l. prefixed text (spelled l)) (pieces-cons c after stage)
    ∙ ap (λ (s : Step). prefixed text (spelled (written s.output c (words_next s.next (pieces_from after))))) ends
    ∙ ap (λ l. l ∷ spelled (words_next next (pieces_from after))) (append-nil text)

-- a run is such a front
run_passes : (bytes : List ℕ) (n : ℕ) (stage : Stage) → n < length bytes →
    ((k : ℕ) → k < n → is_plain stage (get_or bytes k 0) ≡ true)
    → scanned bytes stage ≡ later n (scanned (drop n bytes) stage)
run_passes bytes n stage within plain =
    (scan_skips bytes bytes 0 n stage refl (omega arith) plain).0
    ∙ ap (λ m. later n (scanned (drop m bytes) stage)) (let e : 0 + n ≡ n = omega arith in e)

run_said : (bytes : List ℕ) (n : ℕ) (stage : Stage) → RunOf stage bytes n →
    spelled_from bytes stage ≡ prefixed (take n bytes) (spelled_from (drop n bytes) stage)
run_said bytes n stage run =
    ap (λ l. spelled (pieces_from l stage)) run.split
    ∙ sym (prefixed_nil (spelled (pieces_from (run.run ++ chars (drop n bytes)) stage)))
    ∙ run_written stage run.run (chars (drop n bytes)) [] run.plain
    ∙ ap (λ l. prefixed l (spelled (pieces_from (chars (drop n bytes)) stage))) (sym run.spelled)

-- a bare word
bare_is : (stage here : Stage) (bytes : List ℕ) (c n : ℕ) (last : Bool) → here ≡ begun stage c → c ≡ get_or bytes 0 0 →
    here ≡ Text Bare → n < length bytes
    → ((k : ℕ) → k < n → is_plain here (get_or bytes k 0) ≡ true) → get_or bytes n 0 < 128 →
    step_of (Text Bare) (get_or bytes n 0) ≡ closes (next_of last)
    → IsPlainWord stage bytes (record { from = 0; to = n; len = n + 1; is_last = last; has_escapes = false })
bare_is stage here bytes c n last is first bare within plain low ends =
    let some : 0 < length bytes = omega arith in
    let is_plain_word : (k : ℕ) → k < n → is_plain (Text Bare) (get_or bytes k 0)
    ≡ true = λ k p. ap (λ s. is_plain s (get_or bytes k 0)) (sym bare) ∙ plain k p in
    record {
      order = omega arith;
      inside = omega arith;
      within = omega arith;
      flag = refl;
      scans = scan_begun bytes 0 stage here c some is first ∙ ap (scanned bytes) bare
          ∙ run_closes bytes n (Text Bare) (next_of last) within
          (run_passes bytes n (Text Bare) within is_plain_word) ends
          ∙ behind_scan last n (drop (n + 1) bytes);
      text = λ u. subst IsUtf8 (sym (front_range n bytes))
          (IsUtf8-take bytes n u (IsCharBoundary-before_ascii bytes n within low));
      rest = λ u. IsUtf8-drop bytes (n + 1) u (IsCharBoundary-after_ascii bytes n u within low);
      escapes = tt;
      pieces = λ u.
          ap (map encode_utf8_all) (pieces_begun (chars bytes) bytes stage here c (encodes-chars bytes u) some is first
          ∙ ap (pieces_from (chars bytes)) bare)
          ∙ run_words bytes (take n bytes) n (Text Bare) (next_of last)
          (run_said bytes n (Text Bare)
          (run_of (Text Bare) bytes n u (IsCharBoundary-before_ascii bytes n within low) is_plain_word)) within low
          ends
          ∙ ap (λ l. take n bytes ∷ spelled l) (behind_words last (drop (n + 1) bytes))
          ∙ ap (λ l. l ∷ spelled (words_behind last (drop (n + 1) bytes))) (sym (front_range n bytes));
    }

-- what follows what closed a word
behind_is : (closing : Closing) (c : ℕ) (last : Bool) → EndsWord c last →
    step_of (Behind closing) c ≡ record { output = no_output; next = next_of last }
behind_is closing c true end = cond-true (is_end c) _ _ end
behind_is closing c false blank = cond-false (is_end c) _ _ blank.1 ∙ cond-true (is_blank c) _ _ blank.0

low_ends : (c : ℕ) (last : Bool) → EndsWord c last → c < 128
low_ends c true end = grind (arith, nat_tests)
low_ends c false blank = let is = blank.0 in grind (arith, nat_tests)

ends_step : (c : ℕ) (last : Bool) → EndsWord c last → step_of (Text Bare) c ≡ closes (next_of last)
ends_step c true end = end_step c end
ends_step c false blank = blank_step c blank.0 blank.1

pub bare_found : (stage : Stage) (bytes : List ℕ) (n : ℕ) (last : Bool) →
    (is_bare (get_or bytes 0 0) ≡ true → begun stage (get_or bytes 0 0) ≡ Text Bare)
    → 0 < n → n < length bytes → ((k : ℕ) → k < n → is_bare (get_or bytes k 0) ≡ true) →
    EndsWord (get_or bytes n 0) last
    → IsPlainWord stage bytes (record { from = 0; to = n; len = n + 1; is_last = last; has_escapes = false })
bare_found stage bytes n last opens some within plain ends =
    bare_is stage (Text Bare) bytes (get_or bytes 0 0) n last (sym (opens (plain 0 some))) refl refl within plain
    (low_ends (get_or bytes n 0) last ends) (ends_step (get_or bytes n 0) last ends)

-- What stands at the front of some bytes leaves the stage as it is, and is the text of a word.
record Fronts (bytes : List ℕ) (n : ℕ) (stage : Stage) (has_escapes : Bool) : Type 0 where
  passes : scanned bytes stage ≡ later n (scanned (drop n bytes) stage)
  escapes : IsWordText has_escapes (take n bytes)
  said : IsUtf8 bytes → IsCharBoundary bytes n → spelled_from bytes stage
      ≡ prefixed (spelled_by has_escapes (take n bytes)) (spelled_from (drop n bytes) stage)

abbrev closed_record : ℕ → Bool → Bool → PlainWord
closed_record n last has_escapes =
    record { from = 1; to = n + 1; len = n + 3; is_last = last; has_escapes = has_escapes }

-- A word between two bytes: what stands behind the first is read at a stage of its own.
closed_is : (o : ℕ) (ys : List ℕ) (n : ℕ) (inside : Stage) (closing : Closing) (last has_escapes : Bool) → o < 128
    → scanned (o ∷ ys) BeforeWord ≡ later 1 (scanned ys inside) →
    (IsUtf8 ys → pieces_from (o ∷ chars ys) BeforeWord ≡ pieces_from (chars ys) inside)
    → n + 1 < length ys → Fronts ys n inside has_escapes → get_or ys n 0 < 128 →
    step_of inside (get_or ys n 0) ≡ closes (Go (Behind closing))
    → EndsWord (get_or ys (n + 1) 0) last →
    IsFoundWord BeforeWord (o ∷ ys) (closed_record n last has_escapes) has_escapes
closed_is o ys n inside closing last has_escapes ascii opens opened within front low shuts ends =
    let b = get_or ys (n + 1) 0 in
    let text = spelled_by has_escapes (take n ys) in
    let rest = drop (n + 2) ys in
    let near : n < length ys = omega arith in
    let sum : n + 1 + 1 ≡ n + 2 = omega arith in
    let all : n + 3 ≡ suc (n + 2) = omega arith in
    let count : 1 + n + 1 + 1 ≡ n + 3 = omega arith in
    let cut : drop (n + 1) ys ≡ b ∷ rest = drop_more ys (n + 1) 0 within ∙ ap (λ m. b ∷ drop m ys) sum in
    let step = behind_is closing b last ends in
    let left : drop (n + 3) (o ∷ ys) ≡ rest = ap (λ m. drop m (o ∷ ys)) all in
    let content : slice_range (o ∷ ys) 1 (n + 1) ≡ take n ys = let e : n + 1 - 1 ≡ n = omega arith in
    ap (λ m. take m ys) e in
    let text_of : IsUtf8 (o ∷ ys) → IsUtf8 ys = λ u.
    IsUtf8-drop (o ∷ ys) 1 u (IsCharBoundary-after_ascii (o ∷ ys) 0 u (omega arith) ascii) in
    record {
      order = omega arith;
      inside = omega arith;
      within = omega arith;
      flag = refl;
      scans = opens ∙ ap (later 1) (run_closes ys n inside (Go (Behind closing)) near front.passes shuts)
          ∙ ap (λ l. later 1 (later n (later 1 (scanned l (Behind closing))))) cut
          ∙ ap (λ s. later 1 (later n (later 1 s))) (scanned-cons b rest (Behind closing)
          ∙ ap (λ (s : Step). scan_next s.next (scanned rest)) step)
          ∙ later-later 1 n (later 1 (scan_next (next_of last) (scanned rest)))
          ∙ later-later (1 + n) 1 (scan_next (next_of last) (scanned rest))
          ∙ behind_scan last (1 + n + 1) rest ∙ ap (λ m. scan_behind last m rest) count
          ∙ ap (scan_behind last (n + 3)) (sym left);
      text = λ u. subst IsUtf8 (sym content) (IsUtf8-take ys n (text_of u) (IsCharBoundary-before_ascii ys n near low));
      rest = λ u. subst IsUtf8 (ap (λ m. drop m ys) sum ∙ sym left)
          (let v = IsUtf8-drop ys (n + 1) (text_of u) (IsCharBoundary-after_ascii ys n (text_of u) near low) in
          let w : IsUtf8 (b ∷ rest) = subst IsUtf8 cut v in
          let x : IsUtf8 rest = IsUtf8-drop (b ∷ rest) 1 w
          (IsCharBoundary-after_ascii (b ∷ rest) 0 w (omega arith) (low_ends b last ends)) in
          subst (λ m. IsUtf8 (drop m ys)) (sym sum) x);
      escapes = subst (IsWordText has_escapes) (sym content) front.escapes;
      pieces = λ u.
          ap (λ l. spelled (pieces_from l BeforeWord)) (ascii_cons o ys ascii) ∙ ap spelled (opened (text_of u))
          ∙ run_words ys text n inside (Go (Behind closing))
          (front.said (text_of u) (IsCharBoundary-before_ascii ys n near low)) near low shuts
          ∙ ap (λ l. text ∷ spelled (pieces_from (chars l) (Behind closing))) cut
          ∙ ap (λ l. text ∷ spelled (pieces_from l (Behind closing))) (ascii_cons b rest (low_ends b last ends))
          ∙ ap (λ l. text ∷ spelled l) (pieces-cons b (chars rest) (Behind closing)
          ∙ ap (λ (s : Step). written s.output b (words_next s.next (pieces_from (chars rest)))) step
          ∙ behind_words last rest)
          ∙ ap (λ l. text ∷ spelled (words_behind last l)) (sym left)
          ∙ ap (λ l. spelled_by has_escapes l ∷ spelled (words_behind last (drop (n + 3) (o ∷ ys)))) (sym content);
    }

-- by the bytes
closed_at : (bytes : List ℕ) (n close : ℕ) (word : PlainWord) (inside : Stage) (closing : Closing)
    (has_escapes : Bool) → get_or bytes 0 0 < 128
    → ((o : ℕ) (ys : List ℕ) → bytes ≡ o ∷ ys → (scanned (o ∷ ys) BeforeWord ≡ later 1 (scanned ys inside))
    × (IsUtf8 ys → pieces_from (o ∷ chars ys) BeforeWord ≡ pieces_from (chars ys) inside))
    → Fronts (drop 1 bytes) n inside has_escapes → close < 128 → step_of inside close ≡ closes (Go (Behind closing))
    → IsClosed bytes n close word → IsFoundWord BeforeWord bytes (closed_record n word.is_last has_escapes) has_escapes
closed_at [] n close word inside closing has_escapes ascii opens front low shuts closed = let within = closed.within in
    absurd (omega arith)
closed_at (o ∷ ys) n close word inside closing has_escapes ascii opens front low shuts closed =
    let within = closed.within in
    let opening = opens o ys refl in
    let first : suc n ≡ n + 1 = omega arith in
    let second : suc (n + 1) ≡ n + 2 = omega arith in
    let shut : get_or ys n 0 ≡ close = ap (λ m. get_or (o ∷ ys) m 0) first ∙ closed.closes in
    closed_is o ys n inside closing word.is_last has_escapes ascii opening.0 opening.1 (omega arith) front
    (subst (λ c. c < 128) (sym shut) low) (ap (step_of inside) shut ∙ shuts)
    (subst (λ c. EndsWord c word.is_last) (sym (ap (λ m. get_or (o ∷ ys) m 0) second)) closed.ends)

-- a run between them
run_fronts : (bytes slice : List ℕ) (n : ℕ) (inside : Stage) → slice ≡ drop 1 bytes → n + 2 < length bytes →
    ((k : ℕ) → k < n → is_plain inside (get_or slice k 0) ≡ true) → Fronts (drop 1 bytes) n inside false
run_fronts bytes slice n inside same within plain =
    let there : (k : ℕ) → k < n → is_plain inside (get_or (drop 1 bytes) k 0)
    ≡ true = λ k p. ap (λ l. is_plain inside (get_or l k 0)) (sym same) ∙ plain k p in
    record {
      passes = run_passes (drop 1 bytes) n inside (omega (arith, length-drop 1 bytes)) there;
      escapes = tt;
      said = λ u boundary. run_said (drop 1 bytes) n inside (run_of inside (drop 1 bytes) n u boundary there);
    }

-- a byte that isn't a star begins no character that is one
no_star : (c : ℕ) (more : List ℕ) → (get_or (encode_utf8 c ++ more) 0 0 == 42) ≡ false → (c == 42) ≡ false
no_star c more h = ⊎_elim
    (λ low. ap (λ l. get_or (l ++ more) 0 0 == 42) (sym (encode_ascii c low)) ∙ h)
    (λ high. grind (arith, nat_tests))
    (below_or c)

brace_scan : (ys : List ℕ) → 0 < length ys → (get_or ys 0 0 == 42) ≡ false →
    scanned ys AfterOpening ≡ scanned ys (Braced 0)
brace_scan [] some h = absurd (omega arith)
brace_scan (c ∷ cs) some h =
    scanned-cons c cs AfterOpening ∙ ap (λ (s : Step). scan_next s.next (scanned cs)) (cond-false (c == 42) _ _ h)
    ∙ sym (scanned-cons c cs (Braced 0))

brace_pieces : (cs ys : List ℕ) → encode_utf8_all cs ≡ ys → 0 < length ys → (get_or ys 0 0 == 42) ≡ false →
    pieces_from cs AfterOpening ≡ pieces_from cs (Braced 0)
brace_pieces [] ys is some h = absurd (omega (arith, ap length is))
brace_pieces (c ∷ cs) ys is some h =
    pieces-cons c cs AfterOpening
    ∙ ap (λ (s : Step). written s.output c (words_next s.next (pieces_from cs)))
    (cond-false (c == 42) _ _ (no_star c (encode_utf8_all cs) (ap (λ l. get_or l 0 0 == 42) is ∙ h)))
    ∙ sym (pieces-cons c cs (Braced 0))

pub some_left : (xs : List ℕ) (test : Bool) → test ≡ (length xs == 0) → test ≡ false → 0 < length xs
some_left xs test h k = grind (arith, nat_tests)

pub if_word : (found : Option PlainWord) (P Q : PlainWord → Type 0) → ((word : PlainWord) → P word → Q word) →
    IfSome found P → IfSome found Q
if_word None P Q weaker h = tt
if_word (Some word) P Q weaker h = weaker word h

pub braced_is : (bytes slice : List ℕ) (n : ℕ) (word : PlainWord) → get_or bytes 0 0 ≡ 123 → slice ≡ drop 1 bytes →
    0 < length slice → ¬ (get_or slice 0 0 ≡ 42)
    → ((k : ℕ) → k < n → is_braced (get_or slice k 0) ≡ true) → IsClosed bytes n 125 word →
    IsPlainWord BeforeWord bytes word
braced_is bytes slice n word first same some star plain closed =
    subst (IsPlainWord BeforeWord bytes) (sym closed.is)
    (closed_at bytes n 125 word (Braced 0) Brace false (omega arith)
    (λ o ys e.
    let is : o ≡ 123 = ap (λ l. get_or l 0 0) (sym e) ∙ first in
    let there : slice ≡ ys = same ∙ ap (drop 1) e in
    let long : 0 < length ys = subst (λ l. 0 < length l) there some in
    let not : (get_or ys 0 0 == 42) ≡ false = subst (λ l. (get_or l 0 0 == 42)
    ≡ false) there (ne_eqb (get_or slice 0 0) 42 star) in (
      scanned-cons o ys BeforeWord ∙ ap (λ c. scan_next (step_of BeforeWord c).next (scanned ys)) is
          ∙ ap (later 1) (brace_scan ys long not),
      λ u. pieces-cons o (chars ys) BeforeWord
          ∙ ap (λ c. written (step_of BeforeWord c).output c
          (words_next (step_of BeforeWord c).next (pieces_from (chars ys)))) is
          ∙ brace_pieces (chars ys) ys (encodes-chars ys u) long not,
    ))
    (run_fronts bytes slice n (Braced 0) same closed.within plain) (omega arith) refl closed)

quote_opens : (bytes : List ℕ) → get_or bytes 0 0 ≡ 34 → (o : ℕ) (ys : List ℕ) → bytes ≡ o ∷ ys
    → (scanned (o ∷ ys) BeforeWord ≡ later 1 (scanned ys (Text Quoted)))
    × (IsUtf8 ys → pieces_from (o ∷ chars ys) BeforeWord ≡ pieces_from (chars ys) (Text Quoted))
quote_opens bytes first o ys e =
    let is : o ≡ 34 = ap (λ l. get_or l 0 0) (sym e) ∙ first in (
      scanned-cons o ys BeforeWord ∙ ap (λ c. scan_next (step_of BeforeWord c).next (scanned ys)) is,
      λ u. pieces-cons o (chars ys) BeforeWord
          ∙ ap (λ c. written (step_of BeforeWord c).output c
          (words_next (step_of BeforeWord c).next (pieces_from (chars ys)))) is,
    )

pub quoted_is : (bytes slice : List ℕ) (n : ℕ) (word : PlainWord) → get_or bytes 0 0 ≡ 34 → slice ≡ drop 1 bytes →
    ((k : ℕ) → k < n → is_quoted (get_or slice k 0) ≡ true)
    → IsClosed bytes n 34 word → IsPlainWord BeforeWord bytes word
quoted_is bytes slice n word first same plain closed =
    subst (IsPlainWord BeforeWord bytes) (sym closed.is)
    (closed_at bytes n 34 word (Text Quoted) Quote false (omega arith) (quote_opens bytes first)
    (run_fronts bytes slice n (Text Quoted) same closed.within plain) (omega arith) refl closed)

-- a run and a front with escapes between them

escaped_passes : (bytes slice behind : List ℕ) (n m : ℕ) → slice ≡ bytes → behind ≡ drop n bytes → n < length bytes →
    ((k : ℕ) → k < n → is_quoted (get_or slice k 0) ≡ true)
    → scanned behind (Text Quoted) ≡ later m (scanned (drop m behind) (Text Quoted)) →
    scanned bytes (Text Quoted) ≡ later (n + m) (scanned (drop (n + m) bytes) (Text Quoted))
escaped_passes bytes slice behind n m same after within plain passes =
    run_passes bytes n (Text Quoted) within (λ k p. ap (λ l. is_quoted (get_or l k 0)) (sym same) ∙ plain k p)
    ∙ ap (λ l. later n (scanned l (Text Quoted))) (sym after) ∙ ap (later n) passes
    ∙ later-later n m (scanned (drop m behind) (Text Quoted))
    ∙ ap (λ l. later (n + m) (scanned (drop m l) (Text Quoted))) after
    ∙ ap (λ l. later (n + m) (scanned l (Text Quoted))) (drop-drop m n bytes)

-- where no byte follows the run it has no escapes
escaped_front : (bytes slice behind : List ℕ) (n m : ℕ) (has_escapes : Bool) → has_escapes ≡ ltb 0 m →
    slice ≡ drop 1 bytes → behind ≡ drop n (drop 1 bytes) → (n + m) + 2 < length bytes →
    ((k : ℕ) → k < n → is_quoted (get_or slice k 0) ≡ true)
    → scanned behind (Text Quoted) ≡ later m (scanned (drop m behind) (Text Quoted)) →
    is_quoted_text (take m behind) ≡ true → Fronts (drop 1 bytes) (n + m) (Text Quoted) has_escapes
escaped_front bytes slice behind n m true test same after within plain passes front =
    let quoted = run_and_front (drop 1 bytes) slice behind n m same after plain front in
    record {
      passes =
          escaped_passes (drop 1 bytes) slice behind n m same after (omega (arith, length-drop 1 bytes)) plain passes;
      escapes = quoted;
      said = λ u boundary. quoted_words (drop 1 bytes) (n + m) u boundary quoted;
    }
escaped_front bytes slice behind n m false test same after within plain passes front =
    let none : n ≡ n + m = grind (arith, nat_tests) in
    subst (λ k. Fronts (drop 1 bytes) k (Text Quoted) false) none
    (run_fronts bytes slice n (Text Quoted) same (omega arith) plain)

pub escaped_is : (bytes slice behind : List ℕ) (n m : ℕ) (word : PlainWord) (has_escapes : Bool) →
    has_escapes ≡ ltb 0 m → get_or bytes 0 0 ≡ 34 → slice ≡ drop 1 bytes → behind ≡ drop n slice →
    ((k : ℕ) → k < n → is_quoted (get_or slice k 0) ≡ true)
    → scanned behind (Text Quoted) ≡ later m (scanned (drop m behind) (Text Quoted)) →
    is_quoted_text (take m behind) ≡ true → IsClosed bytes (n + m) 34 word
    → IsFoundWord BeforeWord bytes (record word { has_escapes = has_escapes }) has_escapes
escaped_is bytes slice behind n m word has_escapes test first same after plain passes front closed =
    subst (λ (w : PlainWord). IsFoundWord BeforeWord bytes (record w { has_escapes = has_escapes }) has_escapes)
    (sym closed.is)
    (closed_at bytes (n + m) 34 word (Text Quoted) Quote has_escapes (omega arith) (quote_opens bytes first)
    (escaped_front bytes slice behind n m has_escapes test same (after ∙ ap (drop n) same) closed.within plain passes
    front) (omega arith) refl closed)

-- a plain word is one of those that are found
pub found_plain : (stage : Stage) (bytes : List ℕ) (found : Option PlainWord) →
    IfSome found (λ word. IsPlainWord stage bytes word)
    → IfSome found (λ word. IsFoundWord stage bytes word word.has_escapes)
found_plain stage bytes None is = tt
found_plain stage bytes (Some word) is = subst (IsFoundWord stage bytes word) (sym is.flag) is
