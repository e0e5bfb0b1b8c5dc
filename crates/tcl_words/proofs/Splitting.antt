-- What the splitter takes from the bytes not yet given.
use Rattle.tcl_words.proofs.Common.{◌≡◌, ℕ, zero, suc, ◌+◌, ◌-◌, ◌<◌, ◌≤◌, ◌==◌, ◌||◌, ◌&&◌, inl, inr, ⊎_elim, Bool}
use Rattle.tcl_words.proofs.Common.{true, false, cond, List, [], ◌∷◌, map, length, take, drop, Option, Some, None}
use Rattle.tcl_words.proofs.Common.{Result, Ok, Err, IfOk, IfSome, String, string_bytes, chars, encode_utf8_all, IsUtf8}
use Rattle.tcl_words.proofs.Common.{refl, sym, ap, ◌∙◌, arith, subst, length-drop, length-take, take-append-drop, ⊤}
use Rattle.tcl_words.proofs.Common.{IsUtf8-string_bytes, chars_from_encodes, IsUtf8-nil, IsUtf8-drop}
use Rattle.tcl_words.proofs.Common.{IsCharBoundary-from_take, leb_tells, take-take, drop-take, drop-drop, length-map}
use Rattle.tcl_words.proofs.Common.{is_end, is_blank, is_joint, is_expansion, names_variable, Escape, Gives}
use Rattle.tcl_words.proofs.Common.{NoCharacter, Undecided, escape, gap, Ending, Ends, Continues, is_last, First}
use Rattle.tcl_words.proofs.Common.{Command, Nothing, Open, onto_word, end_word, at_stop, Where, AtCommand, InComment}
use Rattle.tcl_words.proofs.Common.{AtWord, InBare, InQuotes, Behind, at_end, escaped, text_rule, close_rule, kept_rule}
use Rattle.tcl_words.proofs.Common.{open_rule, rule, first, IsCommandBefore, scanned, pieces_from, IsPlainCommand}
use Rattle.tcl_words.proofs.Common.{Unread, IsNextCommand, HasNoCommand, TakesCommand, texts_of, IsProgress}
use Rattle.tcl_words.proofs.Common.{IsCommandOf, IsFound, starting_at, Substitution, Progress, BeforeCommand, EndsAt}
use Rattle.tcl_words.proofs.Common.{InBraces}
use Rattle.tcl_words.specs.ScriptGrammar.{read}
use Rattle.std.specs.declared.alloc.AllocError.{AllocError}
use Rattle.tcl_words.proofs.Verdicts.{scanned-nil}
use Rattle.tcl_words.proofs.Finding.{command_of, command_words}
use Rattle.tcl_words.proofs.Readings.{one_found, reads_nothing, reads_before}

-- a command that is found has a word
abbrev HasWord : First → Type 0
HasWord (Command words rest) = 0 < length words
HasWord found = ⊤

word_if : (test : Bool) (x y : First) → HasWord x → HasWord y → HasWord (cond test x y)
word_if true x y p q = p
word_if false x y p q = q

word_stop : (e : Ending) (found : First) → HasWord found → HasWord (at_stop e found)
word_stop Ends found h = h
word_stop e found h = tt

word_end : (found : First) → HasWord (end_word found)
word_end (Command words rest) = omega arith
word_end found = tt

word_onto : (c : ℕ) (found : First) → HasWord found → HasWord (onto_word c found)
word_onto c (Command [] rest) h = h
word_onto c (Command (word ∷ words) rest) h = omega arith
word_onto c found h = tt

-- the places where no word has begun, or one is under way
abbrev Counts : Where → Type 0
Counts AtWord = ⊥
Counts (Behind fault) = ⊥
Counts place = ⊤

word_escaped : (e : Ending) (go : ℕ → First) (escape : Escape) → ((n : ℕ) → HasWord (go n)) →
    HasWord (escaped e go escape)
word_escaped e go (Gives c n) h = word_onto c (go n) (h n)
word_escaped e go NoCharacter h = tt
word_escaped e go Undecided h = word_stop e Open tt

word_text : (e : Ending) (c : ℕ) (cs : List ℕ) (go : ℕ → First) → ((n : ℕ) → HasWord (go n)) →
    HasWord (text_rule e c cs go)
word_text e c cs go h =
    word_if (c == 91 || (c == 36 && names_variable cs)) _ _ tt
    (word_if (c == 92) _ _ (word_escaped e go (escape (is_last e) cs) h) (word_onto c (go 0) (h 0)))

word_close : (depth c : ℕ) (go : ℕ → Where → First) → ((n : ℕ) (place : Where) → Counts place → HasWord (go n place)) →
    HasWord (close_rule depth c go)
word_close zero c go h = word_end (go 0 _)
word_close (suc depth) c go h = word_onto c (go 0 (InBraces depth)) (h 0 (InBraces depth) tt)

word_kept : (depth : ℕ) (cs : List ℕ) (go : ℕ → Where → First) →
    ((n : ℕ) (place : Where) → Counts place → HasWord (go n place)) → HasWord (kept_rule depth cs go)
word_kept depth [] go h = word_onto 92 (go 0 (InBraces depth)) (h 0 (InBraces depth) tt)
word_kept depth (c ∷ cs) go h =
    word_if (c == 10) _ _ (word_onto 32 (go (suc (gap cs)) (InBraces depth)) (h (suc (gap cs)) (InBraces depth) tt))
    (word_onto 92 (onto_word c (go 1 (InBraces depth))) (word_onto c (go 1 (InBraces depth)) (h 1 (InBraces depth) tt)))

word_open : (cs : List ℕ) (go : ℕ → Where → First) → ((n : ℕ) (place : Where) → Counts place → HasWord (go n place)) →
    HasWord (open_rule cs go)
word_open cs go h =
    word_if (is_expansion cs) _ _ (word_onto 42 (end_word (go 2 (Behind Substitution)))
    (word_end (go 2 (Behind Substitution)))) (h 0 (InBraces 0) tt)

word_command : (end blank joint hash : Bool) (again joined comment ended blanked other words : First) → HasWord again →
    HasWord joined → HasWord comment → HasWord words
    →
    HasWord (cond (end || blank) again (cond joint joined
    (cond hash comment (cond end ended (cond blank blanked (cond joint other words))))))
word_command true blank joint hash again joined comment ended blanked other words p q r s = p
word_command false true joint hash again joined comment ended blanked other words p q r s = p
word_command false false true hash again joined comment ended blanked other words p q r s = q
word_command false false false true again joined comment ended blanked other words p q r s = r
word_command false false false false again joined comment ended blanked other words p q r s = s

word_rules : (place : Where) (e : Ending) (c : ℕ) (cs : List ℕ) (go : ℕ → Where → First) → Counts place →
    ((n : ℕ) (place : Where) → Counts place → HasWord (go n place)) → HasWord (rule e place c cs go)
word_rules AtCommand e c cs go k h =
    word_command (is_end c) (is_blank c) (is_joint c cs) (c == 35) (go 0 AtCommand) (go 1 AtCommand) (go 0 InComment)
    (Command [] cs) (go 0 AtWord) (go 1 AtWord) _
    (h 0 AtCommand tt) (h 1 AtCommand tt) (h 0 InComment tt)
    (word_if (c == 123) _ _ (word_open cs go h)
    (word_if (c == 34) _ _ (h 0 InQuotes tt) (word_text e c cs (λ n. go n InBare) (λ n. h n InBare tt))))
word_rules InComment e c cs go k h =
    word_if (c == 10) _ _ (h 0 AtCommand tt) (word_if (c == 92) _ _ (h 1 InComment tt) (h 0 InComment tt))
word_rules AtWord e c cs go k h = absurd k
word_rules InBare e c cs go k h =
    word_if (is_end c) _ _ (word_end (Command [] cs))
    (word_if (is_blank c) _ _ (word_end (go 0 AtWord)) (word_if (is_joint c cs) _ _ (word_end (go 1 AtWord))
    (word_text e c cs (λ n. go n InBare) (λ n. h n InBare tt))))
word_rules InQuotes e c cs go k h =
    word_if (c == 34) _ _ (word_end (go 0 _)) (word_text e c cs (λ n. go n InQuotes) (λ n. h n InQuotes tt))
word_rules (InBraces depth) e c cs go k h =
    word_if (c == 125) _ _ (word_close depth c go h)
    (word_if (c == 123) _ _ (word_onto c (go 0 (InBraces (suc depth))) (h 0 (InBraces (suc depth)) tt))
    (word_if (c == 92) _ _ (word_kept depth cs go h) (word_onto c (go 0 (InBraces depth)) (h 0 (InBraces depth) tt))))
word_rules (Behind fault) e c cs go k h = absurd k

word_at_end : (place : Where) → Counts place → HasWord (at_end place)
word_at_end AtWord k = absurd k
word_at_end InBare k = omega arith
word_at_end (Behind fault) k = absurd k
word_at_end place k = tt

has_word : (cs : List ℕ) (e : Ending) (n : ℕ) (place : Where) → Counts place → HasWord (read cs e n place)
unfolding read
has_word [] e n place k = word_stop e (at_end place) (word_at_end place k)
has_word (c ∷ cs) e (suc n) place k = has_word cs e n place k
has_word (c ∷ cs) e zero place k = word_rules place e c cs (read cs e) k (λ n other l. has_word cs e n other l)

has_word_first : (e : Ending) (cs : List ℕ) → HasWord (first e cs)
has_word_first e cs = has_word cs e 0 AtCommand tt

before_has_word : (rest bytes : List ℕ) (words : List (List ℕ)) → IsCommandBefore rest words bytes → 0 < length words
before_has_word rest bytes words (inl w) = subst HasWord w.2 (has_word_first Continues w.0)
before_has_word rest bytes words (inr l) = subst HasWord l.1.2 (has_word_first Ends l.1.0)

next_before : (finished : Bool) (rest : List ℕ) (words : List (List ℕ)) (bytes : List ℕ) →
    IsNextCommand finished rest words bytes → IsCommandBefore rest words bytes
next_before true rest words bytes h = h
next_before false rest words bytes h = inl h

-- nothing was read of bytes of which so many are a text
pub starts : (rest : List ℕ) (valid : ℕ) → valid ≤ length rest → IsUtf8 (take valid rest) →
    IsProgress rest (starting_at valid)
starts rest valid within text = record {
  order = omega arith;
  within = within;
  text = text;
  reached = scanned-nil BeforeCommand;
}

-- the progress after a text is left behind
passed : (rest : List ℕ) (progress : Progress) (n : ℕ) → IsProgress rest progress → n ≤ length rest →
    IsUtf8 (take n rest) → IsProgress (drop n rest) (starting_at (progress.valid - n))
passed rest progress n p long text =
    let within = p.within in
    ⊎_elim
    (λ all.
    let none : progress.valid - n ≡ 0 = omega arith in
    starts (drop n rest) (progress.valid - n) (omega arith)
    (subst (λ k. IsUtf8 (take k (drop n rest))) (sym none) IsUtf8-nil))
    (λ some.
    let low : n ≤ progress.valid = omega arith in
    let sum : n + (progress.valid - n) ≡ progress.valid = omega arith in
    let front : take n (take progress.valid rest) ≡ take n rest = take-take n progress.valid rest low in
    let left : drop n (take progress.valid rest)
    ≡ take (progress.valid - n) (drop n rest) = ap (λ m. drop n (take m rest)) (sym sum)
    ∙ drop-take n (progress.valid - n) rest in
    let fits : n ≤ length (take progress.valid rest) = omega (arith, length-take progress.valid rest) in
    starts (drop n rest) (progress.valid - n) (omega (arith, length-drop n rest))
    (subst IsUtf8 left (IsUtf8-drop (take progress.valid rest) n p.text
    (IsCharBoundary-from_take (take progress.valid rest) n p.text fits (subst IsUtf8 (sym front) text)))))
    (leb_tells progress.valid n)

-- what a command of these bytes tells
has_words : (finished : Bool) (rest : List ℕ) (n : ℕ) (k : IsCommandOf finished rest n) → 0 < length k.words
has_words finished rest n k =
    before_has_word (drop n rest) (take n rest) k.words (next_before finished (drop n rest) k.words (take n rest) k.is)

pub not_none : (finished : Bool) (rest : List ℕ) (n : ℕ) → IsCommandOf finished rest n → ¬ HasNoCommand finished rest
not_none true rest n k none =
    let no = one_found rest Nothing (Command k.words (drop n rest)) (reads_nothing rest none)
    (reads_before rest (take n rest) (drop n rest) k.words (sym (take-append-drop n rest)) k.is) in cc
not_none false rest n k none = none k.words (take n rest) (drop n rest) (sym (take-append-drop n rest)) k.is

-- strings of these words
pub texts_are : {Z : Type 0} (strings : List (String Z)) (words : List (List ℕ)) →
    map (λ s. string_bytes s) strings ≡ map encode_utf8_all words → texts_of strings ≡ words
texts_are [] [] h = refl
texts_are [] (word ∷ words) h = cc
texts_are (s ∷ strings) [] h = cc
texts_are (s ∷ strings) (word ∷ words) h =
    let here : string_bytes s ≡ encode_utf8_all word = cc in
    let rest : map (λ t. string_bytes t) strings ≡ map encode_utf8_all words = cc in
    let same : word ≡ chars (string_bytes s) = chars_from_encodes word (string_bytes s) (IsUtf8-string_bytes s)
    (sym here) in
    let after = texts_are strings words rest in cc

pub strings_some : {Z : Type 0} (strings : List (String Z)) (words : List (List ℕ)) →
    map (λ s. string_bytes s) strings ≡ map encode_utf8_all words → 0 < length words → 0 < length strings
strings_some [] [] h some = some
strings_some [] (word ∷ words) h some = absurd cc
strings_some (s ∷ strings) words h some = omega arith

-- From old to new these words are taken, with the value between, where the command was found.
pub takes : (old between new : Unread) (len : ℕ) (words : List (List ℕ)) → (between ≡ old) × (old.fault ≡ None) →
    (k : IsCommandOf old.finished old.rest len)
    → new ≡ record between { rest = drop len between.rest } → words ≡ k.words → TakesCommand old words new
takes old between new len words same k e w =
    let after : record old { rest = drop len old.rest }
    ≡ new = ap (λ (u : Unread). record u { rest = drop len u.rest }) (sym same.0) ∙ sym e in
    subst (TakesCommand old words) after (
      take len old.rest,
      same.1,
      sym (take-append-drop len old.rest),
      refl,
      subst (λ ws. IsNextCommand old.finished (drop len old.rest) ws (take len old.rest)) (sym w) k.is,
    )

-- the strings of a command's pieces
pub texts_found : {Z : Type 0} (finished : Bool) (rest slice : List ℕ) (len : ℕ) (strings : List (String Z))
    (k : IsCommandOf finished rest len) → slice ≡ take len rest
    → map (λ s. string_bytes s) strings ≡ map encode_utf8_all (pieces_from (chars slice) BeforeCommand) →
    (texts_of strings ≡ k.words) × (0 < length strings)
texts_found finished rest slice len strings k same h =
    let spelled = h ∙ ap (λ l. map encode_utf8_all (pieces_from (chars l) BeforeCommand)) same
    ∙ ap (map encode_utf8_all) k.written in
    (texts_are strings k.words spelled, strings_some strings k.words spelled (has_words finished rest len k))

-- the command that is found has the strings of its pieces
pub words_found : {Z : Type 0} (unread between : Unread) (slice : List ℕ) (len : ℕ) (strings : List (String Z)) →
    between ≡ unread → between.fault ≡ None → IsCommandOf between.finished between.rest len
    → slice ≡ take len between.rest
    → map (λ s. string_bytes s) strings ≡ map encode_utf8_all (pieces_from (chars slice) BeforeCommand) →
    IsFound unread (texts_of strings) len
words_found unread between slice len strings same none k front made =
    let texts = texts_found between.finished between.rest slice len strings k front made in
    let some = texts.1 in
    subst (λ (u : Unread). IsFound u (texts_of strings) len) same (record {
      no_fault = none;
      is = k;
      same = texts.0;
      some = omega (arith, length-map strings (λ s. chars (string_bytes s)), some);
    })

-- the progress after the next bytes of all are left behind
pub passed_in : (items rest : List ℕ) (given : ℕ) (progress : Progress) (n : ℕ) → drop given items ≡ rest →
    given ≤ length items → IsProgress (drop given items) progress → n ≤ length rest → IsUtf8 (take n rest)
    → (given + n ≤ length items) × IsProgress (drop (given + n) items) (starting_at (progress.valid - n))
passed_in items rest given progress n same fits p long text =
    let within : n ≤ length (drop given items) = omega (arith, ap length same) in (
      omega (arith, length-drop given items),
      subst (λ l. IsProgress l (starting_at (progress.valid - n))) (drop-drop n given items)
          (passed (drop given items) progress n p within (subst (λ l. IsUtf8 (take n l)) (sym same) text)),
    )

-- what a text at the front is found to begin with
pub plain_found : {Z : Type 0} (unread : Unread) (progress : Progress) (text : List ℕ) (strings : List (String Z))
    (len : ℕ) → unread.fault ≡ None → IsProgress unread.rest progress
    → text ≡ take progress.valid unread.rest → IsPlainCommand text (map (λ s. string_bytes s) strings) len →
    IsFound unread (texts_of strings) len
plain_found unread progress text strings len none p is plain =
    let found : scanned (take progress.valid unread.rest) BeforeCommand
    ≡ EndsAt len = ap (λ l. scanned l BeforeCommand) (sym is) ∙ plain.scans in
    let k = command_of unread.finished unread.rest progress.valid len p.within p.text found in
    let spelled : map (λ s. string_bytes s) strings ≡ map encode_utf8_all k.words =
    plain.pieces ∙ ap (λ l. map encode_utf8_all (pieces_from (chars l) BeforeCommand)) is
    ∙ ap (map encode_utf8_all) (command_words unread.finished unread.rest progress.valid len p.within p.text found)
    in
    let some = strings_some strings k.words spelled (has_words unread.finished unread.rest len k) in
    record {
      no_fault = none;
      is = k;
      same = texts_are strings k.words spelled;
      some = omega (arith, length-map strings (λ s. chars (string_bytes s)), some);
    }

pub plain_result : {Z : Type 0} (result : Result (Option ℕ) AllocError) (unread : Unread) (progress : Progress)
    (text : List ℕ) (strings : List (String Z)) → unread.fault ≡ None → IsProgress unread.rest progress
    → text ≡ take progress.valid unread.rest
    → IfOk result (λ found. IfSome found (λ len. IsPlainCommand text (map (λ s. string_bytes s) strings) len))
    → IfOk result (λ found. IfSome found (λ len. IsFound unread (texts_of strings) len))
plain_result (Err fault) unread progress text strings none p is h = tt
plain_result (Ok None) unread progress text strings none p is h = tt
plain_result (Ok (Some len)) unread progress text strings none p is h =
    plain_found unread progress text strings len none p is h
