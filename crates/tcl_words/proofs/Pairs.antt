-- Escapes of a backslash and one character behind it.
use Rattle.tcl_words.proofs.Common.{◌≡◌, ℕ, ◌+◌, ◌<◌, Some, List, length, drop, get_or, refl, sym, ap, ◌∙◌, arith, true}
use Rattle.tcl_words.proofs.Common.{◌≤◌, ◌∷◌, ◌++◌, take, chars, encode_utf8, IsUtf8, IsCharBoundary, drop_more}
use Rattle.tcl_words.proofs.Common.{IsCharBoundary-after_ascii, escape_step, given_at, pair_gives, is_plain, step_by}
use Rattle.tcl_words.proofs.Common.{step_of, later, scanned, onto_piece, written, words_next, pieces_from, prefixed}
use Rattle.tcl_words.proofs.Common.{words_on, Backslash, EscapeStep, TextWord, Quoted, Stage, Text, Escaped, Go}
use Rattle.tcl_words.proofs.Spelling.{later-later}
use Rattle.tcl_words.proofs.Scans.{scan_on}
use Rattle.tcl_words.proofs.Plain.{scan_skips, RunOf}
use Rattle.tcl_words.proofs.Verdicts.{pieces-cons}
use Rattle.tcl_words.proofs.Writing.{IsWritten, spelled, prefixed_onto, run_written, ascii_cons}
use Rattle.tcl_words.specs.declared.escapes.EscapeStep.TheVariants as escapes

goes_on : (word : TextWord) (c d : ℕ) (step : EscapeStep) → given_at c step ≡ Some d →
    (step_by word c step).next ≡ Go (Text word)
goes_on word c d (escapes.Goes stage) h = cc
goes_on word c d (escapes.Gives e) h = refl
goes_on word c d escapes.Keeps h = refl
goes_on word c d (escapes.Before e) h = cc
goes_on word c d escapes.NoCharacter h = cc

-- A scan passes ordinary characters,
pub scan_plain : (bytes slice : List ℕ) (i n : ℕ) (stage : Stage) → slice ≡ drop i bytes → n ≤ length slice →
    ((k : ℕ) → k < n → is_plain stage (get_or slice k 0) ≡ true)
    → scanned bytes stage ≡ later i (scanned (drop i bytes) stage)
    → scanned bytes stage ≡ later (i + n) (scanned (drop (i + n) bytes) stage)
scan_plain bytes slice i n stage same within plain before =
    before
    ∙ ap (later i) (scan_skips bytes slice i n stage same within plain).0
    ∙ later-later i n (scanned (drop (i + n) bytes) stage)

-- and such an escape.
pub scan_pair : (bytes : List ℕ) (i d : ℕ) → i + 1 < length bytes → get_or bytes i 0 ≡ 92 →
    pair_gives (get_or bytes (i + 1) 0) ≡ Some d
    → scanned bytes (Text Quoted) ≡ later i (scanned (drop i bytes) (Text Quoted)) →
    scanned bytes (Text Quoted) ≡ later (i + 2) (scanned (drop (i + 2) bytes) (Text Quoted))
scan_pair bytes i d within slash gives before =
    let c = get_or bytes (i + 1) 0 in
    let sum : i + 1 + 1 ≡ i + 2 = omega arith in
    before
    ∙ ap (later i) (scan_on bytes i (Text Quoted) (Go (Escaped Quoted Backslash)) (omega arith)
    (sym (ap (λ b. (step_of (Text Quoted) b).next) slash))
    ∙ ap (later 1) (scan_on bytes (i + 1) (Escaped Quoted Backslash) (Go (Text Quoted)) within
    (sym (goes_on Quoted c d (escape_step Backslash c) gives)))
    ∙ later-later 1 1 (scanned (drop (i + 1 + 1) bytes) (Text Quoted)))
    ∙ later-later i 2 (scanned (drop (i + 1 + 1) bytes) (Text Quoted))
    ∙ ap (λ m. later (i + 2) (scanned (drop m bytes) (Text Quoted))) sum

-- Such an escape gives its character to the word.

pub gives_piece : (word : TextWord) (c d : ℕ) (step : EscapeStep) (after : Stage → List (List ℕ)) →
    given_at c step ≡ Some d → written (step_by word c step).output c (words_next (step_by word c step).next after)
    ≡ onto_piece d (after (Text word))
gives_piece word c d (escapes.Goes stage) after h = cc
gives_piece word c d (escapes.Gives e) after h =
    let same : e ≡ d = cc in ap (λ x. onto_piece x (after (Text word))) same
gives_piece word c d escapes.Keeps after h =
    let same : c ≡ d = cc in ap (λ x. onto_piece x (after (Text word))) same
gives_piece word c d (escapes.Before e) after h = cc
gives_piece word c d escapes.NoCharacter after h = cc

pair_chars : (text : List ℕ) → 1 < length text → get_or text 0 0 ≡ 92 → get_or text 1 0 < 128 →
    chars text ≡ 92 ∷ get_or text 1 0 ∷ chars (drop 2 text)
pair_chars text within slash low =
    ap chars (drop_more text 0 0 (omega arith) ∙ ap (λ b. b ∷ drop 1 text) slash)
    ∙ ascii_cons 92 (drop 1 text) (omega arith)
    ∙ ap (λ l. 92 ∷ l) (ap chars (drop_more text 1 0 within) ∙ ascii_cons (get_or text 1 0) (drop 2 text) low)

pub pair_written : (text slice rest word more : List ℕ) (d : ℕ) → slice ≡ text → 2 ≤ length slice →
    get_or slice 0 0 ≡ 92
    → get_or slice 1 0 ≤ 127 → pair_gives (get_or slice 1 0) ≡ Some d → rest ≡ drop 2 text →
    more ≡ word ++ encode_utf8 d
    → words_on word text (Text Quoted) ≡ words_on more rest (Text Quoted)
pair_written text slice rest word more d same long slash low gives left new =
    let c = get_or text 1 0 in
    let within : 1 < length text = omega (arith, ap length same) in
    let first : get_or text 0 0 ≡ 92 = ap (λ l. get_or l 0 0) (sym same) ∙ slash in
    let second : get_or slice 1 0 ≡ c = ap (λ l. get_or l 1 0) same in
    let cs = chars (drop 2 text) in
    ap (λ l. prefixed word (spelled (pieces_from l (Text Quoted)))) (pair_chars text within first (omega arith))
    ∙ ap (λ l. prefixed word (spelled l)) (pieces-cons 92 (c ∷ cs) (Text Quoted)
    ∙ pieces-cons c cs (Escaped Quoted Backslash)
    ∙ gives_piece Quoted c d (escape_step Backslash c) (pieces_from cs) (ap pair_gives (sym second) ∙ gives))
    ∙ prefixed_onto d word (pieces_from cs (Text Quoted))
    ∙ ap (λ l. prefixed l (spelled (pieces_from cs (Text Quoted)))) (sym new)
    ∙ ap (λ l. words_on more l (Text Quoted)) (sym left)

pub pair_boundary : (text slice : List ℕ) → slice ≡ text → IsUtf8 text → 2 ≤ length slice →
    get_or slice 1 0 ≤ 127 → IsCharBoundary text 2
pair_boundary text slice same u long low =
    IsCharBoundary-after_ascii text 1 u (omega (arith, ap length same)) (omega (arith, ap (λ l. get_or l 1 0) same))

-- A run goes onto the word.
pub run_kept : (text rest word more : List ℕ) (n : ℕ) (stage : Stage) → RunOf stage text n → rest ≡ drop n text →
    more ≡ word ++ take n text → words_on word text stage ≡ words_on more rest stage
run_kept text rest word more n stage run left new =
    ap (λ l. prefixed word (spelled (pieces_from l stage))) run.split
    ∙ run_written stage run.run (chars (drop n text)) word run.plain
    ∙ ap (λ l. prefixed l (spelled (pieces_from (chars (drop n text)) stage)))
    (ap (λ l. word ++ l) (sym run.spelled) ∙ sym new)
    ∙ ap (λ l. words_on more l stage) (sym left)

-- What is written and what follows, after more was written.
pub writing_kept : (cs text rest : List ℕ) (stage : Stage) (words more : List (List ℕ)) (word new : List ℕ) →
    IsWritten cs (chars text) stage words word → more ≡ words → words_on word text stage ≡ words_on new rest stage
    → IsWritten cs (chars rest) stage more new
writing_kept cs text rest stage words more word new w same kept = record {
  pieces = w.pieces ∙ ap (λ l. words ++ l) kept ∙ ap (λ l. l ++ words_on new rest stage) (sym same);
}
