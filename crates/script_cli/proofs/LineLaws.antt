-- The characters of what is printed.
use Rattle.script_cli.proofs.Common.{◌≡◌, ℕ, ◌<◌, ◌≤◌, true, false, take, arith, List, [], ◌∷◌, ◌++◌, length, get_or}
use Rattle.script_cli.proofs.Common.{String, string_bytes, encode_utf8_all, codes, refl, sym, ap, ◌∙◌, append_assoc}
use Rattle.script_cli.proofs.Common.{if◌then◌else◌, common_steps, append-nil, get_or-map, encodes-append, encodes-chars}
use Rattle.script_cli.proofs.Common.{texts_of, error_line, word_at, is_boundary, front_of}
use Rattle.std.specs.Str.{chars, IsUtf8, IsCharBoundary}
use Rattle.std.proofs.lemmas.Bool.Decides.{nat_tests}
use Rattle.std.proofs.Math.ListN.{get_or-eq_default}
use Rattle.command_effects.specs.Words.{literal}

-- a text alone
pub alone_text : (text line : List ℕ) → text ≡ line
    → text ++ (literal "" ++ (literal "" ++ (literal "" ++ literal ""))) ≡ line
unfolding chars
alone_text text line is = append-nil text ∙ is

pub word_characters : {Z : Type 0} (words : List (String Z)) (position : ℕ) (word : String Z) → position < length words
    → word ≡ get_or words position word → chars (string_bytes word) ≡ word_at (texts_of words) position
word_characters words position word within is =
    ap (λ w. chars (string_bytes w)) is ∙ sym (get_or-map (λ w. chars (string_bytes w)) words position word [] within)

pub no_memory : chars (codes "error: out of memory\n") ≡ error_line (literal "out of memory")
unfolding chars
no_memory = refl

pub no_substitution : chars (codes "error: substitution isn't supported\n")
    ≡ error_line (literal "substitution isn't supported")
unfolding chars
no_substitution = refl

pub not_utf8 : chars (codes "error: script isn't UTF-8\n") ≡ error_line (literal "script isn't UTF-8")
unfolding chars
not_utf8 = refl

pub no_close_brace : chars (codes "error: missing close-brace\n") ≡ error_line (literal "missing close-brace")
unfolding chars
no_close_brace = refl

pub no_quote : chars (codes "error: missing \"\n") ≡ error_line (literal "missing \"")
unfolding chars
no_quote = refl

pub more_after_brace : chars (codes "error: extra characters after close-brace\n")
    ≡ error_line (literal "extra characters after close-brace")
unfolding chars
more_after_brace = refl

pub more_after_quote : chars (codes "error: extra characters after close-quote\n")
    ≡ error_line (literal "extra characters after close-quote")
unfolding chars
more_after_quote = refl

pub bad_code : chars (codes "error: bad character code\n") ≡ error_line (literal "bad character code")
unfolding chars
bad_code = refl

pub answer_line : (text : List ℕ)
    → chars (codes "") ++ (text ++ (literal "" ++ (literal "" ++ chars (codes "\n")))) ≡ text ++ 10 ∷ []
unfolding chars
answer_line text = refl

pub no_word : {Z : Type 0} (words : List (String Z)) (position : ℕ) → length words ≤ position →
    chars [] ≡ word_at (texts_of words) position
unfolding chars
no_word words position past = sym (get_or-eq_default (texts_of words) [] (grind (arith, common_steps)))

boundary-yes : (bytes : List ℕ) (at : ℕ) → IsCharBoundary bytes at → is_boundary bytes at ≡ true
boundary-yes bytes at is = grind (arith, nat_tests, common_steps)

boundary-of : (bytes : List ℕ) (at : ℕ) → is_boundary bytes at ≡ true → IsCharBoundary bytes at
boundary-of bytes at is = (grind (arith, nat_tests, common_steps), grind (arith, nat_tests, common_steps))

boundary-no : (bytes : List ℕ) (at : ℕ) → ¬ IsCharBoundary bytes at → is_boundary bytes at ≡ false
boundary-no bytes at isn't =
    elim (is_boundary bytes at) as (λ b. is_boundary bytes at ≡ b → b ≡ false) [
      | false ↦ λ _. refl
      | true ↦ λ is. absurd (isn't (boundary-of bytes at is))
    ] refl

-- the front of a word, where its bytes are some characters, and else
pub front-some : (word front : List ℕ) (len : ℕ) → IsUtf8 word → IsCharBoundary word len → front ≡ take len word →
    chars front ≡ front_of len (chars word)
front-some word front len utf8 boundary is =
    let bytes : encode_utf8_all (chars word) ≡ word = encodes-chars word utf8 in
    ap chars (is ∙ ap (take len) (sym bytes))
    ∙ sym (ap (λ b. if b then chars (take len (encode_utf8_all (chars word)))
    else chars word) (ap (λ bs. is_boundary bs len) bytes ∙ boundary-yes word len boundary))

pub front-none : (word : List ℕ) (len : ℕ) → IsUtf8 word → ¬ IsCharBoundary word len →
    chars word ≡ front_of len (chars word)
front-none word len utf8 cut =
    let bytes : encode_utf8_all (chars word) ≡ word = encodes-chars word utf8 in
    sym (ap (λ b. if b then chars (take len (encode_utf8_all (chars word)))
    else chars word) (ap (λ bs. is_boundary bs len) bytes ∙ boundary-no word len cut))

-- the bytes of five texts
pub five_texts : (before word between other after : List ℕ) → IsUtf8 before → IsUtf8 word → IsUtf8 between →
    IsUtf8 other → IsUtf8 after
    → (before ++ word) ++ ((between ++ other) ++ after)
    ≡ encode_utf8_all (chars before ++ (chars word ++ (chars between ++ (chars other ++ chars after))))
five_texts before word between other after first second third fourth fifth =
    append_assoc before word ((between ++ other) ++ after)
    ∙ ap (λ rest. before ++ (word ++ rest)) (append_assoc between other after)
    ∙ rw (
      encodes-append (chars before) (chars word ++ (chars between ++ (chars other ++ chars after))),
      encodes-append (chars word) (chars between ++ (chars other ++ chars after)),
      encodes-append (chars between) (chars other ++ chars after),
      encodes-append (chars other) (chars after),
      encodes-chars before first,
      encodes-chars word second,
      encodes-chars between third,
      encodes-chars other fourth,
      encodes-chars after fifth,
    ) refl
