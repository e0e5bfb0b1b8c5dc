-- A text is cut behind its first newline.
use Rattle.line_lists.proofs.Common.{◌≡◌, ℕ, zero, suc, ◌+◌, cond, List, [], ◌∷◌, ◌++◌, take, drop, chars, refl, sym}
use Rattle.line_lists.proofs.Common.{ap, ap₂, subst, ◌∙◌, arith, append_assoc, take-append-drop, length-take-le}
use Rattle.line_lists.proofs.Common.{take-append-add, ends_in_newline, lines, ends_with_rest, lines-append, lines-cons}
use Rattle.line_lists.proofs.Common.{plain_line, characters-plain, IsLine, is_newline, true, false, not, length, ◌≢◌}
use Rattle.line_lists.proofs.Common.{get_or, ◌<◌, drop_more, eqb-true, take_all, not-false, prefix_len-le-length}
use Rattle.line_lists.proofs.Common.{prefix_len_stops, position_or_len, encode_utf8, encode_utf8_all}
use Rattle.std.specs.Str.{IsAscii, IsCharBoundary, IsUtf8, NonePass}
use Rattle.std.proofs.lemmas.Str.{IsUtf8-drop, IsUtf8-take, IsUtf8-from_ascii, chars-append, chars-nil}
use Rattle.std.proofs.lemmas.Str.{IsCharBoundary-after_ascii, IsCharBoundary-before_ascii, chars_past_char}
use Rattle.std.proofs.lemmas.Str.{encode_ascii, encodes-chars}

none-lines : (text : List ℕ) → NonePass is_newline text → lines text ≡ 0
none-lines [] none = refl
none-lines (c ∷ text) none = lines-cons c text ∙ ap₂ (λ b n. cond b 1 0 + n) none.0 (none-lines text none.1)

-- characters without newlines, and a newline
pub plain-ends : (front : List ℕ) → lines front ≡ 0 → IsLine (plain_line (front ++ 10 ∷ []))
plain-ends front none =
    let plain = characters-plain (front ++ 10 ∷ []) in record {
      ends = ap ends_in_newline plain ∙ ends_with_rest front 0 (10 ∷ []) (omega arith);
      once = ap lines plain ∙ lines-append front (10 ∷ []) ∙ ap (λ n. n + 1) none;
    }

newline : chars (10 ∷ []) ≡ 10 ∷ []
newline = chars_past_char (10 ∷ []) [] 10 (IsUtf8-from_ascii (10 ∷ []) one)
    (sym (ap (λ xs. xs ++ []) (encode_ascii 10 (omega arith)))) ∙ ap (λ xs. 10 ∷ xs) chars-nil
  where
    one : IsAscii (10 ∷ [])
    one zero = omega arith
    one (suc n) = omega arith

-- what is found of a text whose first newline stands at a byte
pub record IsCut (text first rest : List ℕ) : Type 0 where
  pub line : IsLine (plain_line (chars first))
  pub parts : chars text ≡ chars first ++ chars rest

-- bytes without a newline among them are those of characters without one
apart : (front rest : List ℕ) → NonePass is_newline (front ++ rest)
    → NonePass is_newline front × NonePass is_newline rest
apart [] rest none = (tt, none)
apart (c ∷ front) rest none = let both = apart front rest none.1 in ((none.0, both.0), both.1)

no_newline : (c : ℕ) → NonePass is_newline (encode_utf8 c) → is_newline c ≡ false
no_newline c none =
    elim (is_newline c) as (λ b. is_newline c ≡ b → b ≡ false) [
      | true ↦ λ is.
          (subst (λ bytes. NonePass is_newline bytes) (ap encode_utf8 (eqb-true c 10 is) ∙ encode_ascii 10 (omega arith)) none).0
      | false ↦ λ isn't. refl
    ] refl

none_encoded : (text : List ℕ) → NonePass is_newline (encode_utf8_all text) → NonePass is_newline text
none_encoded [] none = none
none_encoded (c ∷ text) none =
    let both = apart (encode_utf8 c) (encode_utf8_all text) none in
    (no_newline c both.0, none_encoded text both.1)

none_before : (bytes : List ℕ) → NonePass is_newline (take (position_or_len is_newline bytes) bytes)
none_before [] = tt
none_before (c ∷ bytes) =
    elim (is_newline c) as
    (λ b. is_newline c ≡ b → NonePass is_newline (take (cond (not b) (1 + position_or_len is_newline bytes) 0) (c ∷ bytes))) [
      | true ↦ λ is. tt
      | false ↦ λ isn't. let more : suc (position_or_len is_newline bytes) ≡ 1 + position_or_len is_newline bytes = omega arith in
          subst (λ n. NonePass is_newline (take n (c ∷ bytes))) more (isn't, none_before bytes)
    ] refl

lines_before : (text : List ℕ) → IsUtf8 (take (position_or_len is_newline text) text) →
    lines (chars (take (position_or_len is_newline text) text)) ≡ 0
lines_before text utf8 =
    let front = take (position_or_len is_newline text) text in
    none-lines (chars front)
    (none_encoded (chars front) (subst (NonePass is_newline) (sym (encodes-chars front utf8)) (none_before text)))

-- where the first newline of a text is found among its bytes; its length is found where there is none
module _ {text bytes : List ℕ} {at : ℕ} (utf8 : IsUtf8 text) (same : bytes ≡ text)
    (found : at ≡ position_or_len is_newline bytes) where
  stands : at ≡ position_or_len is_newline text
  stands = found ∙ ap (λ xs. position_or_len is_newline xs) same

  before : IsUtf8 (take at text) → lines (chars (take at text)) ≡ 0
  before = subst (λ n. IsUtf8 (take n text) → lines (chars (take n text)) ≡ 0) (sym stands) (lines_before text)

  pub no-lines : at ≡ length text → lines (chars text) ≡ 0
  no-lines none =
      let all : take at text ≡ text = take_all at text (omega (arith, none)) in
      subst (λ xs. lines (chars xs) ≡ 0) all (before (subst IsUtf8 (sym all) utf8))

  module _ (other : at ≢ length text) where
    pub within : at < length text
    within = omega (arith, stands, other, prefix_len-le-length (λ c. not (is_newline c)) text)

    is : get_or text at 0 ≡ 10
    is =
        let stops = prefix_len_stops (λ c. not (is_newline c)) text 0 (omega (arith, stands, within)) in
        ap (λ n. get_or text n 0) stands
        ∙ eqb-true (get_or text (position_or_len is_newline text) 0) 10
        (not-false (is_newline (get_or text (position_or_len is_newline text) 0)) stops)

    low : get_or text at 0 < 128
    low = omega (arith, is)

    -- the text may be cut behind it
    pub behind : IsCharBoundary text (at + 1)
    behind = IsCharBoundary-after_ascii text at utf8 within low

    pub cut : {first rest : List ℕ} → first ≡ take (at + 1) text → rest ≡ drop (at + 1) text → IsCut text first rest
    cut {first} {rest} first_is rest_is =
        let front = take at text in
        let boundary = IsCharBoundary-before_ascii text at within low in
        let front_utf8 = IsUtf8-take text at utf8 boundary in
        let next : drop at text ≡ 10 ∷ rest = drop_more text at 0 within ∙ ap₂ (λ c xs. c ∷ xs) is (sym rest_is) in
        let rest_utf8 : IsUtf8 (10 ∷ rest) = subst IsUtf8 next (IsUtf8-drop text at utf8 boundary) in
        let whole : text ≡ front ++ 10 ∷ rest = sym (take-append-drop at text) ∙ ap (λ xs. front ++ xs) next in
        let line : first ≡ front ++ 10 ∷ [] =
        first_is ∙ ap₂ (λ n xs. take (n + 1) xs) (sym (length-take-le at text boundary.0)) whole
        ∙ take-append-add front (10 ∷ rest) 1 in
        let ends : chars first ≡ chars front ++ 10 ∷ [] = ap chars line ∙ chars-append front (10 ∷ []) front_utf8
        ∙ ap (λ xs. chars front ++ xs) newline in
        let goes_on : chars text ≡ chars front ++ 10 ∷ chars rest = ap chars whole
        ∙ chars-append front (10 ∷ rest) front_utf8
        ∙ ap (λ xs. chars front ++ xs) (chars_past_char (10 ∷ rest) rest 10 rest_utf8
        (sym (ap (λ xs. xs ++ rest) (encode_ascii 10 (omega arith))))) in
        record {
          line =
              subst (λ xs. IsLine (plain_line xs)) (sym ends) (plain-ends (chars front) (before front_utf8));
          parts =
              goes_on ∙ sym (append_assoc (chars front) (10 ∷ []) (chars rest)) ∙ ap (λ xs. xs ++ chars rest) (sym ends);
        }
