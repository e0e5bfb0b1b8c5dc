-- Where the columns of a text begin in its bytes.
use Rattle.segments.proofs.Common.{◌≡◌, ℕ, zero, suc, ◌+◌, ◌-◌, ◌<◌, ◌≤◌, List, [], ◌∷◌, ◌++◌, length, take, drop, sym}
use Rattle.segments.proofs.Common.{ap, ap₂, ◌∙◌, arith, length-append, drop-drop, take-append-drop, chars, encode_utf8}
use Rattle.segments.proofs.Common.{encode_utf8_all, slice_get, IsUtf8, IsAscii, IsCharBoundary, inserted, removed}
use Rattle.segments.proofs.Common.{nat_tests, append_cancel_right, chars-append, chars_from_encodes, chars-nil}
use Rattle.segments.proofs.Common.{encode_ascii, encodes-append, encodes-chars, IsUtf8-append, IsUtf8-nil, IsUtf8-take}
use Rattle.segments.proofs.Common.{length-encode, length-le-encodes, len_utf8_bounds, append-nil, Some}
use Rattle.std.specs.Char.{len_utf8}

pub some_bytes : (bytes : List ℕ) → 0 < length (chars bytes) → 0 < length bytes
some_bytes [] some = absurd (omega (arith, ap length chars-nil))
some_bytes (byte ∷ bytes) some = omega arith

pub no_characters : (bytes : List ℕ) → length bytes ≡ 0 → chars bytes ≡ []
no_characters [] none = chars-nil
no_characters (byte ∷ bytes) none = absurd (omega arith)

-- a text whose last character is known
pub chars-behind : (text front : List ℕ) (c : ℕ) → IsUtf8 text → IsUtf8 front → text ≡ front ++ encode_utf8 c →
    chars text ≡ chars front ++ c ∷ []
chars-behind text front c utf8 also is =
    sym (chars_from_encodes (chars front ++ c ∷ []) text utf8
    (encodes-append (chars front) (c ∷ []) ∙ ap (λ bytes. bytes ++ (encode_utf8 c ++ [])) (encodes-chars front also)
    ∙ ap (λ bytes. front ++ bytes) (append-nil (encode_utf8 c)) ∙ sym is))

-- what stands before a column
pub front_of : (text : List ℕ) (byte column : ℕ) → IsUtf8 text → IsCharBoundary text byte →
    chars (drop byte text) ≡ drop column (chars text) → chars (take byte text) ≡ take column (chars text)
front_of text byte column utf8 boundary behind =
    append_cancel_right (chars (take byte text)) (take column (chars text)) (drop column (chars text))
    (ap (λ rest. chars (take byte text) ++ rest) (sym behind)
    ∙ sym (chars-append (take byte text) (drop byte text) (IsUtf8-take text byte utf8 boundary))
    ∙ ap chars (take-append-drop byte text)
    ∙ sym (take-append-drop column (chars text)))

one_byte : (c : ℕ) → len_utf8 c ≡ 1 → c < 128
one_byte c is = grind (arith, nat_tests)

ascii_more : (c : ℕ) (bytes : List ℕ) → c < 128 → IsAscii bytes → IsAscii (c ∷ bytes)
ascii_more c bytes small ascii zero = small
ascii_more c bytes small ascii (suc i) = ascii i

-- as many characters as bytes: each takes one
ascii_encoded : (characters : List ℕ) → length characters ≡ length (encode_utf8_all characters) →
    IsAscii (encode_utf8_all characters)
ascii_encoded [] same = λ i. omega arith
ascii_encoded (c ∷ characters) same =
    let bounds = len_utf8_bounds c in
    let long = length-append (encode_utf8 c) (encode_utf8_all characters) in
    let one : len_utf8 c ≡ 1 = omega (arith, same, length-le-encodes characters, bounds.0, long, length-encode c) in
    let small = one_byte c one in
    rw (encode_ascii c small) (ascii_more c (encode_utf8_all characters) small
    (ascii_encoded characters (omega (arith, same, one, long, length-encode c))))

pub is_ascii : (text : List ℕ) → IsUtf8 text → length (chars text) ≡ length text → IsAscii text
is_ascii text utf8 same =
    let whole = encodes-chars text utf8 in
    rw whole at (ascii_encoded (chars text) (same ∙ sym (ap length whole)))

-- no more characters than bytes
pub fewer_characters : (text : List ℕ) → IsUtf8 text → length (chars text) ≤ length text
fewer_characters text utf8 = omega (arith, length-le-encodes (chars text), ap length (encodes-chars text utf8))

pub found_at : (characters rest : List ℕ) (column c : ℕ) → drop column characters ≡ c ∷ rest →
    slice_get characters column ≡ Some c
found_at [] rest zero c is = absurd (let no : [] ≡ c ∷ rest = is in cc)
found_at [] rest (suc column) c is = absurd (let no : [] ≡ c ∷ rest = is in cc)
found_at (d ∷ characters) rest zero c is = ap (λ xs. slice_get xs 0) is
found_at (d ∷ characters) rest (suc column) c is = found_at characters rest column c is

-- the characters of a text with a part replaced
chars-replaced : (text new : List ℕ) (start end from to : ℕ) → IsUtf8 text → IsUtf8 new → IsCharBoundary text start →
    chars (take start text) ≡ take from (chars text) → chars (drop end text) ≡ drop to (chars text)
    → chars ((take start text ++ new) ++ drop end text) ≡ (take from (chars text) ++ chars new) ++ drop to (chars text)
chars-replaced text new start end from to utf8 also boundary front behind =
    let before = IsUtf8-take text start utf8 boundary in
    chars-append (take start text ++ new) (drop end text) (IsUtf8-append (take start text) new before also)
    ∙ ap₂ (λ xs ys. xs ++ ys) (chars-append (take start text) new before ∙ ap (λ xs. xs ++ chars new) front) behind

pub inserted_text : {old text found : List ℕ} (new : List ℕ) (byte column : ℕ) → text ≡ old → IsUtf8 text → IsUtf8 new →
    IsCharBoundary text byte → chars (take byte text) ≡ take column (chars text) →
    chars (drop byte text) ≡ drop column (chars text)
    → found ≡ (take byte old ++ new) ++ drop byte old → chars found ≡ inserted column (chars new) (chars old)
inserted_text {text = text} new byte column same utf8 also boundary front behind is =
    ap chars (is ∙ ap (λ t. (take byte t ++ new) ++ drop byte t) (sym same))
    ∙ chars-replaced text new byte byte column column utf8 also boundary front behind
    ∙ ap (λ t. inserted column (chars new) (chars t)) same

pub removed_text : {old text rest found : List ℕ} (start long from to : ℕ) → text ≡ old → IsUtf8 text →
    IsCharBoundary text start → chars (take start text) ≡ take from (chars text) →
    chars (drop start text) ≡ drop from (chars text)
    → rest ≡ drop start text → chars (drop long rest) ≡ drop (to - from) (chars rest) → from ≤ to
    → found ≡ (take start old ++ []) ++ drop (start + long) old → chars found ≡ removed from to (chars old)
removed_text {text = text} {rest = rest} start long from to same utf8 boundary front behind rest_is rest_behind ordered is =
    let further : chars (drop (start + long) text) ≡ drop to (chars text) =
    ap chars (sym (drop-drop long start text) ∙ ap (drop long) (sym rest_is))
    ∙ rest_behind
    ∙ ap (drop (to - from)) (ap chars rest_is ∙ behind)
    ∙ drop-drop (to - from) from (chars text)
    ∙ ap (λ n. drop n (chars text)) (let sum : from + (to - from) ≡ to = omega arith in sum) in
    ap chars (is ∙ ap (λ t. (take start t ++ []) ++ drop (start + long) t) (sym same))
    ∙ chars-replaced text [] start (start + long) from to utf8 IsUtf8-nil boundary front further
    ∙ ap (λ xs. xs ++ drop to (chars text)) (ap (λ xs. take from (chars text) ++ xs) chars-nil
    ∙ append-nil (take from (chars text)))
    ∙ ap (λ t. removed from to (chars t)) same
