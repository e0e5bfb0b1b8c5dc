-- The characters of a text and its bytes.
use Rattle.search_dump.proofs.Common.{◌≡◌, inl, inr, ℕ, ◌+◌, ◌<◌, ◌≤◌, List, [], ◌∷◌, ◌++◌, refl, sym, ap, ◌∙◌, arith}
use Rattle.search_dump.proofs.Common.{length, take, drop, get_or, map, chars, encode_utf8, encode_utf8_all, ap₂, suc}
use Rattle.search_dump.proofs.Common.{IsAscii, IsCharBoundary, IsUtf8, cases_eq, drop_at, length-append, length-drop}
use Rattle.search_dump.proofs.Common.{length-take, map_more, take-append-drop, take_at, take-take, IsUtf8-take}
use Rattle.search_dump.proofs.Common.{chars-append, chars_past_char, encodes-append, encodes-chars, chars-IsAscii}
use Rattle.search_dump.proofs.Common.{length-le-encodes, simple_fold-ascii, simple_fold, append-nil}
use Rattle.std.specs.Char.{to_ascii_lowercase}
use Rattle.std.proofs.lemmas.Str.Ascii.{IsAscii-map, lowercase_ascii}

-- one character more that is folded
pub folded-more : (cs : List ℕ) (n m c fold : ℕ) (old new : List ℕ) → (n < length cs) × (c ≡ get_or cs n c) →
    m ≡ n + 1 → fold ≡ simple_fold c
    → old ≡ encode_utf8_all (map simple_fold (take n cs)) → new ≡ old ++ encode_utf8 fold →
    new ≡ encode_utf8_all (map simple_fold (take m cs))
folded-more cs n m c fold old new within one is before after =
    after ∙ ap (λ bytes. bytes ++ encode_utf8 fold) before
    ∙ ap (λ bytes. encode_utf8_all (map simple_fold (take n cs)) ++ bytes) (sym (append-nil (encode_utf8 fold)))
    ∙ ap (λ k. encode_utf8_all (map simple_fold (take n cs)) ++ encode_utf8_all (k ∷ [])) (is ∙ ap simple_fold within.1)
    ∙ sym (encodes-append (map simple_fold (take n cs)) (simple_fold (get_or cs n c) ∷ []))
    ∙ ap encode_utf8_all (sym (map_more simple_fold cs n c within.0))
    ∙ ap (λ k. encode_utf8_all (map simple_fold (take k cs))) (sym one)

-- how many bytes the first characters take
pub bytes_before : List ℕ → ℕ → ℕ
bytes_before cs n = length (encode_utf8_all (take n cs))

-- more characters take more bytes
pub bytes_before-less : (cs : List ℕ) (n m : ℕ) → n < m → m ≤ length cs → bytes_before cs n < bytes_before cs m
unfolding bytes_before
bytes_before-less cs n m less within =
    let parts : take m cs ≡ take n cs ++ drop n (take m cs) = sym (take-append-drop n (take m cs))
    ∙ ap (λ xs. xs ++ drop n (take m cs)) (take-take n m cs (omega arith)) in
    let bytes : length (encode_utf8_all (take m cs))
    ≡ length (encode_utf8_all (take n cs)) + length (encode_utf8_all (drop n (take m cs))) =
    ap (λ xs. length (encode_utf8_all xs)) parts ∙ ap length (encodes-append (take n cs) (drop n (take m cs)))
    ∙ length-append (encode_utf8_all (take n cs)) (encode_utf8_all (drop n (take m cs))) in
    omega (arith, bytes, length-le-encodes (drop n (take m cs)), length-drop n (take m cs), length-take m cs)

-- what follows the first characters
pub drop_bytes : (cs : List ℕ) (n : ℕ) → drop (bytes_before cs n) (encode_utf8_all cs) ≡ encode_utf8_all (drop n cs)
unfolding bytes_before
drop_bytes cs n =
    ap (drop (length (encode_utf8_all (take n cs)))) (ap encode_utf8_all (sym (take-append-drop n cs))
    ∙ encodes-append (take n cs) (drop n cs))
    ∙ drop_at (encode_utf8_all (take n cs)) (encode_utf8_all (drop n cs)) (length (encode_utf8_all (take n cs))) refl

-- a text that is cut in two
pub chars-cut : (bs : List ℕ) (i : ℕ) → IsUtf8 bs → IsCharBoundary bs i →
    chars bs ≡ chars (take i bs) ++ chars (drop i bs)
chars-cut bs i utf8 cut =
    ap chars (sym (take-append-drop i bs)) ∙ chars-append (take i bs) (drop i bs) (IsUtf8-take bs i utf8 cut)

pub chars-front : (bs : List ℕ) (i : ℕ) → IsUtf8 bs → IsCharBoundary bs i →
    take (length (chars (take i bs))) (chars bs) ≡ chars (take i bs)
chars-front bs i utf8 cut =
    ap (take (length (chars (take i bs)))) (chars-cut bs i utf8 cut)
    ∙ take_at (chars (take i bs)) (chars (drop i bs)) (length (chars (take i bs))) refl

pub chars-rest : (bs : List ℕ) (i : ℕ) → IsUtf8 bs → IsCharBoundary bs i →
    drop (length (chars (take i bs))) (chars bs) ≡ chars (drop i bs)
chars-rest bs i utf8 cut =
    ap (drop (length (chars (take i bs)))) (chars-cut bs i utf8 cut)
    ∙ drop_at (chars (take i bs)) (chars (drop i bs)) (length (chars (take i bs))) refl

pub front-within : (bs : List ℕ) (i : ℕ) → IsUtf8 bs → IsCharBoundary bs i →
    length (chars (take i bs)) ≤ length (chars bs)
front-within bs i utf8 cut =
    omega (arith, ap length (chars-cut bs i utf8 cut), length-append (chars (take i bs)) (chars (drop i bs)))

pub bytes_before-cut : (bs : List ℕ) (i : ℕ) → IsUtf8 bs → IsCharBoundary bs i →
    bytes_before (chars bs) (length (chars (take i bs))) ≡ i
unfolding bytes_before
bytes_before-cut bs i utf8 cut =
    ap (λ xs. length (encode_utf8_all xs)) (chars-front bs i utf8 cut)
    ∙ ap length (encodes-chars (take i bs) (IsUtf8-take bs i utf8 cut))
    ∙ omega (arith, length-take i bs, cut.0)

pub bytes_before-within : (bs : List ℕ) (n : ℕ) → IsUtf8 bs → bytes_before (chars bs) n ≤ length bs
unfolding bytes_before
bytes_before-within bs n utf8 =
    omega (
      arith,
      ap length (sym (encodes-chars bs utf8) ∙ ap encode_utf8_all (sym (take-append-drop n (chars bs)))
          ∙ encodes-append (take n (chars bs)) (drop n (chars bs))),
      length-append (encode_utf8_all (take n (chars bs))) (encode_utf8_all (drop n (chars bs))),
    )

-- the bytes before the second character
pub bytes_of_first : (bs later : List ℕ) (c : ℕ) → IsUtf8 bs → bs ≡ encode_utf8 c ++ later →
    bytes_before (chars bs) 1 ≡ length (encode_utf8 c)
unfolding bytes_before
bytes_of_first bs later c utf8 first =
    ap (λ cs. length (encode_utf8_all (take 1 cs))) (chars_past_char bs later c utf8 first)
    ∙ ap length (append-nil (encode_utf8 c))

pub bytes_of_none : (cs : List ℕ) → bytes_before cs 0 ≡ 0
unfolding bytes_before
bytes_of_none cs = refl

pub bytes_before-least : (cs : List ℕ) (n m : ℕ) → n ≤ m → m ≤ length cs → bytes_before cs n ≤ bytes_before cs m
bytes_before-least cs n m least within =
    elim (cases_eq n m) [
      | inl same ↦ omega (arith, ap (bytes_before cs) same)
      | inr other ↦ omega (arith, bytes_before-less cs n m (omega arith) within)
    ]

-- ASCII is folded by its small letters
folds-ascii : (bs : List ℕ) → IsAscii bs → map to_ascii_lowercase bs ≡ map simple_fold bs
folds-ascii [] ascii = refl
folds-ascii (b ∷ bs) ascii =
    ap₂ (λ c cs. c ∷ cs) (sym (simple_fold-ascii b (ascii 0))) (folds-ascii bs (λ i. ascii (suc i)))

pub lower-folds : (old new : List ℕ) → IsAscii old → new ≡ map to_ascii_lowercase old →
    chars new ≡ map simple_fold (chars old)
lower-folds old new ascii is =
    ap chars is ∙ chars-IsAscii (map to_ascii_lowercase old)
    (IsAscii-map to_ascii_lowercase old lowercase_ascii ascii) ∙ folds-ascii old ascii
    ∙ ap (map simple_fold) (sym (chars-IsAscii old ascii))

-- an ASCII text has as many characters as bytes
pub ascii_count : (bytes : List ℕ) → IsAscii bytes → length bytes ≡ length (chars bytes)
ascii_count bytes ascii = ap length (sym (chars-IsAscii bytes ascii))
