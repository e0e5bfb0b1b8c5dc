-- What the bytes at which characters begin say of the characters of a text.
use Rattle.text_model.proofs.Common.{◌≡◌, ℕ, ◌+◌, ◌%◌, ◌^◌, ◌<◌, ◌≤◌, List, [], ◌∷◌, ◌++◌, Bool, true, false, cond}
use Rattle.text_model.proofs.Common.{length, take, drop, get_or, map, replicate, refl, sym, ap, ap₂, ◌∙◌, arith, ◌-◌}
use Rattle.text_model.proofs.Common.{◌/◌, length-take, chars, encode_utf8, encode_utf8_all, IsUtf8, nat_tests}
use Rattle.text_model.proofs.Common.{length-map, count_by-le-length, sum_by-append, sum_by-cons, chars-append}
use Rattle.text_model.proofs.Common.{encodes-chars, ltb, count_by, count_ones, w8, take-add, take-append-drop}
use Rattle.text_model.proofs.Common.{IsCharBoundary, bitmask_splat, map-map, ones-mask_l, zip2_splat, IsUtf8-take}
use Rattle.text_model.proofs.Common.{begins_character, beginnings}
use Rattle.std.proofs.Common.{Fits}
use lib.Lanes.{Each1, chunk, mask_l, top, zip2}
use lib.Seq.{drop-append_seam}
use lib.Utf8.{encode}

-- 64 more make the bytes that go on with a character the greatest
moved_test : (byte : ℕ) → byte < 256 → ltb ((byte + 64) % 256) 192 ≡ begins_character byte
moved_test byte small = grind (arith, nat_tests)

moved_count : (bytes : List ℕ) → Each1 (Fits w8) bytes →
    count_by (λ byte. ltb ((byte + 64) % 256) 192) bytes ≡ beginnings bytes
moved_count [] fits = refl
moved_count (byte ∷ bytes) fits =
    sum_by-cons (λ b. cond (ltb ((b + 64) % 256) 192) 1 0) byte bytes
    ∙ ap₂ (λ a b. a + b) (ap (λ t. cond t 1 0) (moved_test byte fits.0.fits)) (moved_count bytes fits.1)
    ∙ sym (sum_by-cons (λ b. cond (begins_character b) 1 0) byte bytes)

-- what is counted in a block
abbrev below_192 : List ℕ → List ℕ
below_192 bytes = zip2 (λ a b. cond (ltb a b) (2 ^ 8 - 1) 0) bytes (replicate 32 192)

abbrev pub counted : List ℕ → ℕ
counted bytes =
    count_ones (mask_l (map (top 7) (below_192 (zip2 (λ a b. (a + b) % 256) bytes (replicate 32 64)))) % 2 ^ 64)

pub block_count : (bytes : List ℕ) → length bytes ≡ 32 → Each1 (Fits w8) bytes → counted bytes ≡ beginnings bytes
block_count bytes long fits =
    let added = map (λ byte. (byte + 64) % 256) bytes in
    let long_too : length added ≡ 32 = length-map bytes (λ byte. (byte + 64) % 256) ∙ long in
    ap (λ v. count_ones (mask_l (map (top 7) (below_192 v)) % 2 ^ 64))
    (zip2_splat (λ a b. (a + b) % 256) bytes 32 64 long)
    ∙ ap count_ones (bitmask_splat w8 ltb added 32 192 long_too (omega arith))
    ∙ ap (λ bits. count_ones (mask_l bits)) (map-map (λ byte. ltb byte 192) (λ byte. (byte + 64) % 256) bytes)
    ∙ ones-mask_l (λ byte. ltb ((byte + 64) % 256) 192) bytes
    ∙ moved_count bytes fits

pub more_beginnings : (bytes : List ℕ) (start n : ℕ) →
    beginnings (take (start + n) bytes) ≡ beginnings (take start bytes) + beginnings (chunk start n bytes)
more_beginnings bytes start n =
    ap beginnings (take-add start n bytes)
    ∙ sum_by-append (λ b. cond (begins_character b) 1 0) (take start bytes) (take n (drop start bytes))

pub rest_beginnings : (bytes : List ℕ) (start : ℕ) →
    beginnings (take start bytes) + beginnings (drop start bytes) ≡ beginnings bytes
rest_beginnings bytes start =
    sym (sum_by-append (λ b. cond (begins_character b) 1 0) (take start bytes) (drop start bytes))
    ∙ ap beginnings (take-append-drop start bytes)

-- no more than there are bytes
few_beginnings : (bytes : List ℕ) (n : ℕ) → beginnings (take n bytes) ≤ n
few_beginnings bytes n =
    omega (arith, count_by-le-length begins_character (take n bytes), length-take n bytes)

pub fewer_beginnings : (bytes : List ℕ) (start n : ℕ) →
    beginnings (take start bytes) + beginnings (chunk start n bytes) ≤ start + n
fewer_beginnings bytes start n = omega (arith, few_beginnings bytes start, few_beginnings (drop start bytes) n)

first_begins : (byte : ℕ) → 192 ≤ byte → begins_character byte ≡ true
first_begins byte high = grind (arith, nat_tests)

next_goes_on : (bits : ℕ) → begins_character (128 + bits % 64) ≡ false
next_goes_on bits = grind (arith, nat_tests)

low_begins : (byte : ℕ) → ltb byte 128 ≡ true → begins_character byte ≡ true
low_begins byte low = rw low refl

one_of_two : (a b : ℕ) → 192 ≤ a → beginnings (a ∷ (128 + b % 64) ∷ []) ≡ 1
one_of_two a b high = rw (first_begins a high, next_goes_on b) refl

one_of_three : (a b c : ℕ) → 192 ≤ a → beginnings (a ∷ (128 + b % 64) ∷ (128 + c % 64) ∷ []) ≡ 1
one_of_three a b c high = rw (first_begins a high, next_goes_on b, next_goes_on c) refl

one_of_four : (a b c d : ℕ) → 192 ≤ a → beginnings (a ∷ (128 + b % 64) ∷ (128 + c % 64) ∷ (128 + d % 64) ∷ []) ≡ 1
one_of_four a b c d high = rw (first_begins a high, next_goes_on b, next_goes_on c, next_goes_on d) refl

one_of : (x y z : Bool) (one two three four : List ℕ) → (x ≡ true → beginnings one ≡ 1) → beginnings two ≡ 1 →
    beginnings three ≡ 1 → beginnings four ≡ 1 → beginnings (cond x one (cond y two (cond z three four))) ≡ 1
one_of true y z one two three four a b c d = a refl
one_of false true z one two three four a b c d = b
one_of false false true one two three four a b c d = c
one_of false false false one two three four a b c d = d

-- a character has one byte that begins it, its first
one_beginning : (c : ℕ) → beginnings (encode_utf8 c) ≡ 1
unfolding encode
one_beginning c =
    one_of (ltb c 128) (ltb c 2048) (ltb c 65536) _ _ _ _ (λ low. rw (low_begins c low) refl)
    (one_of_two (192 + c / 64) c (omega arith)) (one_of_three (224 + c / 4096) (c / 64) c (omega arith))
    (one_of_four (240 + c / 262144) (c / 4096) (c / 64) c (omega arith))

beginnings-encoded : (characters : List ℕ) → beginnings (encode_utf8_all characters) ≡ length characters
beginnings-encoded [] = refl
beginnings-encoded (c ∷ characters) =
    let split = sum_by-append (λ b. cond (begins_character b) 1 0) (encode_utf8 c) (encode_utf8_all characters) in
    omega (arith, split, one_beginning c, beginnings-encoded characters)

-- as many characters as bytes that begin one
pub beginnings-chars : (text : List ℕ) → IsUtf8 text → beginnings text ≡ length (chars text)
beginnings-chars text utf8 = ap beginnings (sym (encodes-chars text utf8)) ∙ beginnings-encoded (chars text)

begins_high : (byte : ℕ) → begins_character byte ≡ true → 128 ≤ byte → 192 ≤ byte
begins_high byte begins high = grind (arith, nat_tests)

-- a place at which a character begins, or the end, is one where the text may be cut
pub cut_at_beginning : (text : List ℕ) (byte : ℕ) → byte ≤ length text →
    (byte < length text → begins_character (get_or text byte 0) ≡ true) → IsCharBoundary text byte
cut_at_beginning text byte within begins = (within, λ inside high. begins_high (get_or text byte 0) (begins inside) high)

-- what stands behind a cut with so many beginnings before it
pub behind_beginnings : (text : List ℕ) (byte column : ℕ) → IsUtf8 text → IsCharBoundary text byte →
    beginnings (take byte text) ≡ column → chars (drop byte text) ≡ drop column (chars text)
behind_beginnings text byte column utf8 boundary counted =
    let front = IsUtf8-take text byte utf8 boundary in
    let long : length (chars (take byte text)) ≡ column = sym (beginnings-chars (take byte text) front) ∙ counted in
    let split : chars text ≡ chars (take byte text) ++ chars (drop byte text) =
    ap chars (sym (take-append-drop byte text)) ∙ chars-append (take byte text) (drop byte text) front in
    sym (ap₂ (λ n xs. drop n xs) (sym long) split ∙ drop-append_seam (chars (take byte text)) (chars (drop byte text)))
