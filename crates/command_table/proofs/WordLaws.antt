-- What the bytes of words say of their characters.
use Rattle.command_table.proofs.Common.{◌≡◌, ℕ, ◌<◌, ◌≤◌, Bool, true, false, List, [], ◌∷◌, ◌++◌, length, drop, get_or}
use Rattle.command_table.proofs.Common.{refl, sym, ap, ◌∙◌, arith, chars, bytes_eq, IsUtf8, encode_utf8}
use Rattle.command_table.proofs.Common.{encode_utf8_all, ◌==◌, nat_eq, starts_with, false≢true, same_from_decides}
use Rattle.command_table.proofs.Common.{Decides-eqb, chars-append, encodes-append, encodes-chars, encode_ascii}
use Rattle.command_table.proofs.Common.{char_from_byte, is_character, is_dashed, ◌≢◌, bytes_eq-Decides, starts_is}

pub bytes_eq-chars : (a b : List ℕ) → IsUtf8 a → IsUtf8 b → bytes_eq a b ≡ bytes_eq (chars a) (chars b)
bytes_eq-chars a b text other =
    let bytes = bytes_eq-Decides a b in
    let characters = bytes_eq-Decides (chars a) (chars b) in
    let back : chars a ≡ chars b → a ≡ b = λ same. sym (encodes-chars a text) ∙ ap encode_utf8_all same
    ∙ encodes-chars b other in
    same_from_decides _ _ bytes (λ same. back (characters.0 same), λ same. characters.1 (ap chars same))

-- two tests that pass together are one
pub same_tests : (a b : Bool) → (a ≡ true → b ≡ true) → (b ≡ true → a ≡ true) → a ≡ b
same_tests true true to from = refl
same_tests true false to from = sym (to refl)
same_tests false true to from = from refl
same_tests false false to from = refl

-- words of other lengths are other words
pub longer-chars : (a b : List ℕ) → IsUtf8 a → IsUtf8 b → length a ≢ length b →
    (length a == length b) ≡ bytes_eq (chars a) (chars b)
longer-chars a b text other longer =
    same_tests (length a == length b) (bytes_eq a b)
    (λ passes. absurd (longer ((Decides-eqb (length a) (length b)).0 passes)))
    (λ passes. (Decides-eqb (length a) (length b)).1 (ap length ((bytes_eq-Decides a b).0 passes)))
    ∙ bytes_eq-chars a b text other

pub starts_with-chars : (text front : List ℕ) → IsUtf8 text → IsUtf8 front →
    starts_with nat_eq text front ≡ starts_with is_character (chars text) (chars front)
starts_with-chars text front is_text is_front =
    let bytes = starts_is Decides-eqb text front (starts_with nat_eq text front) refl in
    let characters = starts_is Decides-eqb (chars text) (chars front)
    (starts_with is_character (chars text) (chars front)) refl in
    same_tests _ _
    (λ passes. characters.1 _ (ap chars (bytes.0 passes) ∙ chars-append front _ is_front))
    (λ passes. bytes.1 _ (sym (encodes-chars text is_text) ∙ ap encode_utf8_all (characters.0 passes)
    ∙ encodes-append (chars front) _ ∙ ap (λ x. x ++ encode_utf8_all (drop (length (chars front)) (chars text)))
    (encodes-chars front is_front)))

dash_in_bytes : (c : ℕ) (rest bytes : List ℕ) → encode_utf8 c ++ rest ≡ bytes → (c == 45) ≡ true →
    is_dashed bytes ≡ true
dash_in_bytes c rest bytes is dash =
    let same : c ≡ 45 = (Decides-eqb c 45).0 dash in
    sym (ap is_dashed (ap (λ x. x ++ rest) (sym (encode_ascii 45 (omega arith)) ∙ ap encode_utf8 (sym same)) ∙ is))

dash_of_bytes : (c : ℕ) (rest bytes : List ℕ) → bytes ≡ encode_utf8 c ++ rest → is_dashed bytes ≡ true →
    (c == 45) ≡ true
dash_of_bytes c rest [] is dash = absurd (false≢true dash)
dash_of_bytes c rest (b ∷ bytes) is dash =
    let same : b ≡ 45 = (Decides-eqb b 45).0 dash in
    (Decides-eqb c 45).1 (char_from_byte (b ∷ bytes) rest c is (omega (arith, same)) (omega arith) ∙ same)

dashed : (characters bytes : List ℕ) → encode_utf8_all characters ≡ bytes → is_dashed characters ≡ is_dashed bytes
dashed [] bytes is = ap is_dashed is
dashed (c ∷ cs) bytes is =
    same_tests _ _ (dash_in_bytes c (encode_utf8_all cs) bytes is) (dash_of_bytes c (encode_utf8_all cs) bytes (sym is))

pub is_dashed-chars : (bytes : List ℕ) → IsUtf8 bytes → is_dashed (chars bytes) ≡ is_dashed bytes
is_dashed-chars bytes text = dashed (chars bytes) bytes (encodes-chars bytes text)

pub is_dashed-none : (bytes : List ℕ) → length bytes < 1 → is_dashed bytes ≡ false
is_dashed-none [] short = refl
is_dashed-none (b ∷ bytes) short = absurd (omega arith)

pub is_dashed-some : (bytes : List ℕ) → 1 ≤ length bytes → is_dashed bytes ≡ (get_or bytes 0 0 == 45)
is_dashed-some [] long = absurd (omega arith)
is_dashed-some (b ∷ bytes) long = refl
