-- Integers of bytes are those of characters, and numbers of at most nine digits are small.
use Rattle.command_table.proofs.Common.{◌≡◌, take_all, le-leb, ℕ, zero, suc, ◌^◌, ◌<◌, ◌≤◌, Bool, true, false, ◌&&◌}
use Rattle.command_table.proofs.Common.{List, [], ◌∷◌, length, take, w32, to_z, refl, sym, ap, ap₂, ◌∙◌, arith}
use Rattle.command_table.proofs.Common.{is_ascii_digit, list_all, IsAscii, IsUtf8, slice_index, ℤ, pos, neg_ℤ, nat_lt}
use Rattle.command_table.proofs.Common.{nat_le, fold, option_map, ◌==◌, if◌then◌else◌, false≢true, nat_tests}
use Rattle.command_table.proofs.Common.{Decides-eqb, Decides-ltb, chars-IsAscii, encodes-IsAscii, encodes-chars}
use Rattle.command_table.proofs.Common.{add_digit, number_of, integer_of, Option, Some, None}
use Rattle.std.specs.Str.{chars}
use Rattle.std.proofs.Math.Facts.{to_z_pos}
use Rattle.std.proofs.Math.Nat.{pow-le-pow_right}

pub ten_to_small : (i : ℕ) → i ≤ 9 → 10 ^ i ≤ 1000000000
ten_to_small i few = pow-le-pow_right {n = 10} (omega arith) few

pub ten_to_smaller : (i : ℕ) → i ≤ 8 → 10 ^ i ≤ 100000000
ten_to_smaller i few = pow-le-pow_right {n = 10} (omega arith) few

abbrev is_low : ℕ → Bool
is_low c = nat_lt c 128

low_digit : (c : ℕ) → is_ascii_digit c ≡ true → is_low c ≡ true
low_digit c digit = grind (arith, nat_tests)

low_digits : (text : List ℕ) → list_all is_ascii_digit text ≡ true → list_all is_low text ≡ true
low_digits [] digits = refl
low_digits (c ∷ text) digits =
    elim (is_ascii_digit c) as (λ b. is_ascii_digit c ≡ b → (b && list_all is_ascii_digit text) ≡ true →
    (is_low c && list_all is_low text) ≡ true) [
      | true ↦ λ here rest. ap (λ b. b && list_all is_low text) (low_digit c here) ∙ low_digits text rest
      | false ↦ λ _ none. absurd (false≢true none)
    ] refl digits

and_last : (a b c : Bool) → c ≡ false → (a && b && c) ≡ false
and_last true true c is = is
and_last true false c is = refl
and_last false b c is = refl

low_number : (text : List ℕ) (n : ℕ) → number_of text ≡ Some n → list_all is_low text ≡ true
low_number text n is =
    elim (list_all is_ascii_digit text) as (λ b. list_all is_ascii_digit text ≡ b → list_all is_low text ≡ true) [
      | true ↦ λ digits. low_digits text digits
      | false ↦ λ others. absurd (let h : None ≡ Some n =
          sym (ap (λ b. if b then Some (fold add_digit 0 text)
          else None) (and_last (nat_lt 0 (length text)) (nat_le (length text) 9) (list_all is_ascii_digit text) others))
          ∙ is in cc)
    ] refl

low_mapped : (f : ℕ → ℤ) (text : List ℕ) (found : Option ℕ) (z : ℤ) → number_of text ≡ found →
    option_map f found ≡ Some z → list_all is_low text ≡ true
low_mapped f text None z number is = absurd (let h : None ≡ Some z = is in cc)
low_mapped f text (Some n) z number is = low_number text n number

low_signed : (c sign : ℕ) (text : List ℕ) → sign < 128 → (c == sign) ≡ true → list_all is_low text ≡ true →
    list_all is_low (c ∷ text) ≡ true
low_signed c sign text small same rest =
    let is : c ≡ sign = (Decides-eqb c sign).0 same in
    ap (λ b. b && list_all is_low text) ((Decides-ltb c 128).1 (omega (arith, is))) ∙ rest

low_integer : (text : List ℕ) (z : ℤ) → integer_of text ≡ Some z → list_all is_low text ≡ true
low_integer [] z is = refl
low_integer (c ∷ cs) z is =
    elim (c == 43) as (λ b. (c == 43) ≡ b →
    (if b then option_map (λ n. pos n) (number_of cs)
    else (if c == 45 then option_map (λ n. neg_ℤ (pos n)) (number_of cs)
    else option_map (λ n. pos n) (number_of (c ∷ cs)))) ≡ Some z → list_all is_low (c ∷ cs) ≡ true) [
      | true ↦ λ plus found. low_signed c 43 cs (omega arith) plus (low_mapped _ cs (number_of cs) z refl found)
      | false ↦ λ _. elim (c == 45) as (λ b. (c == 45) ≡ b →
          (if b then option_map (λ n. neg_ℤ (pos n)) (number_of cs) else option_map (λ n. pos n) (number_of (c ∷ cs)))
          ≡ Some z → list_all is_low (c ∷ cs) ≡ true) [
            | true ↦ λ minus found. low_signed c 45 cs (omega arith) minus (low_mapped _ cs (number_of cs) z refl found)
            | false ↦ λ _ found. low_mapped _ (c ∷ cs) (number_of (c ∷ cs)) z refl found
          ] refl
    ] refl is

ascii_of : (text : List ℕ) → list_all is_low text ≡ true → IsAscii text
ascii_of [] low i = omega arith
ascii_of (c ∷ text) low i =
    elim (is_low c) as (λ b. is_low c ≡ b → (b && list_all is_low text) ≡ true → slice_index (c ∷ text) i < 128) [
      | false ↦ λ _ none. absurd (false≢true none)
      | true ↦ λ here rest. elim i as (λ j. slice_index (c ∷ text) j < 128) [
        | zero ↦ (Decides-ltb c 128).0 here
        | suc j ↦ ascii_of text rest j
      ]
    ] refl low

pub integer_of-chars : (bytes : List ℕ) → IsUtf8 bytes → integer_of bytes ≡ integer_of (chars bytes)
integer_of-chars bytes text =
    elim (integer_of bytes) as (λ o. integer_of bytes ≡ o → o ≡ integer_of (chars bytes)) [
      | Some z ↦ λ is. sym is ∙ ap integer_of (sym (chars-IsAscii bytes (ascii_of bytes (low_integer bytes z is))))
      | None ↦ λ none. elim (integer_of (chars bytes)) as (λ o. integer_of (chars bytes) ≡ o → None ≡ o) [
        | None ↦ λ _. refl
        | Some z ↦ λ is.
            let ascii = ascii_of (chars bytes) (low_integer (chars bytes) z is) in
            let same : chars bytes ≡ bytes = sym (encodes-IsAscii (chars bytes) ascii) ∙ encodes-chars bytes text in
            sym none ∙ ap integer_of (sym same) ∙ is
      ] refl
    ] refl

-- digits of which a loop has seen all
pub number_of-digits : (digits : List ℕ) (seen number : ℕ) → 0 < length digits → length digits ≤ 9 →
    length digits ≤ seen
    → list_all is_ascii_digit (take seen digits) ≡ true → number ≡ fold add_digit 0 (take seen digits) →
    number < 10 ^ seen → seen ≤ length digits
    → Some (to_z w32 number) ≡ option_map (λ n. pos n) (number_of digits)
number_of-digits digits seen number some few all are is small within =
    let whole : take seen digits ≡ digits = take_all seen digits all in
    let pass : list_all is_ascii_digit digits ≡ true = ap (list_all is_ascii_digit) (sym whole) ∙ are in
    let counted : (nat_lt 0 (length digits) && nat_le (length digits) 9) ≡ true =
    ap₂ (λ a b. a && b) ((Decides-ltb 0 (length digits)).1 some) (le-leb (length digits) 9 few) in
    ap Some (to_z_pos w32 (omega (arith, small, ten_to_small seen (omega arith))))
    ∙ ap (λ n. Some (pos n)) (is ∙ ap (fold add_digit 0) whole)
    ∙ sym (ap (λ b. option_map (λ n. pos n) (if b then Some (fold add_digit 0 digits) else None))
    (ap₂ (λ a b. a && b) counted pass))
