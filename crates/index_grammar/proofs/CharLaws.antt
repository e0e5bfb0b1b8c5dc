-- Where a word is cut at a blank or a sign, its characters are too.
use Rattle.index_grammar.proofs.Common.{◌≡◌, ℕ, ◌+◌, ◌<◌, ◌≤◌, Bool, true, false, cond, not, ◌&&◌, List, [], ◌∷◌, ◌++◌}
use Rattle.index_grammar.proofs.Common.{take, drop, length, get_or, refl, sym, ap, ◌∙◌, arith, chars, IsUtf8}
use Rattle.index_grammar.proofs.Common.{IsCharBoundary, encode_utf8_all, nat_lt, option_map, list_all, prefix_len}
use Rattle.index_grammar.proofs.Common.{nat_tests, Decides-ltb, false≢true, take-append-drop, drop_more}
use Rattle.index_grammar.proofs.Common.{prefix_len-le-length, list_all-append, encodes-chars, encode_ascii}
use Rattle.index_grammar.proofs.Common.{chars-append, chars-nil, chars-IsAscii, IsUtf8-take, IsUtf8-from_ascii}
use Rattle.index_grammar.proofs.Common.{IsCharBoundary-before_ascii, is_break, closes, place_base, place_of, of_length}
use Rattle.index_grammar.proofs.Common.{saturated_base, read_of, Base, Option, Some, None, length-drop, ◌-◌}
use Rattle.index_grammar.proofs.Common.{if◌then◌else◌, IsClosed, with_rest}
use lib.Utf8.{encode}
use Rattle.index_grammar.proofs.LowLaws.{ascii_of}
use Rattle.index_grammar.proofs.PlaceLaws.{place_of-chars}
use Rattle.index_grammar.proofs.TokenLaws.{inside, prefix-append, take-front, drop-front, one}

pub both : (a b : Bool) → (a && b) ≡ true → (a ≡ true) × (b ≡ true)
both true b is = (refl, is)
both false b is = absurd (false≢true is)

pub inside-high : (c : ℕ) → nat_lt c 128 ≡ false → inside c ≡ true
inside-high c high = grind (arith, nat_tests)

pub break-low : (c : ℕ) → is_break c ≡ true → nat_lt c 128 ≡ true
break-low c breaks = grind (arith, nat_tests)

inside-encodes : (cs : List ℕ) → list_all inside (encode_utf8_all cs) ≡ true → list_all inside cs ≡ true
inside-encodes [] all = refl
inside-encodes (c ∷ cs) all =
    let parts = both (list_all inside (encode c)) (list_all inside (encode_utf8_all cs))
    (sym (list_all-append inside (encode c) (encode_utf8_all cs)) ∙ all) in
    let first : inside c ≡ true = elim (nat_lt c 128) as (λ b. nat_lt c 128 ≡ b → inside c ≡ true) [
      | true ↦ λ low. (both (inside c) true (sym (ap (list_all inside) (encode_ascii c ((Decides-ltb c 128).0 low)))
          ∙ parts.0)).0
      | false ↦ λ high. inside-high c high
    ] refl in
    ap (λ b. b && list_all inside cs) first ∙ inside-encodes cs parts.1

pub inside-chars : (bytes : List ℕ) → IsUtf8 bytes → list_all inside bytes ≡ true → list_all inside (chars bytes) ≡ true
inside-chars bytes text all = inside-encodes (chars bytes) (ap (list_all inside) (encodes-chars bytes text) ∙ all)

pub chars-cut : (bytes : List ℕ) (at : ℕ) → IsUtf8 bytes → IsCharBoundary bytes at →
    chars bytes ≡ chars (take at bytes) ++ chars (drop at bytes)
chars-cut bytes at text boundary = ap chars (sym (take-append-drop at bytes))
    ∙ chars-append (take at bytes) (drop at bytes) (IsUtf8-take bytes at text boundary)

pub chars-low : (c : ℕ) (cs : List ℕ) → nat_lt c 128 ≡ true → chars (c ∷ cs) ≡ c ∷ chars cs
chars-low c cs low =
    let ascii = ascii_of (c ∷ []) (ap (λ b. b && true) low) in
    chars-append (c ∷ []) cs (IsUtf8-from_ascii (c ∷ []) ascii)
    ∙ ap (λ xs. xs ++ chars cs) (chars-IsAscii (c ∷ []) ascii)

pub closes-chars : (bytes : List ℕ) → closes bytes ≡ true → closes (chars bytes) ≡ true
closes-chars [] closed = ap closes chars-nil
closes-chars (c ∷ cs) closed = ap closes (chars-low c cs (break-low c closed)) ∙ closed

closes-none : (cs : List ℕ) → closes cs ≡ true → prefix_len inside cs ≡ 0
closes-none [] closed = refl
closes-none (c ∷ cs) closed = ap (λ b. cond (not b) (1 + prefix_len inside cs) 0) closed

pub closes-rest : (bytes : List ℕ) → closes (drop (prefix_len inside bytes) bytes) ≡ true
closes-rest [] = refl
closes-rest (c ∷ cs) = elim (is_break c) as (λ b. is_break c ≡ b →
    closes (drop (cond (not b) (1 + prefix_len inside cs) 0) (c ∷ cs)) ≡ true) [
      | true ↦ λ is. is
      | false ↦ λ _. ap (λ k. closes (drop k (c ∷ cs))) (one (prefix_len inside cs)) ∙ closes-rest cs
    ] refl

inside-front : (bytes : List ℕ) → list_all inside (take (prefix_len inside bytes) bytes) ≡ true
inside-front [] = refl
inside-front (c ∷ cs) = elim (is_break c) as (λ b. is_break c ≡ b →
    list_all inside (take (cond (not b) (1 + prefix_len inside cs) 0) (c ∷ cs)) ≡ true) [
      | true ↦ λ _. refl
      | false ↦ λ other. ap (λ k. list_all inside (take k (c ∷ cs))) (one (prefix_len inside cs))
          ∙ ap (λ b. not b && list_all inside (take (prefix_len inside cs) cs)) other ∙ inside-front cs
    ] refl

-- a blank or a sign is a byte of its own
pub break-boundary : (bytes : List ℕ) (at : ℕ) → at ≤ length bytes → closes (drop at bytes) ≡ true →
    IsCharBoundary bytes at
break-boundary bytes at within closed =
    elim (nat_lt at (length bytes)) as (λ b. nat_lt at (length bytes) ≡ b → IsCharBoundary bytes at) [
      | true ↦ λ is.
          let lt : at < length bytes = (Decides-ltb at (length bytes)).0 is in
          let here : is_break (get_or bytes at 0) ≡ true = sym (ap closes (drop_more bytes at 0 lt)) ∙ closed in
          IsCharBoundary-before_ascii bytes at lt
          ((Decides-ltb (get_or bytes at 0) 128).0 (break-low (get_or bytes at 0) here))
      | false ↦ λ isn't.
          let far : length bytes ≤ at = grind (arith, nat_tests) in
          (within, λ lt _. omega (arith, far, lt))
    ] refl

pub front-boundary : (bytes : List ℕ) (end : ℕ) → end ≡ prefix_len inside bytes → IsCharBoundary bytes end
front-boundary bytes end is =
    break-boundary bytes end (omega (arith, is, prefix_len-le-length inside bytes)) (ap (λ k. closes (drop k bytes)) is
    ∙ closes-rest bytes)

-- the characters before the first blank or sign, and those behind
count-front : (bytes : List ℕ) (end : ℕ) → IsUtf8 bytes → end ≡ prefix_len inside bytes →
    prefix_len inside (chars bytes) ≡ length (chars (take end bytes))
count-front bytes end text is =
    let boundary = front-boundary bytes end is in
    let front : list_all inside (chars (take end bytes))
    ≡ true = inside-chars (take end bytes) (IsUtf8-take bytes end text boundary)
    (ap (λ k. list_all inside (take k bytes)) is ∙ inside-front bytes) in
    let rest : prefix_len inside (chars (drop end bytes))
    ≡ 0 = closes-none (chars (drop end bytes))
    (closes-chars (drop end bytes) (ap (λ k. closes (drop k bytes)) is ∙ closes-rest bytes)) in
    ap (prefix_len inside) (chars-cut bytes end text boundary)
    ∙ prefix-append inside (chars (take end bytes)) (chars (drop end bytes)) front rest

pub take-chars : (bytes : List ℕ) (at : ℕ) → IsUtf8 bytes → IsCharBoundary bytes at →
    take (length (chars (take at bytes))) (chars bytes) ≡ chars (take at bytes)
take-chars bytes at text boundary = ap (take (length (chars (take at bytes)))) (chars-cut bytes at text boundary)
    ∙ take-front (chars (take at bytes)) (chars (drop at bytes))

pub drop-chars : (bytes : List ℕ) (at : ℕ) → IsUtf8 bytes → IsCharBoundary bytes at →
    drop (length (chars (take at bytes))) (chars bytes) ≡ chars (drop at bytes)
drop-chars bytes at text boundary = ap (drop (length (chars (take at bytes)))) (chars-cut bytes at text boundary)
    ∙ drop-front (chars (take at bytes)) (chars (drop at bytes))

read-place : (text front rest : List ℕ) (count : ℕ) (place found : Option Base) → length front ≡ count →
    take count text ≡ front → drop count text ≡ rest
    → place ≡ place_of front → found ≡ option_map saturated_base place → prefix_len inside text ≡ count
    → read_of text (place_base text) ≡ option_map (λ base. (base, rest)) found
read-place text front rest count place found long front_is rest_is place_is found_is count_is =
    ap (λ k. read_of text (option_map (of_length (length (take k text))) (place_of (take k text)))) count_is
    ∙ ap (λ ts. read_of text (option_map (of_length (length ts)) (place_of ts))) front_is
    ∙ ap (λ p. read_of text (option_map (of_length (length front)) p)) (sym place_is)
    ∙ ap (λ k. read_of text (option_map (of_length k) place)) long
    ∙ elim place as (λ p. read_of text (option_map (of_length count) p)
    ≡ option_map (λ base. (base, rest)) (option_map saturated_base p)) [
      | None ↦ refl
      | Some base ↦ ap (λ r. Some (saturated_base base, r)) rest_is
    ]
    ∙ ap (option_map (λ base. (base, rest))) (sym found_is)

pub place-read : (bytes : List ℕ) (end : ℕ) (found : Option Base) → IsUtf8 bytes → end ≡ prefix_len inside bytes →
    found ≡ option_map saturated_base (place_of (take end bytes))
    → read_of (chars bytes) (place_base (chars bytes)) ≡ option_map (λ base. (base, chars (drop end bytes))) found
place-read bytes end found text is found_is =
    let boundary = front-boundary bytes end is in
    read-place (chars bytes) (chars (take end bytes)) (chars (drop end bytes)) (length (chars (take end bytes)))
    (place_of (take end bytes)) found
    refl (take-chars bytes end text boundary) (drop-chars bytes end text boundary)
    (place_of-chars (take end bytes) (IsUtf8-take bytes end text boundary)) found_is (count-front bytes end text is)

-- the bytes before the first blank or sign, closed by the others
pub front-closed : (text bytes : List ℕ) → text ≡ bytes →
    IsClosed text (take (prefix_len inside bytes) bytes) (drop (prefix_len inside bytes) bytes)
front-closed text bytes same = record {
  whole = same ∙ sym (take-append-drop (prefix_len inside bytes) bytes);
  unbroken = inside-front bytes;
  closed = closes-rest bytes;
}

-- what is read of a word by its bytes
abbrev pub read_front : List ℕ → Option (Base × List ℕ)
read_front bytes = with_rest (drop (prefix_len inside bytes) bytes)
    (option_map saturated_base (place_of (take (prefix_len inside bytes) bytes)))

pub read-closed : (text bytes rest : List ℕ) (found : Base) → text ≡ bytes → true ≡ closes rest →
    ((front behind : List ℕ) → IsClosed text front behind → (if closes rest then Some (found, rest) else None)
    ≡ with_rest behind (option_map saturated_base (place_of front))) → Some (found, rest) ≡ read_front bytes
read-closed text bytes rest found same closed reads =
    ap (λ b. if b then Some (found, rest) else None) closed
    ∙ reads (take (prefix_len inside bytes) bytes) (drop (prefix_len inside bytes) bytes) (front-closed text bytes same)

rest-none : (rest other : List ℕ) (found : Option Base) → None ≡ with_rest rest found → with_rest other found ≡ None
rest-none rest other None none = refl
rest-none rest other (Some base) none = absurd (let h : None ≡ with_rest rest (Some base) = none in cc)

rest-some : (rest other behind : List ℕ) (found : Option Base) (known : Base) →
    with_rest behind (Some known) ≡ with_rest rest found
    → (behind ≡ rest) × (with_rest other found ≡ with_rest other (Some known))
rest-some rest other behind None known is =
    absurd (let h : with_rest behind (Some known) ≡ with_rest rest None = is in cc)
rest-some rest other behind (Some base) known is =
    let first : Some known ≡ Some base = ap (option_map (λ (p : Base × List ℕ). p.0)) is in
    let second : Some behind ≡ Some rest = ap (option_map (λ (p : Base × List ℕ). p.1)) is in
    (cc, ap (with_rest other) (sym first))

pub place-none : (bytes : List ℕ) → IsUtf8 bytes → None ≡ read_front bytes
    → read_of (chars bytes) (place_base (chars bytes)) ≡ None
place-none bytes text none =
    let count = prefix_len inside bytes in
    let known = option_map saturated_base (place_of (take count bytes)) in
    place-read bytes count known text refl refl
    ∙ rest-none (drop count bytes) (chars (drop count bytes)) known none

pub place-found : (bytes rest : List ℕ) (found : Base) → IsUtf8 bytes → Some (found, rest) ≡ read_front bytes
    → read_of (chars bytes) (place_base (chars bytes)) ≡ Some (found, chars rest)
place-found bytes rest found text is =
    let count = prefix_len inside bytes in
    let known = option_map saturated_base (place_of (take count bytes)) in
    let read = rest-some (drop count bytes) (chars (drop count bytes)) rest known found is in
    place-read bytes count known text refl refl ∙ read.1 ∙ ap (λ behind. Some (found, chars behind)) (sym read.0)

-- what follows the place that was read begins where the first blank or sign stands
pub place-cut : (bytes rest : List ℕ) (found : Base) → Some (found, rest) ≡ read_front bytes →
    (length rest ≤ length bytes) × (length bytes - length rest ≡ prefix_len inside bytes)
    × (rest ≡ drop (prefix_len inside bytes) bytes)
place-cut bytes rest found is =
    let count = prefix_len inside bytes in
    let known = option_map saturated_base (place_of (take count bytes)) in
    let read = rest-some (drop count bytes) [] rest known found is in
    let long = ap length read.0 ∙ length-drop count bytes in (
      omega (arith, long),
      omega (arith, long, prefix_len-le-length inside bytes),
      read.0,
    )
