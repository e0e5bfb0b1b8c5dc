-- A tag's name before `.first` or `.last`, by its bytes.
use Rattle.index_grammar.proofs.Common.{◌≡◌, ℕ, ◌-◌, true, false, List, [], ◌∷◌, ◌++◌, take, length, refl, sym, ap, ◌∙◌}
use Rattle.index_grammar.proofs.Common.{arith, chars, IsUtf8, IsAscii, encode_utf8_all, nat_eq, option_map}
use Rattle.index_grammar.proofs.Common.{if◌then◌else◌, ends_with, false≢true, Decides-eqb, length-append, ends_is}
use Rattle.index_grammar.proofs.Common.{encodes-chars, encodes-append, encodes-IsAscii, chars-append, chars-IsAscii}
use Rattle.index_grammar.proofs.Common.{tagged, without_last, first_tagged, last_tagged, Option, Some, None}
use Rattle.text_model.specs.declared.places.TagSlot.{TagSlot}
use Rattle.index_grammar.proofs.LowLaws.{ascii_of}
use Rattle.index_grammar.proofs.TokenLaws.{take-front}
use Rattle.index_grammar.specs.declared.indices.Base.TheVariants as base

abbrev pub first_bytes : List ℕ
first_bytes = 46 ∷ 102 ∷ 105 ∷ 114 ∷ 115 ∷ 116 ∷ []

abbrev pub last_bytes : List ℕ
last_bytes = 46 ∷ 108 ∷ 97 ∷ 115 ∷ 116 ∷ []

pub ends-front : (text suffix : List ℕ) → ends_with nat_eq text suffix ≡ true →
    text ≡ take (length text - length suffix) text ++ suffix
ends-front text suffix is = (ends_is Decides-eqb text suffix (ends_with nat_eq text suffix) refl).0 is

ends-with : (front suffix : List ℕ) → ends_with nat_eq (front ++ suffix) suffix ≡ true
ends-with front suffix =
    (ends_is Decides-eqb (front ++ suffix) suffix (ends_with nat_eq (front ++ suffix) suffix) refl).1 front refl

chars-suffix : (text name suffix : List ℕ) → text ≡ name ++ suffix → IsUtf8 name → IsAscii suffix →
    chars text ≡ chars name ++ suffix
chars-suffix text name suffix is utf8 ascii =
    ap chars is ∙ chars-append name suffix utf8 ∙ ap (λ s. chars name ++ s) (chars-IsAscii suffix ascii)

name-before : (text name suffix : List ℕ) → text ≡ name ++ suffix → without_last (length suffix) text ≡ name
name-before text name suffix is =
    ap (without_last (length suffix)) is
    ∙ ap (λ k. take k (name ++ suffix)) (let e : length (name ++ suffix) - length suffix
    ≡ length name = omega (arith, length-append name suffix) in e)
    ∙ take-front name suffix

-- the characters end so only where the bytes do
no-ends : (text suffix : List ℕ) → IsUtf8 text → IsAscii suffix → ends_with nat_eq text suffix ≡ false →
    ends_with nat_eq (chars text) suffix ≡ false
no-ends text suffix utf8 ascii none =
    elim (ends_with nat_eq (chars text) suffix) as (λ b. ends_with nat_eq (chars text) suffix ≡ b → b ≡ false) [
      | false ↦ λ _. refl
      | true ↦ λ is.
          let front : List ℕ = take (length (chars text) - length suffix) (chars text) in
          let bytes : text ≡ encode_utf8_all front ++ suffix =
          sym (encodes-chars text utf8) ∙ ap encode_utf8_all (ends-front (chars text) suffix is)
          ∙ encodes-append front suffix
          ∙ ap (λ s. encode_utf8_all front ++ s) (encodes-IsAscii suffix ascii) in
          absurd (false≢true (sym none ∙ ap (λ t. ends_with nat_eq t suffix) bytes
          ∙ ends-with (encode_utf8_all front) suffix))
    ] refl

first-ascii : IsAscii first_bytes
first-ascii = ascii_of first_bytes refl

last-ascii : IsAscii last_bytes
last-ascii = ascii_of last_bytes refl

-- `.last` doesn't end in `.first`
abbrev pub NotFirst : List ℕ → Type 0
NotFirst text = ends_with nat_eq text first_bytes ≡ false

first-of : (name : List ℕ) (slot : Option TagSlot) → IsUtf8 name
    → option_map (λ (s : TagSlot). base.First s (length name)) slot
    ≡ option_map (first_tagged (chars name)) (option_map (λ (s : TagSlot). s.0) slot)
first-of name None utf8 = refl
first-of name (Some s) utf8 = ap (λ bytes. Some (base.First s (length bytes))) (sym (encodes-chars name utf8))

last-of : (name : List ℕ) (slot : Option TagSlot) → IsUtf8 name
    → option_map (λ (s : TagSlot). base.Last s (length name)) slot
    ≡ option_map (last_tagged (chars name)) (option_map (λ (s : TagSlot). s.0) slot)
last-of name None utf8 = refl
last-of name (Some s) utf8 = ap (λ bytes. Some (base.Last s (length bytes))) (sym (encodes-chars name utf8))

pub tagged-first : (tags : List ℕ → Option ℕ) (text name : List ℕ) (slot : Option TagSlot) →
    name ≡ take (length text - 6) text → ends_with nat_eq text first_bytes ≡ true
    → IsUtf8 name → option_map (λ (s : TagSlot). s.0) slot ≡ tags (chars name) →
    option_map (λ (s : TagSlot). base.First s (length name)) slot ≡ tagged tags (chars text)
tagged-first tags text name slot name_is ends utf8 found =
    let split : chars text ≡ chars name ++ first_bytes = chars-suffix text name first_bytes
    (ends-front text first_bytes ends ∙ ap (λ n. n ++ first_bytes) (sym name_is)) utf8 first-ascii in
    let so : ends_with nat_eq (chars text) first_bytes ≡ true = ap (λ t. ends_with nat_eq t first_bytes) split
    ∙ ends-with (chars name) first_bytes in
    first-of name slot utf8 ∙ ap (option_map (first_tagged (chars name))) found
    ∙ ap (λ n. option_map (first_tagged n) (tags n)) (sym (name-before (chars text) (chars name) first_bytes split))
    ∙ sym (ap (λ b. if b then option_map (first_tagged (without_last 6 (chars text)))
    (tags (without_last 6 (chars text)))
    else (if ends_with nat_eq (chars text) last_bytes
    then option_map (last_tagged (without_last 5 (chars text))) (tags (without_last 5 (chars text))) else None)) so)

pub tagged-last : (tags : List ℕ → Option ℕ) (text name : List ℕ) (slot : Option TagSlot) → IsUtf8 text →
    name ≡ take (length text - 5) text → NotFirst text
    → ends_with nat_eq text last_bytes ≡ true
    → IsUtf8 name → option_map (λ (s : TagSlot). s.0) slot ≡ tags (chars name) →
    option_map (λ (s : TagSlot). base.Last s (length name)) slot ≡ tagged tags (chars text)
tagged-last tags text name slot text_utf8 name_is not_first ends utf8 found =
    let split : chars text ≡ chars name ++ last_bytes = chars-suffix text name last_bytes
    (ends-front text last_bytes ends ∙ ap (λ n. n ++ last_bytes) (sym name_is)) utf8 last-ascii in
    let so : ends_with nat_eq (chars text) last_bytes ≡ true = ap (λ t. ends_with nat_eq t last_bytes) split
    ∙ ends-with (chars name) last_bytes in
    last-of name slot utf8 ∙ ap (option_map (last_tagged (chars name))) found
    ∙ ap (λ n. option_map (last_tagged n) (tags n)) (sym (name-before (chars text) (chars name) last_bytes split))
    ∙ sym (ap (λ b. if b then option_map (first_tagged (without_last 6 (chars text)))
    (tags (without_last 6 (chars text)))
    else (if ends_with nat_eq (chars text) last_bytes
    then option_map (last_tagged (without_last 5 (chars text))) (tags (without_last 5 (chars text))) else None))
    (no-ends text first_bytes text_utf8 first-ascii not_first)
    ∙ ap (λ b. if b then option_map (last_tagged (without_last 5 (chars text))) (tags (without_last 5 (chars text)))
    else None) so)

pub tagged-none : (tags : List ℕ → Option ℕ) (text : List ℕ) → IsUtf8 text → NotFirst text →
    ends_with nat_eq text last_bytes ≡ false → None ≡ tagged tags (chars text)
tagged-none tags text utf8 not_first not_last =
    sym (ap (λ b. if b then option_map (first_tagged (without_last 6 (chars text))) (tags (without_last 6 (chars text)))
    else (if ends_with nat_eq (chars text) last_bytes
    then option_map (last_tagged (without_last 5 (chars text))) (tags (without_last 5 (chars text))) else None))
    (no-ends text first_bytes utf8 first-ascii not_first)
    ∙ ap (λ b. if b then option_map (last_tagged (without_last 5 (chars text))) (tags (without_last 5 (chars text)))
    else None) (no-ends text last_bytes utf8 last-ascii not_last))
