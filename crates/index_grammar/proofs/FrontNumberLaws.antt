-- The number at the front of a text, as its first token.
use Rattle.index_grammar.proofs.Common.{◌≡◌, ◌≢◌, ℕ, suc, ◌+◌, ◌≤◌, ◌&&◌, true, false, cond, List, [], ◌∷◌, take, drop}
use Rattle.index_grammar.proofs.Common.{length, Option, Some, None, refl, sym, ap, ◌∙◌, arith, min, fold, list_all}
use Rattle.index_grammar.proofs.Common.{prefix_len, is_ascii_digit, is_blank, is_sign, number_of, add_digit, option_map}
use Rattle.index_grammar.proofs.Common.{tokens_of, digits_first, slice_get, length-drop, if◌then◌else◌, front_digits}
use Rattle.index_grammar.proofs.Common.{Bor, IfSome}
use Rattle.index_grammar.proofs.PlaceLaws.{most}
use Rattle.index_grammar.proofs.TokenLaws.{one, piece-none, piece-sign, piece-word, tokens-digits, inside}
use Rattle.index_grammar.proofs.TokenLaws.{tokens-blanks, not-blank}

abbrev pub digits_at : List ℕ → List ℕ
digits_at text = take (prefix_len is_ascii_digit text) text

digits-all : (text : List ℕ) → list_all is_ascii_digit (digits_at text) ≡ true
digits-all [] = refl
digits-all (c ∷ cs) =
    elim (is_ascii_digit c) as (λ b. is_ascii_digit c ≡ b →
    list_all is_ascii_digit (take (cond b (1 + prefix_len is_ascii_digit cs) 0) (c ∷ cs)) ≡ true) [
      | true ↦ λ is. ap (λ k. list_all is_ascii_digit (take k (c ∷ cs))) (one (prefix_len is_ascii_digit cs))
          ∙ ap (λ b. b && list_all is_ascii_digit (digits_at cs)) is ∙ digits-all cs
      | false ↦ λ _. refl
    ] refl

-- a digit begins a number
some-number : (c : ℕ) (cs : List ℕ) → is_ascii_digit c ≡ true → number_of (digits_at (c ∷ cs)) ≢ None
some-number c cs is none =
    let digits = digits_at cs in
    let count : prefix_len is_ascii_digit (c ∷ cs) ≡ suc (prefix_len is_ascii_digit cs) =
    ap (λ b. cond b (1 + prefix_len is_ascii_digit cs) 0) is ∙ one (prefix_len is_ascii_digit cs) in
    let all : list_all is_ascii_digit (c ∷ digits) ≡ true =
    ap (λ b. b && list_all is_ascii_digit digits) is ∙ digits-all cs in
    let some : number_of (digits_at (c ∷ cs)) ≡ Some (fold add_digit 0 (c ∷ digits)) =
    ap (λ k. number_of (take k (c ∷ cs))) count ∙ ap (λ b. if b then Some (fold add_digit 0 (c ∷ digits)) else None) all in
    let h : Some (fold add_digit 0 (c ∷ digits)) ≡ None = sym some ∙ none in cc

none-of : (found : Option ℕ) → None ≡ option_map (min most) found → found ≡ None
none-of None none = refl
none-of (Some m) none = absurd (let h : None ≡ Some _ = none in cc)

-- where no number is read behind the blanks there are no digits
pub number-absent : (text : List ℕ) → ((first : ℕ) → slice_get text 0 ≡ Some first → is_blank first ≡ false) →
    None ≡ option_map (min most) (number_of (digits_at text)) → digits_first (tokens_of text) ≡ None
number-absent [] blank none = ap digits_first (piece-none [] refl)
number-absent (c ∷ cs) blank none =
    elim (is_ascii_digit c) as (λ b. is_ascii_digit c ≡ b → digits_first (tokens_of (c ∷ cs)) ≡ None) [
      | true ↦ λ is. absurd (some-number c cs is (none-of (number_of (digits_at (c ∷ cs))) none))
      | false ↦ λ other. elim (is_sign c) as (λ b. is_sign c ≡ b → digits_first (tokens_of (c ∷ cs)) ≡ None) [
        | true ↦ λ sign. ap digits_first (piece-sign (c ∷ cs) c refl sign)
        | false ↦ λ sign. ap digits_first (piece-word (c ∷ cs) c (prefix_len inside (c ∷ cs)) refl (blank c refl) sign
            other refl)
      ] refl
    ] refl

-- where one is read its digits are the first token, and something is taken
pub number-present : (text : List ℕ) (number : ℕ) → Some number ≡ option_map (min most) (number_of (digits_at text)) →
    record {
      first : digits_first (tokens_of text)
          ≡ Some (digits_at text, tokens_of (drop (prefix_len is_ascii_digit text) text));
      taken : 1 + length (drop (prefix_len is_ascii_digit text) text) ≤ length text;
    }
number-present [] number some = absurd (let h : Some number ≡ None = some in cc)
number-present (c ∷ cs) number some =
    elim (is_ascii_digit c) as (λ b. is_ascii_digit c ≡ b → record {
      first : digits_first (tokens_of (c ∷ cs))
          ≡ Some (digits_at (c ∷ cs), tokens_of (drop (prefix_len is_ascii_digit (c ∷ cs)) (c ∷ cs)));
      taken : 1 + length (drop (prefix_len is_ascii_digit (c ∷ cs)) (c ∷ cs)) ≤ length (c ∷ cs);
    }) [
      | true ↦ λ is.
          let count : prefix_len is_ascii_digit (c ∷ cs) ≡ 1 + prefix_len is_ascii_digit cs =
          ap (λ b. cond b (1 + prefix_len is_ascii_digit cs) 0) is in
          record {
            first = ap digits_first (tokens-digits c cs is);
            taken = omega (arith, count, length-drop (prefix_len is_ascii_digit (c ∷ cs)) (c ∷ cs));
          }
      | false ↦ λ other. absurd (let h : Some number ≡ None = some
          ∙ ap (λ b. option_map (min most) (number_of (take (cond b (1 + prefix_len is_ascii_digit cs) 0) (c ∷ cs))))
          other in cc)
    ] refl

-- the digits and what follows them, by the number that is read behind the blanks
pub number-first : (text left : List ℕ) (found : Option (ℕ × Bor (List ℕ))) → left ≡ drop (prefix_len is_blank text) text
    → option_map (λ (found : ℕ × Bor (List ℕ)). found.0) found ≡ option_map (min most) (number_of (digits_at left))
    → IfSome found (λ found. found.1.now ≡ drop (prefix_len is_ascii_digit left) left)
    → digits_first (tokens_of text)
    ≡ option_map (λ (found : ℕ × Bor (List ℕ)). (front_digits text, tokens_of found.1.now)) found
number-first text left None is none _ =
    ap digits_first (sym (ap tokens_of is ∙ tokens-blanks text))
    ∙ number-absent left (λ c here. not-blank text c (ap (λ t. slice_get t 0) (sym is) ∙ here)) none
number-first text left (Some found) is some rest =
    ap digits_first (sym (ap tokens_of is ∙ tokens-blanks text))
    ∙ (number-present left found.0 some).first
    ∙ ap (λ t. Some (digits_at t, tokens_of (drop (prefix_len is_ascii_digit left) left))) is
    ∙ ap (λ r. Some (front_digits text, tokens_of r)) (sym rest)
