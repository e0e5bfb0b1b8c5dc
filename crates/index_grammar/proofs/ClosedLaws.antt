-- What is read of the front of a text, where a blank, a sign or the end of the text follows it.
use Rattle.index_grammar.proofs.Common.{◌≡◌, ◌≢◌, ℕ, suc, ◌+◌, ◌≤◌, Bool, true, false, cond, not, ◌&&◌, List, [], ◌∷◌}
use Rattle.index_grammar.proofs.Common.{◌++◌, take, drop, length, Option, Some, None, refl, sym, ap, ◌∙◌, arith, min}
use Rattle.index_grammar.proofs.Common.{bytes_eq, position, nat_lt, if◌then◌else◌, option_map, list_all}
use Rattle.index_grammar.proofs.Common.{option_and_then, prefix_len, is_ascii_digit, append_assoc, take-append-drop}
use Rattle.index_grammar.proofs.Common.{length-append, append-nil, list_all-append, bytes_eq-Decides, nat_tests}
use Rattle.index_grammar.proofs.Common.{false≢true, is_break, closes, number_of, in_line, around_dot, place_of}
use Rattle.index_grammar.proofs.Common.{saturated_base, is_dot, Base, IsClosed, with_rest}
use Rattle.index_grammar.proofs.CharLaws.{both}
use Rattle.index_grammar.proofs.NumberLaws.{number_of-none}
use Rattle.index_grammar.proofs.PlaceLaws.{most, end_bytes, in_line-end, in_line-number, around_dot-some, place_of-end}
use Rattle.index_grammar.proofs.PlaceLaws.{place_of-dot, dot-split, digits-of}
use Rattle.index_grammar.proofs.TokenLaws.{inside, one, prefix-append, take-front, drop-front}
use Rattle.index_grammar.specs.declared.indices.Base.TheVariants as base

-- a base with what follows it, where that closes it
abbrev pub if_closed : Base → List ℕ → Option (Base × List ℕ)
if_closed found behind = if closes behind then Some (found, behind) else None

unbroken-no : (b : Bool) → not b ≡ true → b ≡ false
unbroken-no true is = absurd (false≢true is)
unbroken-no false is = refl

all-of : (p q : ℕ → Bool) → ((c : ℕ) → p c ≡ true → q c ≡ true) → (text : List ℕ) → list_all p text ≡ true →
    list_all q text ≡ true
all-of p q weaker [] all = refl
all-of p q weaker (c ∷ text) all =
    let parts = both (p c) (list_all p text) all in
    ap (λ b. b && list_all q text) (weaker c parts.0) ∙ all-of p q weaker text parts.1

digit-inside : (c : ℕ) → is_ascii_digit c ≡ true → inside c ≡ true
digit-inside c digit = grind (arith, nat_tests)

digit-dot : (c : ℕ) → is_ascii_digit c ≡ true → not (is_dot c) ≡ true
digit-dot c digit = grind (arith, nat_tests)

break-digit : (c : ℕ) → is_break c ≡ true → is_ascii_digit c ≡ false
break-digit c breaks = grind (arith, nat_tests)

-- a front begins with what its text begins with, up to a blank or a sign
goes-over : (first front rest behind : List ℕ) → list_all inside first ≡ true → closes rest ≡ true
    → front ++ rest ≡ first ++ behind
    → (front ≡ first ++ drop (length first) front) × (behind ≡ drop (length first) front ++ rest)
goes-over [] front rest behind unbroken closed is = (refl, sym is)
goes-over (c ∷ first) [] rest behind unbroken closed is =
    absurd (false≢true (sym (ap not (sym (ap closes is) ∙ closed)) ∙ (both (inside c) (list_all inside first) unbroken).0))
goes-over (c ∷ first) (a ∷ front) rest behind unbroken closed is =
    let same : a ≡ c = let h : a ∷ (front ++ rest) ≡ c ∷ (first ++ behind) = is in cc in
    let later : front ++ rest ≡ first ++ behind = let h : a ∷ (front ++ rest) ≡ c ∷ (first ++ behind) = is in cc in
    let split = goes-over first front rest behind (both (inside c) (list_all inside first) unbroken).1 closed later in (
      ap (λ xs. a ∷ xs) split.0 ∙ ap (λ d. d ∷ (first ++ drop (length first) front)) same,
      split.1,
    )

-- ---- `end`

end-by : (found : Base) (known : List ℕ → Option Base) (more rest : List ℕ) → list_all inside more ≡ true →
    closes rest ≡ true → Some found ≡ option_map saturated_base (known (101 ∷ 110 ∷ 100 ∷ []))
    → ((c : ℕ) (cs : List ℕ) → list_all inside (c ∷ cs) ≡ true → known (101 ∷ 110 ∷ 100 ∷ c ∷ cs) ≡ None) → if_closed found (more ++ rest)
    ≡ with_rest rest (option_map saturated_base (known (101 ∷ 110 ∷ 100 ∷ more)))
end-by found known [] rest unbroken closed whole other =
    ap (λ b. if b then Some (found, rest) else None) closed ∙ ap (with_rest rest) whole
end-by found known (c ∷ cs) rest unbroken closed whole other =
    ap (λ b. if b then Some (found, (c ∷ cs) ++ rest) else None)
    (unbroken-no (is_break c) (both (inside c) (list_all inside cs) unbroken).0)
    ∙ sym (ap (λ o. with_rest rest (option_map saturated_base o)) (other c cs unbroken))

end-closed : (found : Base) (known : List ℕ → Option Base) (text front rest behind : List ℕ) →
    IsClosed text front rest → text ≡ 101 ∷ 110 ∷ 100 ∷ behind
    → Some found ≡ option_map saturated_base (known (101 ∷ 110 ∷ 100 ∷ []))
    → ((c : ℕ) (cs : List ℕ) → list_all inside (c ∷ cs) ≡ true → known (101 ∷ 110 ∷ 100 ∷ c ∷ cs) ≡ None) → if_closed found behind
    ≡ with_rest rest (option_map saturated_base (known front))
end-closed found known text front rest behind is begins whole other =
    let split = goes-over (101 ∷ 110 ∷ 100 ∷ []) front rest behind refl is.closed (sym is.whole ∙ begins) in
    let inner : list_all inside (101 ∷ 110 ∷ 100 ∷ drop 3 front) ≡ true =
    ap (list_all inside) (sym split.0) ∙ is.unbroken in
    ap (if_closed found) split.1 ∙ end-by found known (drop 3 front) rest inner is.closed whole other
    ∙ ap (λ f. with_rest rest (option_map saturated_base (known f))) (sym split.0)

not-end : (text front rest : List ℕ) → IsClosed text front rest →
    ((more : List ℕ) → text ≢ 101 ∷ 110 ∷ 100 ∷ more) → bytes_eq front (101 ∷ 110 ∷ 100 ∷ []) ≡ false
not-end text front rest is other =
    elim (bytes_eq front (101 ∷ 110 ∷ 100 ∷ [])) as (λ b. bytes_eq front (101 ∷ 110 ∷ 100 ∷ []) ≡ b → b ≡ false) [
      | true ↦ λ same. absurd (other rest (is.whole
          ∙ ap (λ f. f ++ rest) ((bytes_eq-Decides front (101 ∷ 110 ∷ 100 ∷ [])).0 same)))
      | false ↦ λ _. refl
    ] refl

-- ---- a number at the end

closes-digits : (rest : List ℕ) → closes rest ≡ true → prefix_len is_ascii_digit rest ≡ 0
closes-digits [] closed = refl
closes-digits (c ∷ cs) closed = ap (λ b. cond b (1 + prefix_len is_ascii_digit cs) 0) (break-digit c closed)

digits-open : (front rest : List ℕ) → list_all is_ascii_digit front ≡ false → list_all inside front ≡ true →
    closes (drop (prefix_len is_ascii_digit (front ++ rest)) (front ++ rest)) ≡ false
digits-open [] rest other unbroken = absurd (false≢true (sym other))
digits-open (c ∷ front) rest other unbroken =
    let parts = both (inside c) (list_all inside front) unbroken in
    elim (is_ascii_digit c) as (λ b. (b && list_all is_ascii_digit front) ≡ false →
    closes (drop (cond b (1 + prefix_len is_ascii_digit (front ++ rest)) 0) (c ∷ (front ++ rest))) ≡ false) [
      | true ↦ λ later. ap (λ k. closes (drop k (c ∷ (front ++ rest)))) (one (prefix_len is_ascii_digit (front ++ rest)))
          ∙ digits-open front rest later parts.1
      | false ↦ λ _. unbroken-no (is_break c) parts.0
    ] other

digits-whole : (text front rest : List ℕ) → IsClosed text front rest → list_all is_ascii_digit front ≡ true →
    prefix_len is_ascii_digit text ≡ length front
digits-whole text front rest is all =
    ap (prefix_len is_ascii_digit) is.whole ∙ prefix-append is_ascii_digit front rest all (closes-digits rest is.closed)

taken : (text front rest : List ℕ) → IsClosed text front rest → list_all is_ascii_digit front ≡ true →
    take (prefix_len is_ascii_digit text) text ≡ front
taken text front rest is all =
    ap (λ k. take k text) (digits-whole text front rest is all) ∙ ap (take (length front)) is.whole
    ∙ take-front front rest

-- a line's end
pub line-end : (line : ℕ) (text front rest behind : List ℕ) → line ≤ most → IsClosed text front rest →
    text ≡ 101 ∷ 110 ∷ 100 ∷ behind → if_closed (base.LineEnd line) behind
    ≡ with_rest rest (option_map saturated_base (in_line line front))
line-end line text front rest behind within is begins =
    end-closed (base.LineEnd line) (in_line line) text front rest behind is begins
    (in_line-end line (101 ∷ 110 ∷ 100 ∷ []) within refl)
    (λ c cs _. ap (λ e. if bytes_eq (101 ∷ 110 ∷ 100 ∷ c ∷ cs) e then Some (base.LineEnd line)
    else option_map (base.At line) (number_of (101 ∷ 110 ∷ 100 ∷ c ∷ cs))) end_bytes)

-- a character of a line
pub line-number : (line character : ℕ) (text front rest behind : List ℕ) → line ≤ most → IsClosed text front rest →
    ((more : List ℕ) → text ≢ 101 ∷ 110 ∷ 100 ∷ more)
    → Some character ≡ option_map (min most) (number_of (take (prefix_len is_ascii_digit text) text)) →
    behind ≡ drop (prefix_len is_ascii_digit text) text
    → if_closed (base.At line character) behind ≡ with_rest rest (option_map saturated_base (in_line line front))
line-number line character text front rest behind within is other found_is behind_is =
    let number = option_map (min most) (number_of front) in
    let known = ap (with_rest rest) (in_line-number line front number within (not-end text front rest is other) refl) in
    elim (list_all is_ascii_digit front) as (λ b. list_all is_ascii_digit front ≡ b →
    if_closed (base.At line character) behind ≡ with_rest rest (option_map saturated_base (in_line line front))) [
      | true ↦ λ all.
          let left : behind ≡ rest = behind_is ∙ ap (λ k. drop k text) (digits-whole text front rest is all)
          ∙ ap (drop (length front)) is.whole ∙ drop-front front rest in
          ap (if_closed (base.At line character)) left
          ∙ ap (λ b. if b then Some (base.At line character, rest) else None) is.closed
          ∙ ap (λ o. with_rest rest (option_map (base.At line) o)) (found_is
          ∙ ap (λ ds. option_map (min most) (number_of ds)) (taken text front rest is all))
          ∙ known
      | false ↦ λ no.
          let more : closes behind ≡ false = ap closes behind_is
          ∙ ap (λ t. closes (drop (prefix_len is_ascii_digit t) t)) is.whole
          ∙ digits-open front rest no is.unbroken in
          ap (λ b. if b then Some (base.At line character, behind) else None) more
          ∙ ap (λ o. with_rest rest (option_map (base.At line) (option_map (min most) o))) (sym (number_of-none front no))
          ∙ known
    ] refl

-- neither of the two
pub line-none : (line : ℕ) (text front rest : List ℕ) → line ≤ most → IsClosed text front rest →
    ((more : List ℕ) → text ≢ 101 ∷ 110 ∷ 100 ∷ more)
    → None ≡ option_map (min most) (number_of (take (prefix_len is_ascii_digit text) text)) →
    None ≡ with_rest rest (option_map saturated_base (in_line line front))
line-none line text front rest within is other none =
    let nothing : None ≡ option_map (min most) (number_of front) =
    elim (list_all is_ascii_digit front) as (λ b. list_all is_ascii_digit front ≡ b →
    None ≡ option_map (min most) (number_of front)) [
      | true ↦ λ all. none ∙ ap (λ ds. option_map (min most) (number_of ds)) (taken text front rest is all)
      | false ↦ λ no. sym (ap (option_map (min most)) (number_of-none front no))
    ] refl in
    ap (λ o. with_rest rest (option_map (base.At line) o)) nothing
    ∙ ap (with_rest rest) (in_line-number line front (option_map (min most) (number_of front)) within
    (not-end text front rest is other) refl)

-- ---- around a dot

read-dot : (text digits behind : List ℕ) → list_all is_ascii_digit digits ≡ true → text ≡ digits ++ 46 ∷ behind →
    (take (prefix_len is_ascii_digit text) text ≡ digits) × (drop (prefix_len is_ascii_digit text) text ≡ 46 ∷ behind)
read-dot text digits behind all is =
    let long : prefix_len is_ascii_digit text ≡ length digits =
    ap (prefix_len is_ascii_digit) is ∙ prefix-append is_ascii_digit digits (46 ∷ behind) all refl in (
      ap (λ k. take k text) long ∙ ap (take (length digits)) is ∙ take-front digits (46 ∷ behind),
      ap (λ k. drop k text) long ∙ ap (drop (length digits)) is ∙ drop-front digits (46 ∷ behind),
    )

-- a front has no number and dot where its text begins with none
pub dot-none : (text front rest : List ℕ) → IsClosed text front rest → ((line : ℕ) (behind : List ℕ) →
    number_of (take (prefix_len is_ascii_digit text) text) ≡ Some line
    → drop (prefix_len is_ascii_digit text) text ≡ 46 ∷ behind → ⊥) →
    around_dot front (position is_dot front) ≡ None
dot-none text front rest is other =
    elim (position is_dot front) as (λ o. position is_dot front ≡ o → around_dot front o ≡ None) [
      | None ↦ λ _. refl
      | Some dot ↦ λ at. elim (number_of (take dot front)) as (λ o. number_of (take dot front) ≡ o →
          option_and_then (λ line. in_line line (drop (suc dot) front)) o ≡ None) [
            | None ↦ λ _. refl
            | Some line ↦ λ number.
                let text_is : text ≡ take dot front ++ 46 ∷ (drop (suc dot) front ++ rest) =
                is.whole ∙ ap (λ f. f ++ rest) (dot-split front dot at)
                ∙ append_assoc (take dot front) (46 ∷ drop (suc dot) front) rest in
                let read = read-dot text (take dot front) (drop (suc dot) front ++ rest)
                (digits-of (take dot front) line number) text_is in
                absurd (other line (drop (suc dot) front ++ rest) (ap number_of read.0 ∙ number) read.1)
          ] refl
    ] refl

dot-at : (digits after : List ℕ) → list_all is_ascii_digit digits ≡ true →
    position is_dot (digits ++ 46 ∷ after) ≡ Some (length digits)
dot-at digits after all =
    let text = digits ++ 46 ∷ after in
    let long : prefix_len (λ c. not (is_dot c)) text ≡ length digits =
    prefix-append (λ c. not (is_dot c)) digits (46 ∷ after)
    (all-of is_ascii_digit (λ c. not (is_dot c)) digit-dot digits all) refl in
    let within : nat_lt (length digits) (length text) ≡ true =
    grind (arith, nat_tests, length-append digits (46 ∷ after)) in
    ap (λ k. cond (nat_lt k (length text)) (Some k) None) long ∙ ap (λ b. cond b (Some (length digits)) None) within

-- what a front has after the dot that ends the first digits of a text
abbrev pub after_dot : List ℕ → List ℕ → List ℕ
after_dot text front = drop (length (take (prefix_len is_ascii_digit text) text ++ 46 ∷ [])) front

number-digits : (digits : List ℕ) (line : ℕ) → Some line ≡ option_map (min most) (number_of digits) →
    list_all is_ascii_digit digits ≡ true
number-digits digits line is =
    elim (number_of digits) as (λ o. number_of digits ≡ o → Some line ≡ option_map (min most) o →
    list_all is_ascii_digit digits ≡ true) [
      | None ↦ λ _ none. absurd (let h : Some line ≡ None = none in cc)
      | Some n ↦ λ number _. digits-of digits n number
    ] refl is

-- a front has the number and the dot that its text begins with, and is closed after them
pub dot-some : (text front rest behind : List ℕ) (line : ℕ) → IsClosed text front rest →
    Some line ≡ option_map (min most) (number_of (take (prefix_len is_ascii_digit text) text))
    → drop (prefix_len is_ascii_digit text) text ≡ 46 ∷ behind → IsClosed behind (after_dot text front) rest
    × (with_rest rest (option_map saturated_base (in_line line (after_dot text front)))
    ≡ with_rest rest (option_map saturated_base (around_dot front (position is_dot front))))
dot-some text front rest behind line is line_is dot_is =
    let digits = take (prefix_len is_ascii_digit text) text in
    let after = after_dot text front in
    let all : list_all is_ascii_digit digits ≡ true = number-digits digits line line_is in
    let unbroken : list_all inside (digits ++ 46 ∷ []) ≡ true =
    list_all-append inside digits (46 ∷ [])
    ∙ ap (λ b. b && true) (all-of is_ascii_digit inside digit-inside digits all) in
    let begins : front ++ rest ≡ (digits ++ 46 ∷ []) ++ behind =
    sym is.whole ∙ sym (take-append-drop (prefix_len is_ascii_digit text) text) ∙ ap (λ ys. digits ++ ys) dot_is
    ∙ sym (append_assoc digits (46 ∷ []) behind) in
    let split = goes-over (digits ++ 46 ∷ []) front rest behind unbroken is.closed begins in
    let front_is : front ≡ digits ++ 46 ∷ after = split.0 ∙ append_assoc digits (46 ∷ []) after in
    let count : length (digits ++ 46 ∷ []) ≡ length digits + 1 = length-append digits (46 ∷ []) in
    let parts = both (list_all inside (digits ++ 46 ∷ [])) (list_all inside after)
    (sym (list_all-append inside (digits ++ 46 ∷ []) after) ∙ ap (list_all inside) (sym split.0) ∙ is.unbroken) in (
      record { whole = split.1; unbroken = parts.1; closed = is.closed },
      ap (with_rest rest) (around_dot-some front (length digits) line (position is_dot front)
          (option_map saturated_base (in_line line after))
          (ap (position is_dot) front_is ∙ dot-at digits after all)
          (line_is ∙ ap (λ ds. option_map (min most) (number_of ds)) (sym (ap (take (length digits)) front_is
          ∙ take-front digits (46 ∷ after))))
          (ap (λ k. option_map saturated_base (in_line line (drop k front))) count)),
    )

-- ---- whole places

pub place-end : (text front rest behind : List ℕ) → IsClosed text front rest → text ≡ 101 ∷ 110 ∷ 100 ∷ behind →
    if_closed base.End behind ≡ with_rest rest (option_map saturated_base (place_of front))
place-end text front rest behind is begins =
    end-closed base.End place_of text front rest behind is begins (place_of-end (101 ∷ 110 ∷ 100 ∷ []) refl) (λ c cs inner.
    let word = 101 ∷ 110 ∷ 100 ∷ c ∷ cs in
    ap (λ e. if bytes_eq word e then Some base.End else around_dot word (position is_dot word)) end_bytes
    ∙ dot-none word word [] (record { whole = sym (append-nil word); unbroken = inner; closed = refl }) (λ line behind number _.
    absurd (let h : None ≡ Some line = number in cc)))

pub place-dot : (text front rest : List ℕ) (found : Option (Base × List ℕ)) → IsClosed text front rest →
    ((more : List ℕ) → text ≢ 101 ∷ 110 ∷ 100 ∷ more)
    → found ≡ with_rest rest (option_map saturated_base (around_dot front (position is_dot front))) →
    found ≡ with_rest rest (option_map saturated_base (place_of front))
place-dot text front rest found is other found_is =
    found_is ∙ ap (with_rest rest) (place_of-dot front
    (option_map saturated_base (around_dot front (position is_dot front))) (not-end text front rest is other) refl)
