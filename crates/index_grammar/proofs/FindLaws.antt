-- The longest closed front of a word, by its bytes.
use Rattle.index_grammar.proofs.Common.{◌≡◌, ℕ, suc, ◌+◌, ◌<◌, ◌≤◌, true, List, [], ◌∷◌, ◌++◌, take, drop, length}
use Rattle.index_grammar.proofs.Common.{get_or, refl, sym, ap, ◌∙◌, arith, chars, IsUtf8, IsCharBoundary, slice_range}
use Rattle.index_grammar.proofs.Common.{list_all, drop_more, take-take, get_or-take, length-append, length-take}
use Rattle.index_grammar.proofs.Common.{IsUtf8-take, IsUtf8-drop, IsCharBoundary-after_ascii, Decides-ltb, is_break}
use Rattle.index_grammar.proofs.Common.{closes, longest, longest_front, closed_front, saturated_base, read_of, Base}
use Rattle.index_grammar.proofs.Common.{Option, Some, None, ◌-◌}
use Rattle.index_grammar.proofs.TokenLaws.{inside}
use Rattle.index_grammar.proofs.CharLaws.{inside-chars, chars-cut, chars-low, closes-chars, break-low, break-boundary}
use Rattle.index_grammar.proofs.CharLaws.{take-chars, drop-chars}
use Rattle.index_grammar.proofs.LongestLaws.{skip-front, skip-all, found-front}

-- how far a word was looked at, from its end on
pub record IsLookedAt (named : List ℕ → Option Base) (word : List ℕ) (end : ℕ) : Type 0 where
  pub within : end ≤ length word
  pub boundary : IsCharBoundary word end
  pub closed : closes (drop end word) ≡ true
  pub same : longest_front named (chars word)
      ≡ longest (closed_front named (chars word)) (length (chars (take end word)))

pub length-front : (word : List ℕ) (end : ℕ) → IsUtf8 word → IsCharBoundary word end →
    length (chars (take end word)) ≤ length (chars word)
length-front word end text boundary =
    omega (
      arith,
      ap length (chars-cut word end text boundary),
      length-append (chars (take end word)) (chars (drop end word)),
    )

-- all in a front before a blank or a sign
pub chars-split : (front : List ℕ) (at : ℕ) → IsUtf8 front → at < length front → is_break (get_or front at 0) ≡ true
    → chars front ≡ chars (take at front) ++ get_or front at 0 ∷ chars (drop (at + 1) front)
chars-split front at text lt breaks =
    let rest : drop at front ≡ get_or front at 0 ∷ drop (at + 1) front = drop_more front at 0 lt in
    chars-cut front at text (break-boundary front at (omega (arith, lt)) (ap closes rest ∙ breaks))
    ∙ ap (λ xs. chars (take at front) ++ xs) (ap chars rest
    ∙ chars-low (get_or front at 0) (drop (at + 1) front) (break-low (get_or front at 0) breaks))

drop-past : (xs : List ℕ) (c : ℕ) (ys : List ℕ) → drop (length xs + 1) (xs ++ c ∷ ys) ≡ ys
drop-past [] c ys = refl
drop-past (x ∷ xs) c ys = ap (λ k. drop k (x ∷ (xs ++ c ∷ ys))) (let e : length (x ∷ xs) + 1
    ≡ suc (length xs + 1) = omega arith in e) ∙ drop-past xs c ys

pub step-front : (named : List ℕ → Option Base) (word : List ℕ) (end at : ℕ) → IsUtf8 word → IsLookedAt named word end
    → named (chars (take end word)) ≡ None → at < length (take end word) → is_break (get_or (take end word) at 0) ≡ true
    → list_all inside (drop (at + 1) (take end word)) ≡ true → IsLookedAt named word at
step-front named word end at text looked none lt breaks all =
    let front : List ℕ = take end word in
    let front_utf8 : IsUtf8 (take end word) = IsUtf8-take word end text looked.boundary in
    let below : at < end = omega (arith, lt, length-take end word, looked.within) in
    let shorter : take at (take end word) ≡ take at word = take-take at end word (omega (arith, below)) in
    let inside_word : at < length word = omega (arith, below, looked.within) in
    let here : get_or (take end word) at 0 ≡ get_or word at 0 = get_or-take end word at 0 below in
    let closed : closes (drop at word) ≡ true = ap closes (drop_more word at 0 inside_word) ∙ ap is_break (sym here)
    ∙ breaks in
    let split : chars (take end word) ≡ chars (take at word) ++ get_or (take end word) at 0
    ∷ chars (drop (at + 1) (take end word)) =
    chars-split (take end word) at front_utf8 lt breaks
    ∙ ap (λ xs. chars xs ++ get_or (take end word) at 0 ∷ chars (drop (at + 1) (take end word))) shorter in
    let least : ℕ = length (chars (take at word)) in
    let most : ℕ = length (chars (take end word)) in
    let less : least < most = omega (
      arith,
      ap length split,
      length-append (chars (take at word)) (get_or (take end word) at 0 ∷ chars (drop (at + 1) (take end word))),
    ) in
    let whole : take most (chars word) ≡ chars (take end word) = take-chars word end text looked.boundary in
    let rest_utf8 : IsUtf8 (drop (at + 1) (take end word)) =
    IsUtf8-drop (take end word) (at + 1) front_utf8
    (IsCharBoundary-after_ascii (take end word) at front_utf8 lt
    ((Decides-ltb (get_or (take end word) at 0) 128).0 (break-low (get_or (take end word) at 0) breaks))) in
    let runs : list_all inside (drop (least + 1) (take most (chars word))) ≡ true =
    ap (λ xs. list_all inside (drop (least + 1) xs)) (whole ∙ split)
    ∙ ap (list_all inside) (drop-past (chars (take at word)) (get_or (take end word) at 0)
    (chars (drop (at + 1) (take end word))))
    ∙ inside-chars (drop (at + 1) (take end word)) rest_utf8 all in
    record {
      within = omega (arith, inside_word);
      boundary = break-boundary word at (omega (arith, inside_word)) closed;
      closed = closed;
      same = looked.same ∙ skip-front named (chars word) least most less (length-front word end text looked.boundary)
          (ap named whole ∙ none) runs;
    }

pub no-front : (named : List ℕ → Option Base) (word : List ℕ) (end : ℕ) → IsUtf8 word → IsLookedAt named word end
    → named (chars (take end word)) ≡ None → list_all inside (take end word) ≡ true →
    read_of (chars word) (longest_front named (chars word)) ≡ None
no-front named word end text looked none all =
    let whole = take-chars word end text looked.boundary in
    ap (read_of (chars word)) (looked.same
    ∙ skip-all named (chars word) (length (chars (take end word))) (length-front word end text looked.boundary)
    (ap named whole ∙ none)
    (ap (list_all inside) whole ∙ inside-chars (take end word) (IsUtf8-take word end text looked.boundary) all))

pub this-front : (named : List ℕ → Option Base) (word : List ℕ) (end : ℕ) (base : Base) → IsUtf8 word →
    IsLookedAt named word end
    → named (chars (take end word)) ≡ Some base → saturated_base base ≡ base →
    read_of (chars word) (longest_front named (chars word)) ≡ Some (base, chars (drop end word))
this-front named word end base text looked is small =
    let whole = take-chars word end text looked.boundary in
    let rest = drop-chars word end text looked.boundary in
    ap (read_of (chars word)) (looked.same ∙ found-front named (chars word) (length (chars (take end word))) base
    (ap closes rest ∙ closes-chars (drop end word) looked.closed) (ap named whole ∙ is))
    ∙ ap (λ xs. Some (saturated_base base, xs)) rest ∙ ap (λ b. Some (b, chars (drop end word))) small

-- a front is a range from the first byte on
pub range-front : (xs : List ℕ) (end : ℕ) → slice_range xs 0 end ≡ take end xs
range-front xs end = ap (λ k. take k xs) (let e : end - 0 ≡ end = omega arith in e)
