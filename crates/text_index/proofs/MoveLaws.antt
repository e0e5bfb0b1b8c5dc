-- What a move comes to, by the test that it takes.
use Rattle.text_index.proofs.Common.{◌≡◌, ℕ, suc, ◌+◌, ◌-◌, ◌<◌, ◌≤◌, Bool, true, false, List, length, take, drop, refl}
use Rattle.text_index.proofs.Common.{min, max, sym, ap, ◌∙◌, arith, ne_eqb, slice_index, if◌then◌else◌, prefix_len}
use Rattle.text_index.proofs.Common.{suffix_len, nat_tests, Decides-eqb, prefix_len-drop_yes, prefix_len-drop_no}
use Rattle.text_index.proofs.Common.{suffix_len-take_yes, suffix_len-take_no, lines, line_of, in_line, column_of}
use Rattle.text_index.proofs.Common.{lines_back, unless_end, word_front, word_behind, word_end, ◌==◌}
use Rattle.text_index.proofs.ViewLaws.{line_of-within}

-- ---- lines back

back-to-end : (text : List ℕ) (count place line : ℕ) → line ≡ line_of text place - count → line ≡ lines text →
    lines_back count text place ≡ length text
back-to-end text count place line is last =
    ap (λ b. if b then length text else in_line (line_of text place - count) (column_of text place) text)
    ((Decides-eqb (line_of text place - count) (lines text)).1 (sym is ∙ last))

pub back-to-last : (text : List ℕ) (count place from line end : ℕ) → from ≡ line_of text place → line ≡ from - count →
    line ≡ lines text → end ≡ length text → end ≡ lines_back count text place
back-to-last text count place from line end from_is is last end_is =
    end_is ∙ sym (back-to-end text count place line (is ∙ ap (λ k. k - count) from_is) last)

pub back-within : (text : List ℕ) (count place from line : ℕ) → from ≡ line_of text place → line ≡ from - count →
    (line ≡ lines text → ⊥) → line < lines text
back-within text count place from line from_is is other = omega (arith, from_is, is, other, line_of-within text place)

pub back-in-line : (text : List ℕ) (count place from line column found : ℕ) → from ≡ line_of text place →
    column ≡ column_of text place → line ≡ from - count → (line ≡ lines text → ⊥)
    → found ≡ in_line line column text → found ≡ lines_back count text place
back-in-line text count place from line column found from_is column_is is other found_is =
    let there : line ≡ line_of text place - count = is ∙ ap (λ k. k - count) from_is in
    found_is ∙ ap (λ k. in_line k column text) there ∙ ap (λ k. in_line (line_of text place - count) k text) column_is
    ∙ sym (ap (λ b. if b then length text else in_line (line_of text place - count) (column_of text place) text)
    (ne_eqb (line_of text place - count) (lines text) (λ same. other (there ∙ same))))

-- ---- words

at-end : (text : List ℕ) (place value : ℕ) → place ≡ length text → unless_end text place value ≡ length text
at-end text place value same = ap (λ b. if b then length text else value) ((Decides-eqb place (length text)).1 same)

inside : (text : List ℕ) (place value : ℕ) → (place ≡ length text → ⊥) → unless_end text place value ≡ value
inside text place value other = ap (λ b. if b then length text else value) (ne_eqb place (length text) other)

pub stays : (text : List ℕ) (place value : ℕ) → place ≡ length text → place ≡ unless_end text place value
stays text place value same = same ∙ sym (at-end text place value same)

pub moves : (text : List ℕ) (place value found : ℕ) → (place ≡ length text → ⊥) → found ≡ value →
    found ≡ unless_end text place value
moves text place value found other is = is ∙ sym (inside text place value other)

-- the run that ends behind the character of a place begins there at most, or behind it where that makes no word
pub front-of-run : (test : ℕ → Bool) (text : List ℕ) (place next start : ℕ) → place < length text →
    start ≡ next - suffix_len test (take next text) → next ≡ place + 1 → min start place ≡ word_front test text place
front-of-run test text place next start within is next_is = which (test (slice_index text place)) refl where
  which : (b : Bool) → test (slice_index text place) ≡ b → min start place ≡ word_front test text place
  which true met =
      let back : next - 1 ≡ place = omega (arith, next_is) in
      let one = suffix_len-take_yes test text next 0 (omega (arith, next_is)) (omega (arith, next_is))
      (ap (λ n. test (slice_index text n)) back ∙ met) in
      let here = ap (λ n. suffix_len test (take n text)) back in
      let found : min start place ≡ place - suffix_len test (take place text) = omega (arith, is, one, here, next_is) in
      found ∙ sym (ap (λ b. if b then place - suffix_len test (take place text) else place) met)
  which false unmet =
      let back : next - 1 ≡ place = omega (arith, next_is) in
      let none = suffix_len-take_no test text next 0 (omega (arith, next_is)) (omega (arith, next_is))
      (ap (λ n. test (slice_index text n)) back ∙ unmet) in
      let found : min start place ≡ place = omega (arith, is, none, next_is) in
      found ∙ sym (ap (λ b. if b then place - suffix_len test (take place text) else place) unmet)

-- the end of a word, from a place that isn't the last
behind : (test : ℕ → Bool) (text : List ℕ) (place found : ℕ) → 1 < length text - place →
    found ≡ word_behind test text place → found ≡ unless_end text place (word_end test text place)
behind test text place found more is =
    moves text place (word_end test text place) found (λ same. omega (arith, same, more))
    (is ∙ sym (ap (λ b. if b then place else word_behind test text place)
    (ne_eqb (suc place) (length text) (λ same. omega (arith, same, more)))))

pub end-of-run : (test : ℕ → Bool) (text : List ℕ) (place end : ℕ) → 1 < length text - place →
    end ≡ place + prefix_len test (drop place text)
    → max end (place + 1) ≡ unless_end text place (word_end test text place)
end-of-run test text place end more is =
    behind test text place (max end (place + 1)) more (which (test (slice_index text place)) refl) where
      which : (b : Bool) → test (slice_index text place) ≡ b → max end (place + 1) ≡ word_behind test text place
      which true met =
          let one = prefix_len-drop_yes test text place 0 (omega arith) met in
          let found : max end (place + 1) ≡ place + prefix_len test (drop place text) = omega (arith, is, one) in
          found ∙ sym (ap (λ b. if b then place + prefix_len test (drop place text) else place + 1) met)
      which false unmet =
          let none = prefix_len-drop_no test text place 0 (omega arith) unmet in
          let found : max end (place + 1) ≡ place + 1 = omega (arith, is, none) in
          found ∙ sym (ap (λ b. if b then place + prefix_len test (drop place text) else place + 1) unmet)

-- the last place stays, and so does the end
pub end-of-last : (test : ℕ → Bool) (text : List ℕ) (place : ℕ) → place ≤ length text → length text - place ≤ 1 →
    place ≡ unless_end text place (word_end test text place)
end-of-last test text place within few =
    elim (place == length text) as (λ b. place == length text ≡ b →
    place ≡ unless_end text place (word_end test text place)) [
      | true ↦ λ same. stays text place (word_end test text place) ((Decides-eqb place (length text)).0 same)
      | false ↦ λ other.
          let last : suc place ≡ length text = grind (arith, nat_tests) in
          sym (ap (λ b. if b then length text else word_end test text place) other
          ∙ ap (λ b. if b then place else word_behind test text place)
          ((Decides-eqb (suc place) (length text)).1 last))
    ] refl
