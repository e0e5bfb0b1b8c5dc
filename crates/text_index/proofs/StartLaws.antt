-- Where the lines of a view begin, by those of the text, and which lines it has.
use Rattle.text_index.proofs.Common.{Part, ◌≡◌, ℕ, suc, inl, inr, ◌+◌, ◌-◌, ◌<◌, ◌≤◌, true, false, min, List, Some}
use Rattle.text_index.proofs.Common.{length, refl, ap, sym, ◌∙◌, arith, nat_lt, if◌then◌else◌, cases_lt, nat_tests}
use Rattle.text_index.proofs.Common.{in_line, line_value, characters, shown, IsView, IsLineOf, lines, line_of}
use Rattle.text_index.proofs.Common.{line_start, line_start-le, line_start-rises, LineSpan}
use Rattle.text_index.proofs.ViewLaws.{before-end, length-shown, line_of-within, line_start-add, line_start-before}
use Rattle.text_index.proofs.ViewLaws.{lines-of-part, lines-part, start-part}

-- a line begins where those before it do, or behind that
later-start : (text : List ℕ) (line other : ℕ) → line ≤ other → line_start line text ≤ line_start other text
later-start text line other before =
    let is : line + (other - line) ≡ other = omega arith in
    omega (arith, line_start-add line (other - line) text, ap (λ k. line_start k text) is)

-- a line behind the last
pub none-on : (text : List ℕ) (line character start : ℕ) → (lines text ≤ line → line_start line text ≡ length text) →
    lines text ≤ line
    → start ≡ line_start line text → start ≡ line_value (suc line) (Some character) text
none-on text line character start past over is =
    elim (nat_lt line (lines text)) as (λ b. nat_lt line (lines text) ≡ b →
    start ≡ (if b then in_line line character text else length text)) [
      | true ↦ λ before. let inside : line < lines text = grind (arith, nat_tests) in
          absurd (omega (arith, inside, over))
      | false ↦ λ behind. omega (arith, is, past over)
    ] refl

module _ {part : Part} (view : IsView part) where
  abbrev start : ℕ
  start = part.start

  abbrev end : ℕ
  end = part.end

  abbrev text : List ℕ
  text = characters part.content.cells

  abbrev visible : List ℕ
  visible = shown part

  long : length visible ≡ end - start
  long = length-shown part view

  total : line_of text start + lines visible ≡ line_of text end
  total = lines-of-part text start end view.ordered

  pub past-start : (line : ℕ) → lines visible ≤ line → line_start line visible ≡ end - start
  past-start line past =
      let all = start-part text start end (lines visible) view.first (omega arith) in
      let same = ap (λ k. line_start k text) total in
      omega (arith, all, same, view.behind.begins, later-start visible (lines visible) line past, line_start-le visible line, long)

  -- the first character of the first line is the first place, also where there is no line
  pub first-value : 0 ≡ line_value 1 (Some 0) visible
  first-value =
      elim (nat_lt 0 (lines visible)) as (λ b. nat_lt 0 (lines visible) ≡ b →
      0 ≡ (if b then in_line 0 0 visible else length visible)) [
        | true ↦ λ _. omega arith
        | false ↦ λ none. let few : lines visible ≤ 0 = grind (arith, nat_tests) in omega (arith, long, past-start 0 few)
      ] refl

  start-shown : (line : ℕ) → line_start line visible ≡ min (line_start (line_of text start + line) text) end - start
  start-shown line =
      elim (cases_lt line (lines visible)) [
        | inl before ↦
            let there = start-part text start end line view.first (omega (arith, before)) in
            omega (arith, there, line_start-le visible line, long, view.ordered)
        | inr past ↦
            let later = later-start text (line_of text end) (line_of text start + line) (omega (arith, total, past)) in
            omega (arith, past-start line (omega (arith, past)), later, view.behind.begins, view.ordered)
      ]

  start-after : (line : ℕ) → start ≤ line_start (line_of text start + line) text
  start-after line = let later = later-start text (line_of text start) (line_of text start + line) (omega arith) in
      omega (arith, view.first.begins, later)

  -- ---- the line of a place, by that of the text
  module _ (place : ℕ) (line : LineSpan) (is : IsLineOf text (start + place) line) where
    pub place-start : start + place ≤ end → (start ≤ line.start) × (line.start ≤ start + place)
        × (line.start - start ≡ line_start (line_of visible place) visible)
    place-start within =
        let number = lines-part text start end place within in
        let same = ap (λ k. line_start k text) number in
        let there = is.start ∙ ap (λ k. line_start k text) is.number in
        let before = line_start-before text (start + place) (omega (arith, view.behind.within, within)) in (
          omega (arith, there, start-after (line_of visible place), same),
          omega (arith, there, before),
          omega (arith, there, start-shown (line_of visible place), same, before, within),
        )

    -- where the one behind it begins
    behind-is : start + place ≤ end → line.end ≡ line_start (line_of text start + (line_of visible place + 1)) text
    behind-is within =
        let there : line.number + 1 ≡ line_of text start + (line_of visible place + 1) =
        omega (arith, is.number, lines-part text start end place within) in
        is.end ∙ ap (λ k. line_start k text) there

    pub place-ends : start + place ≤ end → start ≤ min line.end end
    place-ends within =
        omega (arith, behind-is within, start-after (line_of visible place + 1), view.ordered)

    pub line-shown : start + place ≤ end → IsLineOf visible place (record {
      number = line.number - line_of text start;
      start = line.start - start;
      end = min line.end end - start;
    })
    line-shown within =
        let here : line.number - line_of text start ≡ line_of visible place =
        omega (arith, is.number, lines-part text start end place within) in
        record {
          number = here;
          start = (place-start within).2 ∙ ap (λ k. line_start k visible) (sym here);
          end =
              ap (λ n. min n end - start) (behind-is within)
              ∙ sym (start-shown (line_of visible place + 1)) ∙ ap (λ k. line_start (k + 1) visible) (sym here);
        }

    pub place-behind : start + place < end
        → (start < line.end) × (line.end ≤ end) × (line.end - start ≡ line_start (line_of visible place + 1) visible)
    place-behind within =
        let inside : start + place ≤ end = omega (arith, within) in
        let before = before-end text (start + place) end view.behind within in
        let known : line_of text (start + place) < lines text = omega (arith, before, line_of-within text end) in
        let one : line.number + 1 ≡ suc (line_of text (start + place)) = omega (arith, is.number) in
        let there = is.end ∙ ap (λ k. line_start k text) one in
        let ends = later-start text (suc (line_of text (start + place))) (line_of text end) (omega (arith, before)) in
        let first = is.start ∙ ap (λ k. line_start k text) is.number in (
          omega (arith, (place-start inside).0, first, line_start-rises text (line_of text (start + place)) known, there),
          omega (arith, there, ends, view.behind.begins),
          omega (arith, start-shown (line_of visible place + 1), behind-is inside, there, ends, view.behind.begins),
        )

  -- ---- a line by its number in the text, which has that line
  pub record IsNumber (line number : ℕ) : Type 0 where
    pub is : number ≡ line_of text start + line
    pub known : number < lines text

  pub number-is : (line : ℕ) {first number count : ℕ} → first ≡ line_of text start
      → number ≡ min (first + line) 18446744073709551615 → count ≡ lines text → count < 18446744073709551616
      → number < count → IsNumber line number
  number-is line first_is number_is count_is small known = record {
    is = omega (arith, first_is, number_is, small, known);
    known = omega (arith, count_is, known);
  }

  -- one that the text hasn't
  pub none-shown : (line : ℕ) {first number count : ℕ} → first ≡ line_of text start
      → number ≡ min (first + line) 18446744073709551615 → count ≡ lines text → count ≤ number
      → (lines visible ≤ line) × (line_start line visible ≡ end - start)
  none-shown line first_is number_is count_is past =
      let few : lines visible ≤ line =
      omega (arith, total, line_of-within text end, first_is, number_is, count_is, past) in
      (few, past-start line few)

  module _ {line number first : ℕ} (numbered : IsNumber line number) (first_is : first ≡ line_start number text) where
    here : first ≡ line_start (line_of text start + line) text
    here = first_is ∙ ap (λ k. line_start k text) numbered.is

    pub begins-after : start ≤ first
    begins-after = omega (arith, here, start-after line)

    pub begins-at : min first end - start ≡ line_start line visible
    begins-at = omega (arith, here, start-shown line)

  module _ {line number behind : ℕ} (numbered : IsNumber line number) (behind_is : behind ≡ line_start (number + 1) text)
    where
      there : behind ≡ line_start (line_of text start + suc line) text
      there =
          let same : number + 1 ≡ line_of text start + suc line = omega (arith, numbered.is) in
          behind_is ∙ ap (λ k. line_start k text) same

      pub ends-after : start ≤ behind
      ends-after = omega (arith, there, start-after (suc line))

      -- its end stands behind the end of the view
      pub ends-behind : end < behind → lines visible ≤ line
      ends-behind past =
          elim (cases_lt line (lines visible)) [
            | inl before ↦
                let shown = start-part text start end (suc line) view.first (omega (arith, before)) in
                absurd (omega (arith, shown, there, line_start-le visible (suc line), long, past, view.ordered))
            | inr past-last ↦ omega (arith, past-last)
          ]

      rises : line_start (line_of text start + line) text < behind
      rises =
          let known : line_of text start + line < lines text = omega (arith, numbered.is, numbered.known) in
          let same : line_of text start + suc line ≡ suc (line_of text start + line) = omega arith in
          let more = line_start-rises text (line_of text start + line) known in
          omega (arith, more, there, ap (λ k. line_start k text) same)

      -- or within it
      pub ends-within : behind ≤ end → (line < lines visible) × (behind - start ≡ line_start (suc line) visible)
      ends-within within =
          let has : line < lines visible =
          elim (cases_lt line (lines visible)) [
            | inl before ↦ before
            | inr past ↦
                let later = later-start text (line_of text end) (line_of text start + line) (omega (arith, total, past)) in
                absurd (omega (arith, later, view.behind.begins, rises, within))
          ] in
          (has, omega (arith, start-part text start end (suc line) view.first (omega (arith, has)), there))

      -- so it begins within it too
      pub start-within : {first : ℕ} → first ≡ line_start number text → behind ≤ end → first - start ≡ line_start line visible
      start-within first_is within =
          omega (arith, here numbered first_is, start-shown line, rises, within)
