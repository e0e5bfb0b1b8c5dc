-- Where the next line begins.
use Rattle.search_dump.proofs.Common.{Part, ◌≡◌, ℕ, inl, inr, ◌+◌, ◌-◌, ◌<◌, ◌≤◌, ◌⊎◌, ◌==◌, min, List, length, sym, ap}
use Rattle.search_dump.proofs.Common.{◌∙◌, arith, cases_lt, eq-eqb, ne_eqb, line_of, line_start, lines, column_of}
use Rattle.search_dump.proofs.Common.{IsView, shown, characters, before-end, line_start-before, lines-of-part}
use Rattle.search_dump.proofs.Common.{lines-part, IsNextStop}
use Rattle.text_index.proofs.SameLine.{line-before-start, line-of-start}

pub line-stop : (text : List ℕ) (place to next stop : ℕ) → place ≤ length text → line_of text place + 1 ≤ lines text →
    next ≡ line_start (line_of text place + 1) text
    → (place < next) × ((stop ≡ to) ⊎ (stop ≡ next) → stop ≤ to → stop ≤ next →
    IsNextStop (λ k. column_of text k == 0) place to stop)
line-stop text place to next stop within line is =
    let here = line_of text place in
    let there : line_of text next ≡ here + 1 = ap (line_of text) is ∙ line-of-start text (here + 1) line in
    let above : place < next = elim (cases_lt place next) [
      | inl less ↦ less
      | inr more ↦ absurd (omega (arith, there, lines-of-part text next place more))
    ] in (
      above,
      λ reached below before. record {
        fails = λ k from upto.
            let same : line_of text k ≡ here = omega (
              arith,
              lines-of-part text place k (omega arith),
              line-before-start text (here + 1) k (omega (arith, is)),
            ) in
            let begins = line_start-before text place within in
            ne_eqb (column_of text k) 0 (λ none. omega (arith, ap (λ n. line_start n text) same, none));
        reached = elim reached [
          | inl end ↦ inl end
          | inr at ↦ inr (eq-eqb (column_of text stop) 0
              (ap (column_of text) at ∙ ap (λ n. next - line_start n text) there ∙ ap (λ n. next - n) (sym is)
              ∙ omega arith))
        ];
      },
    )

pub earlier-one : (to next stop : ℕ) → stop ≡ min to next → (stop ≡ to) ⊎ (stop ≡ next)
earlier-one to next stop is = elim (cases_lt to next) [ inl less ↦ inl (omega arith) | inr more ↦ inr (omega arith) ]

-- a place before the end of a view stands in one of its lines
pub view-line : (part : Part) (place : ℕ) → IsView part → part.start + place < part.end →
    line_of (shown part) place + 1 ≤ lines (shown part)
view-line part place view before =
    let text = characters part.content.cells in
    omega (
      arith,
      before-end text (part.start + place) part.end view.behind before,
      lines-part text part.start part.end place (omega arith),
      lines-of-part text part.start part.end view.ordered,
    )
