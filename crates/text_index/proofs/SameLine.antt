-- Which line a place stands in, by where a line begins and ends.
use Rattle.text_index.proofs.Common.{◌≡◌, ℕ, suc, zero, inl, inr, ◌+◌, ◌<◌, ◌≤◌, true, false, List, refl, ap, ◌∙◌}
use Rattle.text_index.proofs.Common.{arith, IsLineOf, lines, line_of, line_start, [], ◌∷◌, take, cond, cases_Bool}
use Rattle.text_index.proofs.Common.{is_newline, lines-cons, LineSpan}
use Rattle.text_index.proofs.ViewLaws.{line_of-within, lines-of-part}

start-on : (c : ℕ) (text : List ℕ) (line : ℕ) → is_newline c ≡ true →
    line_start (suc line) (c ∷ text) ≡ suc (line_start line text)
start-on c text line newline = ap (λ b. 1 + line_start (cond b line (suc line)) text) newline ∙ omega arith

start-in : (c : ℕ) (text : List ℕ) (line : ℕ) → is_newline c ≡ false →
    line_start (suc line) (c ∷ text) ≡ suc (line_start (suc line) text)
start-in c text line other = ap (λ b. 1 + line_start (cond b line (suc line)) text) other ∙ omega arith

line-on : (c : ℕ) (text : List ℕ) (k : ℕ) → is_newline c ≡ true → line_of (c ∷ text) (suc k) ≡ suc (line_of text k)
line-on c text k newline = lines-cons c (take k text) ∙ ap (λ b. cond b 1 0 + lines (take k text)) newline ∙ omega arith

line-in : (c : ℕ) (text : List ℕ) (k : ℕ) → is_newline c ≡ false → line_of (c ∷ text) (suc k) ≡ line_of text k
line-in c text k other = lines-cons c (take k text) ∙ ap (λ b. cond b 1 0 + lines (take k text)) other ∙ omega arith

lines-on : (c : ℕ) (text : List ℕ) → is_newline c ≡ true → lines (c ∷ text) ≡ suc (lines text)
lines-on c text newline = lines-cons c text ∙ ap (λ b. cond b 1 0 + lines text) newline ∙ omega arith

lines-in : (c : ℕ) (text : List ℕ) → is_newline c ≡ false → lines (c ∷ text) ≡ lines text
lines-in c text other = lines-cons c text ∙ ap (λ b. cond b 1 0 + lines text) other ∙ omega arith

no-line : line_of [] 0 ≡ 0
no-line = refl

-- the line that begins there
pub line-of-start : (text : List ℕ) (line : ℕ) → line ≤ lines text → line_of text (line_start line text) ≡ line
line-of-start text zero within = refl
line-of-start [] (suc line) within = absurd (omega (arith, no-line))
line-of-start (c ∷ text) (suc line) within =
    elim (cases_Bool (is_newline c)) [
      | inl newline ↦
          ap (line_of (c ∷ text)) (start-on c text line newline) ∙ line-on c text (line_start line text) newline
          ∙ ap suc (line-of-start text line (omega (arith, lines-on c text newline)))
      | inr other ↦
          ap (line_of (c ∷ text)) (start-in c text line other) ∙ line-in c text (line_start (suc line) text) other
          ∙ line-of-start text (suc line) (omega (arith, lines-in c text other))
    ]

-- before it stand lesser lines
pub line-before-start : (text : List ℕ) (line k : ℕ) → k < line_start line text → line_of text k < line
line-before-start text zero k before = absurd (omega arith)
line-before-start [] (suc line) k before = absurd (omega arith)
line-before-start (c ∷ text) (suc line) zero before = let e : line_of (c ∷ text) 0 ≡ 0 = refl in omega (arith, e)
line-before-start (c ∷ text) (suc line) (suc k) before =
    elim (cases_Bool (is_newline c)) [
      | inl newline ↦ omega (
        arith,
        line-on c text k newline,
        line-before-start text line k (omega (arith, start-on c text line newline)),
      )
      | inr other ↦ omega (
        arith,
        line-in c text k other,
        line-before-start text (suc line) k (omega (arith, start-in c text line other)),
      )
    ]

-- a place between where the line of another one begins and where it ends
pub same-line : (text : List ℕ) (from place : ℕ) (line : LineSpan) → IsLineOf text from line → line.start ≤ place →
    place < line.end → IsLineOf text place line
same-line text from place line is behind before =
    let here = line_of text from in
    let start : line.start ≡ line_start here text = is.start ∙ ap (λ k. line_start k text) is.number in
    let end : line.end ≡ line_start (here + 1) text = is.end ∙ ap (λ k. line_start (k + 1) text) is.number in
    let first = line-of-start text here (line_of-within text from) in
    let same : here ≡ line_of text place = omega (
      arith,
      lines-of-part text (line_start here text) place (omega (arith, start, behind)),
      first,
      line-before-start text (here + 1) place (omega (arith, before, end)),
    ) in
    record { number = is.number ∙ same; start = is.start; end = is.end }
