-- Where the lines of a text begin, and the lines before an offset after an insertion and a removal.
use Rattle.text_model.proofs.Common.{◌≡◌, ◌≢◌, ℕ, zero, suc, ◌+◌, ◌-◌, ◌<◌, ◌≤◌, true, false, cond, List, [], ◌∷◌, ◌++◌}
use Rattle.text_model.proofs.Common.{length, take, drop, get_or, refl, sym, ap, ◌∙◌, arith, add_assoc, slice_range}
use Rattle.text_model.proofs.Common.{if◌then◌else◌, drop_more, get_or-map, sum_by-append, sum_by-cons, sum_by-take-drop}
use Rattle.text_model.proofs.Common.{count_by-le-length, split_between, Cell, characters, inserted, removed, is_newline}
use Rattle.text_model.proofs.Common.{lines, line_of, line_start}
use Rattle.std.proofs.lemmas.Grind.{common_steps}
use Rattle.text_model.proofs.SpliceLaws.{take-inserted, drop-inserted, take-removed, drop-removed}

-- past a character, one newline fewer is to be passed if it is one
line_start-drop : (text : List ℕ) (at left c : ℕ) → at < length text → c ≡ get_or text at c →
    line_start (suc left) (drop at text) ≡ 1 + line_start (if is_newline c then left else suc left) (drop (at + 1) text)
line_start-drop text at left c within is =
    ap (line_start (suc left)) (drop_more text at c within)
    ∙ ap (λ x. 1 + line_start (if is_newline x then left else suc left) (drop (at + 1) text)) (sym is)

pub line_start-next : (cells : List Cell) (whole at left : ℕ) (cell : Cell) → at < length cells →
    cell ≡ get_or cells at cell → left ≢ 0
    → whole ≡ at + line_start left (drop at (characters cells))
    → whole ≡ (at + 1) + line_start (if is_newline cell.character then left - 1
    else left) (drop (at + 1) (characters cells))
line_start-next cells whole at zero cell within is some whole_is = absurd (some refl)
line_start-next cells whole at (suc left) cell within is some whole_is =
    let here : at < length (characters cells) = grind (arith, common_steps) in
    let same : cell.character ≡ get_or (characters cells) at cell.character = ap (λ (x : Cell). x.character) is
    ∙ sym (get_or-map (λ (x : Cell). x.character) cells at cell cell.character within) in
    let step = line_start-drop (characters cells) at left cell.character here same in
    let minus : suc left - 1 ≡ left = omega arith in
    rw minus (whole_is ∙ ap (λ n. at + n) step ∙ sym (add_assoc at 1 _))

-- the lines of a text with one character in front
pub lines-cons : (c : ℕ) (text : List ℕ) → lines (c ∷ text) ≡ cond (is_newline c) 1 0 + lines text
lines-cons c text = sum_by-cons (λ x. cond (is_newline x) 1 0) c text

-- each line begins behind the one before it
pub line_start-rises : (text : List ℕ) (line : ℕ) → line < lines text →
    line_start line text < line_start (suc line) text
line_start-rises [] line within = absurd (omega arith)
line_start-rises (c ∷ text) zero within = omega arith
line_start-rises (c ∷ text) (suc line) within =
    elim (is_newline c) as (λ b. lines (c ∷ text) ≡ cond b 1 0 + lines text →
    1 + line_start (if b then line else suc line) text
    < 1 + line_start (if b then suc line else suc (suc line)) text) [
      | true ↦ λ more. let below : line < lines text = omega arith in omega (arith, line_start-rises text line below)
      | false ↦ λ more. let below : suc line < lines text = omega arith in
          omega (arith, line_start-rises text (suc line) below)
    ] (lines-cons c text)

-- no line begins before the one before it does, also behind the last
pub line_start-later : (text : List ℕ) (line : ℕ) → line_start line text ≤ line_start (suc line) text
line_start-later [] zero = omega arith
line_start-later [] (suc line) = omega arith
line_start-later (c ∷ text) zero = omega arith
line_start-later (c ∷ text) (suc line) =
    elim (is_newline c) as (λ b. 1 + line_start (if b then line else suc line) text
    ≤ 1 + line_start (if b then suc line else suc (suc line)) text) [
      | true ↦ omega (arith, line_start-later text line)
      | false ↦ omega (arith, line_start-later text (suc line))
    ]

-- a line begins within the text, and the one behind the last at its end
pub line_start-le : (text : List ℕ) (line : ℕ) → line_start line text ≤ length text
line_start-le [] zero = omega arith
line_start-le [] (suc line) = omega arith
line_start-le (c ∷ text) zero = omega arith
line_start-le (c ∷ text) (suc line) =
    elim (is_newline c) as (λ b. 1 + line_start (if b then line else suc line) text ≤ suc (length text)) [
      | true ↦ omega (arith, line_start-le text line)
      | false ↦ omega (arith, line_start-le text (suc line))
    ]

-- there are no more lines than characters
pub lines-le-length : (text : List ℕ) → lines text ≤ length text
lines-le-length text = count_by-le-length is_newline text

pub line_start-before : (text : List ℕ) (line : ℕ) → 0 < line → line ≤ lines text →
    line_start (line - 1) text < line_start line text
line_start-before text zero some within = absurd (omega arith)
line_start-before text (suc line) some within = let same : suc line - 1 ≡ line = omega arith in
    rw same (line_start-rises text line within)

pub lines-append : (xs ys : List ℕ) → lines (xs ++ ys) ≡ lines xs + lines ys
lines-append xs ys = sum_by-append (λ x. cond (is_newline x) 1 0) xs ys

lines-parts : (text : List ℕ) (at : ℕ) → lines (take at text) + lines (drop at text) ≡ lines text
lines-parts text at = sum_by-take-drop (λ x. cond (is_newline x) 1 0) text at

pub lines-inserted : (at : ℕ) (new text : List ℕ) → lines (inserted at new text) ≡ lines text + lines new
lines-inserted at new text = omega (
  arith,
  lines-append (take at text ++ new) (drop at text),
  lines-append (take at text) new,
  lines-parts text at,
)

pub lines-removed : (from to : ℕ) (text : List ℕ) → from ≤ to →
    lines (removed from to text) + lines (slice_range text from to) ≡ lines text
lines-removed from to text ordered =
    let middle = slice_range text from to in
    omega (
      arith,
      lines-append (take from text) (drop to text),
      ap lines (split_between text from to ordered),
      lines-append (take from text) (middle ++ drop to text),
      lines-append middle (drop to text),
    )

-- the lines before an offset: before the step and behind it
pub line_of-inserted_before : (at : ℕ) (new text : List ℕ) (offset : ℕ) → at ≤ length text → offset ≤ at →
    line_of (inserted at new text) offset ≡ line_of text offset
line_of-inserted_before at new text offset within before = ap lines (take-inserted at new text offset within before)

pub line_of-inserted_behind : (at : ℕ) (new text : List ℕ) (offset : ℕ) → at ≤ length text → at ≤ offset →
    line_of (inserted at new text) (offset + length new) ≡ line_of text offset + lines new
line_of-inserted_behind at new text offset within behind =
    omega (
      arith,
      lines-parts (inserted at new text) (offset + length new),
      ap lines (drop-inserted at new text offset within behind),
      lines-inserted at new text,
      lines-parts text offset,
    )

pub line_of-removed_before : (from to : ℕ) (text : List ℕ) (offset : ℕ) → from ≤ length text → offset ≤ from →
    line_of (removed from to text) offset ≡ line_of text offset
line_of-removed_before from to text offset within before = ap lines (take-removed from to text offset within before)

pub line_of-removed_behind : (from to : ℕ) (text : List ℕ) (offset : ℕ) → from ≤ to → to ≤ length text → from ≤ offset
    → line_of (removed from to text) offset + lines (slice_range text from to) ≡ line_of text (offset + (to - from))
line_of-removed_behind from to text offset ordered within behind =
    omega (
      arith,
      lines-parts (removed from to text) offset,
      ap lines (drop-removed from to text offset (omega arith) ordered behind),
      lines-removed from to text ordered,
      lines-parts text (offset + (to - from)),
    )
