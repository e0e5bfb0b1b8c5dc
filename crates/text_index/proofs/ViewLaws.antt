-- Lines of the part of a text that a view shows, by those of the text.
use Rattle.text_index.proofs.Common.{drop-take, drop-drop, Part, ◌≡◌, ℕ, zero, suc, ◌+◌, ◌-◌, ◌<◌, ◌≤◌, min, true}
use Rattle.text_index.proofs.Common.{false, cond, List, [], ◌∷◌, ◌++◌, length, take, drop, refl, sym, ap, ap₂, ◌∙◌}
use Rattle.text_index.proofs.Common.{arith, ne_eqb, length-drop, slice_range, if◌then◌else◌, take-take}
use Rattle.text_index.proofs.Common.{take-append-drop, length-take-le, IsLineStart, is_newline, lines, line_of}
use Rattle.text_index.proofs.Common.{line_start, lines-cons, lines-append, characters, IsView, shown, in_line}
use Rattle.text_index.proofs.Common.{column_of, lines_on}

line_start-nil : (line : ℕ) → line_start line [] ≡ 0
line_start-nil zero = refl
line_start-nil (suc line) = refl

-- so many lines on, in the text behind the first of them
pub line_start-add : (line more : ℕ) (text : List ℕ) → line_start (line + more) text
    ≡ line_start line text + line_start more (drop (line_start line text) text)
line_start-add zero more text = ap (λ k. line_start k text) (let e : 0 + more ≡ more = omega arith in e) ∙ omega arith
line_start-add (suc line) more [] = line_start-nil (suc line + more) ∙ sym (line_start-nil more) ∙ omega arith
line_start-add (suc line) more (c ∷ text) =
    ap (λ k. line_start k (c ∷ text)) (let e : suc line + more ≡ suc (line + more) = omega arith in e) ∙
    elim (is_newline c) as (λ b. is_newline c ≡ b
    → 1 + line_start (if b then line + more else suc (line + more)) text
    ≡ 1 + line_start (if b then line else suc line) text
    + line_start more (drop (line_start (if b then line else suc line) text) text)) [
      | true ↦ λ _. ap (λ k. 1 + k) (line_start-add line more text) ∙ omega arith
      | false ↦ λ _. ap (λ k. 1 + line_start k text) (let e : suc (line + more) ≡ suc line + more = omega arith in e)
          ∙ ap (λ k. 1 + k) (line_start-add (suc line) more text) ∙ omega arith
    ] refl
    ∙ (let first = line_start (if is_newline c then line else suc line) text in
    ap (λ ys. 1 + first + line_start more ys)
    (sym (ap (λ k. drop k (c ∷ text)) (let e : 1 + first ≡ suc first = omega arith in e))))

take-nil : {A : Type 0} (n : ℕ) → take {A = A} n [] ≡ []
take-nil zero = refl
take-nil (suc n) = refl

-- a front in two parts
pub take-apart : {A : Type 0} (n m : ℕ) (xs : List A) → take (n + m) xs ≡ take n xs ++ take m (drop n xs)
take-apart zero m xs = ap (λ k. take k xs) (let e : 0 + m ≡ m = omega arith in e)
take-apart (suc n) m [] = take-nil (suc n + m) ∙ sym (take-nil m)
take-apart (suc n) m (x ∷ xs) = ap (λ k. take k (x ∷ xs)) (let e : suc n + m ≡ suc (n + m) = omega arith in e)
    ∙ ap (λ ys. x ∷ ys) (take-apart n m xs)

-- the newlines before a place of the part, and before its start
pub lines-part : (text : List ℕ) (start end place : ℕ) → start + place ≤ end →
    line_of text start + line_of (slice_range text start end) place ≡ line_of text (start + place)
lines-part text start end place within =
    let front : take (start + place) text ≡ take start text
    ++ take place (drop start text) = take-apart start place text in
    let same : take place (slice_range text start end)
    ≡ take place (drop start text) = take-take place (end - start) (drop start text) (omega arith) in
    sym (ap lines front ∙ lines-append (take start text) (take place (drop start text))
    ∙ ap (λ xs. lines (take start text) + lines xs) (sym same))

-- where a line of the part begins, if it is one of its lines or the one behind the last
start-of-front : (text : List ℕ) (count line : ℕ) → line ≤ lines (take count text) →
    line_start line (take count text) ≡ line_start line text
start-of-front text zero zero within = refl
start-of-front text zero (suc line) within =
    absurd (let none : lines (take zero text) ≡ 0 = refl in omega (arith, none, within))
start-of-front [] (suc count) zero within = refl
start-of-front [] (suc count) (suc line) within = refl
start-of-front (c ∷ text) (suc count) zero within = refl
start-of-front (c ∷ text) (suc count) (suc line) within =
    let more = lines-cons c (take count text) in
    elim (is_newline c) as (λ b. (cond b 1 0 + lines (take count text) ≡ lines (c ∷ take count text)) →
    1 + line_start (if b then line else suc line) (take count text)
    ≡ 1 + line_start (if b then line else suc line) text) [
      | true ↦ λ total. ap (λ k. 1 + k) (start-of-front text count line (omega (arith, within, total)))
      | false ↦ λ total. ap (λ k. 1 + k) (start-of-front text count (suc line) (omega (arith, within, total)))
    ] (sym more)

pub start-part : (text : List ℕ) (start end line : ℕ) → IsLineStart text start →
    line ≤ lines (slice_range text start end)
    → start + line_start line (slice_range text start end) ≡ line_start (line_of text start + line) text
start-part text start end line begins within =
    ap (λ k. start + k) (start-of-front (drop start text) (end - start) line within)
    ∙ ap₂ (λ k j. k + line_start line (drop j text)) (sym begins.begins) (sym begins.begins)
    ∙ sym (line_start-add (line_of text start) line text)

-- how many lines the part has
pub lines-of-part : (text : List ℕ) (start end : ℕ) → start ≤ end →
    line_of text start + lines (slice_range text start end) ≡ line_of text end
lines-of-part text start end ordered =
    let front : take end text ≡ take start text ++ take (end - start) (drop start text) =
    ap (λ k. take k text) (let e : end ≡ start + (end - start) = omega arith in e)
    ∙ take-apart start (end - start) text in
    sym (ap lines front ∙ lines-append (take start text) (take (end - start) (drop start text)))

pub line_of-within : (text : List ℕ) (place : ℕ) → line_of text place ≤ lines text
line_of-within text place =
    let parts : lines text ≡ lines (take place text)
    + lines (drop place text) = ap lines (sym (take-append-drop place text))
    ∙ lines-append (take place text) (drop place text) in
    omega (arith, parts)

next-line : (c : ℕ) (text : List ℕ) (line place : ℕ) → is_newline c ≡ true → line_start line text ≤ place →
    line_start (suc line) (c ∷ text) ≤ suc place
next-line c text line place newline before =
    rw (ap (λ b. 1 + line_start (if b then line else suc line) text) newline) (omega (arith, before))

same-line : (c : ℕ) (text : List ℕ) (line place : ℕ) → is_newline c ≡ false → line_start line text ≤ place →
    line_start line (c ∷ text) ≤ suc place
same-line c text zero place other before = omega arith
same-line c text (suc line) place other before =
    rw (ap (λ b. 1 + line_start (if b then line else suc line) text) other) (omega (arith, before))

-- a line begins before its places
pub line_start-before : (text : List ℕ) (place : ℕ) → place ≤ length text → line_start (line_of text place) text ≤ place
line_start-before text zero within = omega arith
line_start-before [] (suc place) within = absurd (omega arith)
line_start-before (c ∷ text) (suc place) within =
    let before = line_start-before text place (omega arith) in
    elim (is_newline c) as (λ b. is_newline c ≡ b →
    (lines (c ∷ take place text) ≡ cond b 1 0 + lines (take place text)) →
    line_start (lines (c ∷ take place text)) (c ∷ text) ≤ suc place) [
      | true ↦ λ newline total. rw (let e : lines (c ∷ take place text)
          ≡ suc (lines (take place text)) = omega (arith, total) in
          e) (next-line c text (lines (take place text)) place newline before)
      | false ↦ λ other total. rw (let e : lines (c ∷ take place text)
          ≡ lines (take place text) = omega (arith, total) in
          e) (same-line c text (lines (take place text)) place other before)
    ] refl (lines-cons c (take place text))

-- a view that isn't empty has a line
pub some-line : (text : List ℕ) (start end : ℕ) → IsLineStart text start → IsLineStart text end → start < end →
    0 < lines (slice_range text start end)
some-line text start end first behind some =
    let total = lines-of-part text start end (omega arith) in
    elim (lines (slice_range text start end)) as (λ n. line_of text start + n ≡ line_of text end → 0 < n) [
      | zero ↦ λ none.
          let same : line_of text start ≡ line_of text end = omega (arith, none) in
          let alike : start ≡ end = sym first.begins ∙ ap (λ k. line_start k text) same ∙ behind.begins in
          absurd (omega (arith, alike, some))
      | suc n ↦ λ _. omega arith
    ] total

pub length-shown : (part : Part) → IsView part → length (shown part) ≡ part.end - part.start
length-shown part view =
    let text = characters part.content.cells in
    length-take-le (part.end - part.start) (drop part.start text)
    (omega (arith, length-drop part.start text, view.behind.within, view.ordered))

-- a part of a part
pub slice-part : {A : Type 0} (xs : List A) (start end from to : ℕ) → from ≤ to → start + to ≤ end
    → slice_range (slice_range xs start end) from to ≡ slice_range xs (start + from) (start + to)
slice-part xs start end from to ordered within =
    ap (λ n. take (to - from) (drop from (take n (drop start xs)))) (let e : end - start
    ≡ from + (end - start - from) = omega arith in e)
    ∙ ap (take (to - from)) (drop-take from (end - start - from) (drop start xs))
    ∙ take-take (to - from) (end - start - from) (drop from (drop start xs)) (omega arith)
    ∙ ap (take (to - from)) (drop-drop from start xs)
    ∙ ap (λ n. take n (drop (start + from) xs)) (omega arith)

-- a place that isn't the end goes on by lines
pub lines_on-is : (text : List ℕ) (count place at column result : ℕ) → (place ≡ length text → ⊥) →
    at ≡ min (line_of text place + count) (lines text - 1)
    → column ≡ column_of text place → result ≡ in_line at column text → result ≡ lines_on count text place
lines_on-is text count place at column result inside at_is column_is is =
    is ∙ ap₂ (λ k j. in_line k j text) at_is column_is
    ∙ sym (ap (λ b. if b then length text
    else in_line (min (line_of text place + count) (lines text - 1)) (column_of text place) text)
    (ne_eqb place (length text) inside))

-- a place before the end of a view stands in one of its lines
pub before-end : (text : List ℕ) (place end : ℕ) → IsLineStart text end → place < end →
    line_of text place < line_of text end
before-end text place end behind before =
    let total = lines-of-part text place end (omega arith) in
    let begins = line_start-before text place (omega (arith, behind.within)) in
    elim (lines (slice_range text place end)) as (λ n. line_of text place + n ≡ line_of text end →
    line_of text place < line_of text end) [
      | zero ↦ λ none.
          let same : line_of text place ≡ line_of text end = omega (arith, none) in
          let alike : line_start (line_of text place) text ≡ end = ap (λ k. line_start k text) same ∙ behind.begins in
          absurd (omega (arith, alike, begins, before))
      | suc n ↦ λ more. omega (arith, more)
    ] total
