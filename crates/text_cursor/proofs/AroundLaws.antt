-- Lists of cells, and where lines begin around a place in a text.
use Rattle.text_cursor.proofs.Common.{◌≡◌, ℕ, zero, suc, ◌+◌, ◌-◌, ◌<◌, ◌≤◌, Bool, true, false, cond, List, [], ◌∷◌}
use Rattle.text_cursor.proofs.Common.{◌++◌, length, take, drop, refl, sym, ap, ◌∙◌, arith, length-take, subst}
use Rattle.text_cursor.proofs.Common.{if◌then◌else◌, length-map, map-id, take-append-drop, Cell, Slots, characters}
use Rattle.text_cursor.proofs.Common.{slot_sets, is_newline, lines, line_of, line_start, removed, cells_of, lines-cons}
use Rattle.text_cursor.proofs.Common.{line_of-removed_before, map-map, next_line}

pub length-characters : (cells : List Cell) → length (characters cells) ≡ length cells
length-characters cells = length-map cells (λ (cell : Cell). cell.character)

pub length-slot_sets : (cells : List Cell) → length (slot_sets cells) ≡ length cells
length-slot_sets cells = length-map cells (λ (cell : Cell). cell.tags)

pub characters-of : (text : List ℕ) (slots : Slots) → characters (cells_of text slots) ≡ text
characters-of text slots = map-map (λ (cell : Cell). cell.character) (λ character.
    record { character = character; tags = slots }) text ∙ map-id text

-- ---- where lines begin

past-step : (b : Bool) (n k : ℕ) → cond b 1 0 + n < suc k → n < (if b then k else suc k)
past-step true n k past = omega arith
past-step false n k past = omega arith

-- behind the last line the text ends
pub line_start-past : (text : List ℕ) (k : ℕ) → lines text < k → line_start k text ≡ length text
line_start-past text zero past = absurd (omega arith)
line_start-past [] (suc k) past = refl
line_start-past (c ∷ text) (suc k) past =
    let counted : cond (is_newline c) 1 0 + lines text < suc k = subst (λ n. n < suc k) (lines-cons c text) past in
    ap (λ n. 1 + n) (line_start-past text (if is_newline c then k
    else suc k) (past-step (is_newline c) (lines text) k counted)) ∙ omega arith

step-number : (b : Bool) (n : ℕ) → (if b then cond b 1 0 + n else suc (cond b 1 0 + n)) ≡ n + 1
step-number true n = omega arith
step-number false n = omega arith

-- the line behind that of the end of a front begins in the rest
next-append : (xs ys : List ℕ) → line_start (lines xs + 1) (xs ++ ys) ≡ length xs + line_start 1 ys
next-append [] ys = omega arith
next-append (c ∷ xs) ys =
    let number : lines (c ∷ xs) + 1 ≡ suc (cond (is_newline c) 1 0 + lines xs) = ap (λ n. n + 1) (lines-cons c xs)
    ∙ omega arith in
    ap (λ n. line_start n (c ∷ (xs ++ ys))) number
    ∙ ap (λ n. 1 + line_start n (xs ++ ys)) (step-number (is_newline c) (lines xs))
    ∙ ap (λ n. 1 + n) (next-append xs ys) ∙ omega arith

pub next_line-is : (text : List ℕ) (offset : ℕ) → offset ≤ length text →
    next_line text offset ≡ offset + line_start 1 (drop offset text)
next_line-is text offset within =
    ap (line_start (line_of text offset + 1)) (sym (take-append-drop offset text))
    ∙ next-append (take offset text) (drop offset text)
    ∙ ap (λ n. n + line_start 1 (drop offset text)) (let e : length (take offset text)
    ≡ offset = length-take offset text ∙ omega arith in e)

pub next_line-removed : (text : List ℕ) (from to : ℕ) → from ≤ length text →
    next_line (removed from to text) from ≡ from + line_start 1 (drop to text)
next_line-removed text from to within =
    ap (λ n. line_start (n + 1) (removed from to text)) (line_of-removed_before from to text from within (omega arith))
    ∙ next-append (take from text) (drop to text)
    ∙ ap (λ n. n + line_start 1 (drop to text)) (let e : length (take from text) ≡ from = length-take from text
    ∙ omega arith in e)

-- the line behind what is taken out begins so much earlier
pub next_line-drawn : (text : List ℕ) (from to : ℕ) → from ≤ to → to ≤ length text
    → (to - from ≤ next_line text to) × (next_line text to - (to - from) ≡ next_line (removed from to text) from)
next_line-drawn text from to ordered within =
    let rest = line_start 1 (drop to text) in
    let before : next_line text to ≡ to + rest = next_line-is text to within in
    let after : next_line (removed from to text) from ≡ from + rest = next_line-removed text from to (omega arith) in
    (omega (arith, before), omega (arith, before, after))

pub number-of : (b : Bool) (m n : ℕ) → suc n ≡ cond b 1 0 + m → (if b then n else suc n) ≡ m
number-of true m n is = omega (arith, is)
number-of false m n is = omega (arith, is)

begins-before : (c m n : ℕ) (rest : List ℕ) (len : ℕ) → n ≡ cond (is_newline c) 1 0 + m → line_start m rest ≤ len →
    line_start n (c ∷ rest) ≤ suc len
begins-before c m zero rest len is below = omega arith
begins-before c m (suc n) rest len is below =
    subst (λ k. 1 + line_start k rest ≤ suc len) (sym (number-of (is_newline c) m n is)) (omega (arith, below))

line-append : (xs ys : List ℕ) → line_start (lines xs) (xs ++ ys) ≤ length xs
line-append [] ys = omega arith
line-append (c ∷ xs) ys =
    begins-before c (lines xs) (lines (c ∷ xs)) (xs ++ ys) (length xs) (lines-cons c xs) (line-append xs ys)

begins-same : (c m n : ℕ) (rest others : List ℕ) → n ≡ cond (is_newline c) 1 0 + m →
    line_start m rest ≡ line_start m others → line_start n (c ∷ rest) ≡ line_start n (c ∷ others)
begins-same c m zero rest others is same = refl
begins-same c m (suc n) rest others is same =
    let number = number-of (is_newline c) m n is in
    ap (λ k. 1 + line_start k rest) number ∙ ap (λ k. 1 + k) same ∙ sym (ap (λ k. 1 + line_start k others) number)

pub line-append-same : (xs ys zs : List ℕ) → line_start (lines xs) (xs ++ ys) ≡ line_start (lines xs) (xs ++ zs)
line-append-same [] ys zs = refl
line-append-same (c ∷ xs) ys zs =
    begins-same c (lines xs) (lines (c ∷ xs)) (xs ++ ys) (xs ++ zs) (lines-cons c xs) (line-append-same xs ys zs)

-- where a line begins hangs on what stands before the offset alone
pub line-front : (text other : List ℕ) (offset : ℕ) → take offset text ≡ take offset other →
    line_start (line_of text offset) text ≡ line_start (line_of other offset) other
line-front text other offset same =
    ap (line_start (line_of text offset)) (sym (take-append-drop offset text))
    ∙ line-append-same (take offset text) (drop offset text) (drop offset other)
    ∙ ap (λ front. line_start (lines front) (front ++ drop offset other)) same
    ∙ ap (line_start (line_of other offset)) (take-append-drop offset other)

-- the next line begins in a front, or behind it, whatever follows
pub next-within : (xs ys zs : List ℕ) → line_start 1 (xs ++ ys) ≤ length xs →
    (line_start 1 ys ≡ 0 → line_start 1 zs ≡ 0) → line_start 1 (xs ++ zs) ≡ line_start 1 (xs ++ ys)
next-within [] ys zs within none = let gone : line_start 1 ys ≡ 0 = omega (arith, within) in none gone ∙ sym gone
next-within (c ∷ xs) ys zs within none =
    elim (is_newline c) as (λ b. 1 + line_start (if b then 0 else 1) (xs ++ ys) ≤ suc (length xs) →
    1 + line_start (if b then 0 else 1) (xs ++ zs) ≡ 1 + line_start (if b then 0 else 1) (xs ++ ys)) [
      | true ↦ λ _. refl
      | false ↦ λ inner. ap (λ n. 1 + n) (next-within xs ys zs (omega (arith, inner)) none)
    ] within

pub next-behind : (xs ys zs : List ℕ) → length xs < line_start 1 (xs ++ ys) →
    line_start 1 (xs ++ zs) ≡ length xs + line_start 1 zs
next-behind [] ys zs behind = omega arith
next-behind (c ∷ xs) ys zs behind =
    elim (is_newline c) as (λ b. suc (length xs) < 1 + line_start (if b then 0 else 1) (xs ++ ys) →
    1 + line_start (if b then 0 else 1) (xs ++ zs) ≡ suc (length xs) + line_start 1 zs) [
      | true ↦ λ inner. absurd (omega (arith, inner))
      | false ↦ λ inner. ap (λ n. 1 + n) (next-behind xs ys zs (omega (arith, inner))) ∙ omega arith
    ] behind

pub no-next : (text : List ℕ) → line_start 1 text ≡ 0 → length text ≡ 0
no-next [] none = refl
no-next (c ∷ text) none = absurd (omega (arith, none))

-- a line begins at or before each offset in it
pub line-before : (text : List ℕ) (offset : ℕ) → offset ≤ length text → line_start (line_of text offset) text ≤ offset
line-before text offset within =
    let long : length (take offset text) ≡ offset = length-take offset text ∙ omega arith in
    let whole = subst (λ (xs : List ℕ). line_start (line_of text offset) xs
    ≤ length (take offset text)) (take-append-drop offset text) (line-append (take offset text) (drop offset text))
    in
    omega (arith, whole, long)
