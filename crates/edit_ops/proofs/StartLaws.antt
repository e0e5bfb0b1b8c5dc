-- Where a line starts: at the front of a text, and behind each newline.
use Rattle.edit_ops.proofs.Common.{◌≡◌, ℕ, zero, suc, ◌+◌, ◌-◌, ◌<◌, ◌≤◌, true, false, cond, List, [], ◌∷◌, length}
use Rattle.edit_ops.proofs.Common.{take, drop, get_or, refl, sym, ap, ◌∙◌, arith, subst, inl, inr, true≢false, ⊤}
use Rattle.edit_ops.proofs.Common.{if◌then◌else◌, cases_lt, take-append-drop, ends_in_newline, IsLineStart, is_newline}
use Rattle.edit_ops.proofs.Common.{lines, line_of, line_start, inserted, removed, lines-cons, lines-append}
use Rattle.edit_ops.proofs.Common.{line_start-rises, get_or-inserted_before, get_or-inserted_behind}
use Rattle.edit_ops.proofs.Common.{get_or-removed_before, get_or-removed_behind, next_line, line_start-past, number-of}

-- at the front, or right behind a newline
abbrev pub Begins : List ℕ → ℕ → Type 0
Begins text zero = ⊤
Begins text (suc before) = is_newline (get_or text before 0) ≡ true

-- ---- the same as the number of a line says

past-newline : (c : ℕ) (text : List ℕ) (place : ℕ) → is_newline c ≡ true → Begins text place →
    Begins (c ∷ text) (suc place)
past-newline c text zero is begins = is
past-newline c text (suc before) is begins = begins

past-other : (c : ℕ) (text : List ℕ) (place : ℕ) → 0 < place → Begins text place → Begins (c ∷ text) (suc place)
past-other c text zero some begins = absurd (omega (arith, some))
past-other c text (suc before) some begins = begins

one-more : (n : ℕ) → suc n ≡ 1 + n
one-more n = omega arith

start-begins : (text : List ℕ) (line : ℕ) → line ≤ lines text → Begins text (line_start line text)
start-begins text zero within = tt
start-begins [] (suc line) within = tt
start-begins (c ∷ text) (suc line) within =
    elim (is_newline c) as (λ b. is_newline c ≡ b → lines (c ∷ text) ≡ cond b 1 0 + lines text →
    Begins (c ∷ text) (1 + line_start (if b then line else suc line) text)) [
      | true ↦ λ is counted. subst (Begins (c ∷ text)) (one-more (line_start line text))
          (past-newline c text (line_start line text) is (start-begins text line (omega (arith, within, counted))))
      | false ↦ λ _ counted.
          let rises = line_start-rises text line (omega (arith, within, counted)) in
          subst (Begins (c ∷ text)) (one-more (line_start (suc line) text))
          (past-other c text (line_start (suc line) text) (omega (arith, rises))
          (start-begins text (suc line) (omega (arith, within, counted))))
    ] refl (lines-cons c text)

pub line_of-le : (text : List ℕ) (place : ℕ) → line_of text place ≤ lines text
line_of-le text place =
    omega (arith, lines-append (take place text) (drop place text), ap lines (take-append-drop place text))

some-line : (line before : ℕ) (text : List ℕ) → line_start line text ≡ suc before → 0 < line
some-line zero before text is = absurd (omega (arith, is))
some-line (suc line) before text is = omega arith

past-front : (c m n place : ℕ) (text : List ℕ) → n ≡ cond (is_newline c) 1 0 + m → line_start m text ≡ place → 0 < n →
    line_start n (c ∷ text) ≡ suc place
past-front c m zero place text is placed some = absurd (omega (arith, some))
past-front c m (suc n) place text is placed some =
    ap (λ k. 1 + line_start k text) (number-of (is_newline c) m n is) ∙ ap (λ k. 1 + k) placed ∙ sym (one-more place)

begins-start : (text : List ℕ) (place : ℕ) → Begins text place → line_start (line_of text place) text ≡ place
begins-start text zero begins = refl
begins-start [] (suc before) begins = absurd (true≢false (sym begins))
begins-start (c ∷ text) (suc zero) begins =
    let counted : lines (take 1 (c ∷ text)) ≡ cond (is_newline c) 1 0
    + lines (take 0 text) = lines-cons c (take 0 text) in
    let newline : lines (take 1 (c ∷ text)) ≡ 1 + lines (take 0 text) = counted
    ∙ ap (λ b. cond b 1 0 + lines (take 0 text)) begins in
    let none : line_start (lines (take 0 text)) text ≡ 0 = refl in
    past-front c (lines (take 0 text)) (line_of (c ∷ text) 1) 0 text counted none (omega (arith, newline))
begins-start (c ∷ text) (suc (suc before)) begins =
    let counted : lines (take (suc (suc before)) (c ∷ text))
    ≡ cond (is_newline c) 1 0 + line_of text (suc before) = lines-cons c (take (suc before) text) in
    let rest = begins-start text (suc before) begins in
    let some = some-line (line_of text (suc before)) before text rest in
    past-front c (line_of text (suc before)) (line_of (c ∷ text) (suc (suc before))) (suc before) text counted rest
    (omega (arith, counted, some))

begins-within : (text : List ℕ) (place : ℕ) → Begins text place → place ≤ length text
begins-within text zero begins = omega arith
begins-within [] (suc before) begins = absurd (true≢false (sym begins))
begins-within (c ∷ text) (suc zero) begins = omega arith
begins-within (c ∷ text) (suc (suc before)) begins = omega (arith, begins-within text (suc before) begins)

pub begun : (text : List ℕ) (place : ℕ) → IsLineStart text place → Begins text place
begun text place is = subst (Begins text) is.begins (start-begins text (line_of text place) (line_of-le text place))

pub is-start : (text : List ℕ) (place : ℕ) → Begins text place → IsLineStart text place
is-start text place begins =
    record { within = begins-within text place begins; begins = begins-start text place begins }

-- a text that ends with a newline ends where a line would start
pub text-end-begins : (text : List ℕ) → ends_in_newline text ≡ true → Begins text (length text)
text-end-begins [] ends = tt
text-end-begins (c ∷ []) ends = ends
text-end-begins (c ∷ next ∷ text) ends = text-end-begins (next ∷ text) ends

-- ---- around what is put in

pub inserted-before : (at : ℕ) (new text : List ℕ) (place : ℕ) → at ≤ length text → place ≤ at → Begins text place →
    Begins (inserted at new text) place
inserted-before at new text zero within before begins = tt
inserted-before at new text (suc k) within before begins =
    subst (λ c. is_newline c ≡ true) (sym (get_or-inserted_before at new text k 0 within (omega (arith, before))))
    begins

pub inserted-behind : (at : ℕ) (new text : List ℕ) (place : ℕ) → at ≤ length text → at < place → Begins text place →
    Begins (inserted at new text) (place + length new)
inserted-behind at new text zero within behind begins = absurd (omega (arith, behind))
inserted-behind at new text (suc k) within behind begins =
    let same : suc (k + length new) ≡ suc k + length new = omega arith in
    subst (Begins (inserted at new text)) same
    (subst (λ c. is_newline c ≡ true) (sym (get_or-inserted_behind at new text k 0 within (omega (arith, behind))))
    begins)

-- ---- around what is taken out

pub removed-before : (from to : ℕ) (text : List ℕ) (place : ℕ) → from ≤ length text → place ≤ from → Begins text place →
    Begins (removed from to text) place
removed-before from to text zero within before begins = tt
removed-before from to text (suc k) within before begins =
    subst (λ c. is_newline c ≡ true) (sym (get_or-removed_before from to text k 0 within (omega (arith, before))))
    begins

pub removed-behind : (from to : ℕ) (text : List ℕ) (place : ℕ) → from ≤ to → to ≤ length text → to < place →
    Begins text place → Begins (removed from to text) (place - (to - from))
removed-behind from to text zero ordered within behind begins = absurd (omega (arith, behind))
removed-behind from to text (suc k) ordered within behind begins =
    let left : suc (k - (to - from)) ≡ suc k - (to - from) = omega (arith, ordered, behind) in
    let back : k - (to - from) + (to - from) ≡ k = omega (arith, ordered, behind) in
    let same = get_or-removed_behind from to text (k - (to - from)) 0 (omega (arith, ordered, within)) ordered
    (omega (arith, ordered, behind)) in
    subst (Begins (removed from to text)) left
    (subst (λ c. is_newline c ≡ true) (sym (same ∙ ap (λ i. get_or text i 0) back)) begins)

-- the line that they are taken out of
pub line-begins : (text : List ℕ) (place : ℕ) → Begins text (line_start (line_of text place) text)
line-begins text place = start-begins text (line_of text place) (line_of-le text place)

-- the line behind an offset, or the end
pub next-begins : (text : List ℕ) (place : ℕ) → Begins text (length text) → Begins text (next_line text place)
next-begins text place ends =
    elim (cases_lt (lines text) (line_of text place + 1)) [
      | inl past ↦ subst (Begins text) (sym (line_start-past text (line_of text place + 1) past)) ends
      | inr within ↦ start-begins text (line_of text place + 1) within
    ]
