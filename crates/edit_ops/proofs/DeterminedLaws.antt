-- What changes make of every text of one length says what they delete and insert, and where.
use Rattle.edit_ops.proofs.Common.{◌≡◌, ℕ, suc, zero, ◌+◌, ◌-◌, ◌≤◌, ◌<◌, List, [], ◌∷◌, ◌++◌, map, length, take, drop}
use Rattle.edit_ops.proofs.Common.{refl, sym, ap, ◌∙◌, arith, append-nil, append_assoc, reverse, reverse-append}
use Rattle.edit_ops.proofs.Common.{take_at, drop_at, take-append-le, drop-append-le, length-append, length-reverse}
use Rattle.edit_ops.proofs.Common.{length-take-le, ⊤, if◌then◌else◌, nat_lt, lt-ltb, le-ltb, Action, All, All-cons}
use Rattle.edit_ops.proofs.Common.{All-head, All-tail, All-nil, AreExact, AreFalling, Tells, after_change}
use Rattle.edit_ops.proofs.Common.{after_changes_by, ◌≢◌, reverse-reverse, TextChange}

-- ---- what the law is about

-- what a change does, without the spots of it
pub record Shape : Type 0 where
  pub at : ℕ
  pub removed : ℕ
  pub inserted : List ℕ

abbrev pub shape_of : TextChange → Shape
shape_of change = record { at = change.at; removed = change.removed; inserted = change.inserted }

-- a text after changes, one after the other
abbrev pub made : List TextChange → List ℕ → List ℕ
made changes text = after_changes_by (λ inserted. inserted) changes text

-- Changes, the last position first: each does something, and ends below a border, which for those behind it is where
-- it begins.
abbrev pub EndBelow : ℕ → List TextChange → Type 0
EndBelow border [] = ⊤
EndBelow border (change ∷ changes) =
    (change.at + change.removed < border) × (change.removed ≡ 0 → change.inserted ≢ []) × EndBelow change.at changes

-- ---- changes of the front of a text

-- a change of a text that ends within its front leaves what is behind
front-changed : (change : TextChange) (front rest : List ℕ) → change.at + change.removed ≤ length front
    → after_change change (front ++ rest) ≡ after_change change front ++ rest
front-changed change front rest within =
    let at = change.at in
    let end = change.at + change.removed in
    ap (λ xs. xs ++ change.inserted ++ drop end (front ++ rest)) (take-append-le at front rest (omega (arith, within)))
    ∙ ap (λ xs. take at front ++ change.inserted ++ xs) (drop-append-le end front rest within)
    ∙ sym (append_assoc (take at front ++ change.inserted) (drop end front) rest)

-- such changes, one after the other
front-made : (border : ℕ) (changes : List TextChange) (front rest : List ℕ) → EndBelow border changes
    → border ≤ length front + 1 → made changes (front ++ rest) ≡ made changes front ++ rest
front-made border [] front rest below within = refl
front-made border (change ∷ changes) front rest below within =
    let end : change.at + change.removed ≤ length front = let h = below.0 in omega (arith, h, within) in
    let at : change.at ≤ length front = omega (arith, end) in
    let long : change.at ≤ length (after_change change front) + 1 =
    omega (
      arith,
      length-append (take change.at front ++ change.inserted) (drop (change.at + change.removed) front),
      length-append (take change.at front) change.inserted,
      length-take-le change.at front at,
    ) in
    ap (made changes) (front-changed change front rest end)
    ∙ front-made change.at changes (after_change change front) rest below.2 long

-- ---- a text whose characters are numbers of their own

-- so many numbers from a base on, the last first
abbrev counted : ℕ → ℕ → List ℕ
counted base zero = []
counted base (suc count) = (base + count) ∷ counted base count

-- these in their order
abbrev numbers : ℕ → ℕ → List ℕ
numbers base count = reverse (counted base count)

length-counted : (base count : ℕ) → length (counted base count) ≡ count
length-counted base zero = refl
length-counted base (suc count) = ap suc (length-counted base count)

length-numbers : (base count : ℕ) → length (numbers base count) ≡ count
length-numbers base count = length-reverse (counted base count) ∙ length-counted base count

counted-add : (base first count : ℕ)
    → counted base (first + count) ≡ counted (base + first) count ++ counted base first
counted-add base first zero = ap (counted base) (let e : first + 0 ≡ first = omega arith in e)
counted-add base first (suc count) =
    ap (counted base) (let e : first + suc count ≡ suc (first + count) = omega arith in e)
    ∙ ap (λ n. n ∷ counted base (first + count))
    (let e : base + (first + count) ≡ (base + first) + count = omega arith in e)
    ∙ ap (λ xs. (base + first + count) ∷ xs) (counted-add base first count)

numbers-add : (base first count : ℕ) → first ≤ count
    → numbers base count ≡ numbers base first ++ numbers (base + first) (count - first)
numbers-add base first count within =
    ap (numbers base) (let e : count ≡ first + (count - first) = omega (arith, within) in e)
    ∙ ap reverse (counted-add base first (count - first))
    ∙ reverse-append (counted (base + first) (count - first)) (counted base first)

take-numbers : (base first count : ℕ) → first ≤ count → take first (numbers base count) ≡ numbers base first
take-numbers base first count within =
    ap (take first) (numbers-add base first count within)
    ∙ take_at (numbers base first) (numbers (base + first) (count - first)) first (length-numbers base first)

drop-numbers : (base first count : ℕ) → first ≤ count
    → drop first (numbers base count) ≡ numbers (base + first) (count - first)
drop-numbers base first count within =
    ap (drop first) (numbers-add base first count within)
    ∙ drop_at (numbers base first) (numbers (base + first) (count - first)) first (length-numbers base first)

-- ---- the changes, read from what they make of such a text

-- a change in front of others, unless it does nothing
abbrev put : ℕ → ℕ → List ℕ → List Shape → List Shape
put at zero [] shapes = shapes
put at zero (character ∷ text) shapes = record { at = at; removed = 0; inserted = character ∷ text } ∷ shapes
put at (suc count) text shapes = record { at = at; removed = suc count; inserted = text } ∷ shapes

-- The changes that make what is read, from its end on, of the numbers from a base on: what is below the base is
-- inserted. So many numbers are still to come, and a text stands before the one that was last.
abbrev read : ℕ → ℕ → List ℕ → List ℕ → List Shape
read base count text [] = put 0 count text []
read base count text (number ∷ rest) =
    if nat_lt number base then read base count (number ∷ text) rest
    else put (number - base + 1) (count - (number - base + 1)) text (read base (number - base) [] rest)

put-some : (at count : ℕ) (text : List ℕ) (shapes : List Shape) → (count ≡ 0 → text ≢ [])
    → put at count text shapes ≡ record { at = at; removed = count; inserted = text } ∷ shapes
put-some at zero [] shapes some = absurd (some refl refl)
put-some at zero (character ∷ text) shapes some = refl
put-some at (suc count) text shapes some = refl

-- a number of the text
read-number : (base count : ℕ) (text : List ℕ) (at : ℕ) (rest : List ℕ)
    → read base count text ((base + at) ∷ rest) ≡ put (suc at) (count - suc at) text (read base at [] rest)
read-number base count text at rest =
    let back : base + at - base ≡ at = omega arith in
    let next : at + 1 ≡ suc at = omega arith in
    ap (λ b. if b then read base count ((base + at) ∷ text) rest
    else put (base + at - base + 1) (count - (base + at - base + 1)) text (read base (base + at - base) [] rest))
    (le-ltb (base + at) base (omega arith))
    ∙ ap (λ n. put (n + 1) (count - (n + 1)) text (read base n [] rest)) back
    ∙ ap (λ n. put n (count - n) text (read base at [] rest)) next

-- an inserted text
read-text : (base count : ℕ) (text new rest : List ℕ) → All (λ n. n < base) new
    → read base count text (reverse new ++ rest) ≡ read base count (new ++ text) rest
read-text base count text [] rest low = refl
read-text base count text (number ∷ new) rest low =
    ap (λ xs. read base count text (xs ++ rest)) (reverse-append (number ∷ []) new)
    ∙ ap (read base count text) (append_assoc (reverse new) (number ∷ []) rest)
    ∙ read-text base count text new (number ∷ rest) (All-tail (λ n. n < base) number new low)
    ∙ ap (λ b. if b then read base count (number ∷ (new ++ text)) rest
    else put (number - base + 1) (count - (number - base + 1)) (new ++ text) (read base (number - base) [] rest))
    (lt-ltb number base (All-head (λ n. n < base) number new low))

-- numbers that stay
read-kept-add : (base first count : ℕ) (rest : List ℕ)
    → read base (first + count) [] (counted (base + first) count ++ rest) ≡ read base first [] rest
read-kept-add base first zero rest = ap (λ n. read base n [] rest) (let e : first + 0 ≡ first = omega arith in e)
read-kept-add base first (suc count) rest =
    let left = counted (base + first) count ++ rest in
    ap (λ n. read base (first + suc count) [] (n ∷ left))
    (let e : base + first + count ≡ base + (first + count) = omega arith in e)
    ∙ read-number base (first + suc count) [] (first + count) left
    ∙ ap (λ n. put (suc (first + count)) n [] (read base (first + count) [] left))
    (let e : first + suc count - suc (first + count) ≡ 0 = omega arith in e)
    ∙ read-kept-add base first count rest

read-kept : (base first count : ℕ) (rest : List ℕ) → first ≤ count
    → read base count [] (counted (base + first) (count - first) ++ rest) ≡ read base first [] rest
read-kept base first count rest within =
    ap (λ n. read base n [] (counted (base + first) (count - first) ++ rest))
    (let e : count ≡ first + (count - first) = omega (arith, within) in e)
    ∙ read-kept-add base first (count - first) rest

read-whole : (base count : ℕ) → read base count [] (reverse (numbers base count)) ≡ []
read-whole base count =
    ap (read base count []) (reverse-reverse (counted base count) ∙ sym (append-nil (counted base count)))
    ∙ ap (λ n. read base count [] (counted n count ++ [])) (let e : base ≡ base + 0 = omega arith in e)
    ∙ ap (λ n. read base count [] (counted (base + 0) n ++ [])) (let e : count ≡ count - 0 = omega arith in e)
    ∙ read-kept base 0 count [] (omega arith)

-- ---- what changes make of such a text

-- what the first change and those behind it make, from its end on
made-back : (base count : ℕ) (change : TextChange) (changes : List TextChange)
    → change.at + change.removed ≤ count → EndBelow change.at changes
    → reverse (made (change ∷ changes) (numbers base count))
    ≡ counted (base + (change.at + change.removed)) (count - (change.at + change.removed))
    ++ (reverse change.inserted ++ reverse (made changes (numbers base change.at)))
made-back base count change changes within below =
    let at = change.at in
    let end = change.at + change.removed in
    let new = change.inserted in
    let front = numbers base at in
    let back = numbers (base + end) (count - end) in
    let text = numbers base count in
    let fits : at ≤ length front + 1 = omega (arith, length-numbers base at) in
    ap (λ xs. reverse (made changes (xs ++ new ++ drop end text)))
    (take-numbers base at count (omega (arith, within)))
    ∙ ap (λ xs. reverse (made changes (front ++ new ++ xs))) (drop-numbers base end count within)
    ∙ ap (λ xs. reverse (made changes xs)) (append_assoc front new back)
    ∙ ap reverse (front-made at changes front (new ++ back) below fits)
    ∙ reverse-append (made changes front) (new ++ back)
    ∙ ap (λ xs. xs ++ reverse (made changes front)) (reverse-append new back)
    ∙ append_assoc (reverse back) (reverse new) (reverse (made changes front))
    ∙ ap (λ xs. xs ++ (reverse new ++ reverse (made changes front)))
    (reverse-reverse (counted (base + end) (count - end)))

-- what is read in front of a change
read-front : (base end at : ℕ) (text : List ℕ) (changes : List TextChange) → EndBelow at changes
    → ((count : ℕ) → EndBelow (suc count) changes
    → read base count [] (reverse (made changes (numbers base count))) ≡ map shape_of changes)
    → read base end text (reverse (made changes (numbers base at))) ≡ put at (end - at) text (map shape_of changes)
read-front base end zero text [] below others =
    ap (λ n. put 0 n text []) (let e : end ≡ end - 0 = omega arith in e)
read-front base end zero text (change ∷ changes) below others = absurd (let h = below.0 in omega (arith, h))
read-front base end (suc at) text changes below others =
    let front = numbers base at in
    let last = (base + at) ∷ [] in
    let fits : suc at ≤ length front + 1 = omega (arith, length-numbers base at) in
    ap (λ xs. read base end text (reverse (made changes xs))) (reverse-append last (counted base at))
    ∙ ap (λ xs. read base end text (reverse xs)) (front-made (suc at) changes front last below fits)
    ∙ ap (read base end text) (reverse-append (made changes front) last)
    ∙ read-number base end text at (reverse (made changes front))
    ∙ ap (put (suc at) (end - suc at) text) (others at below)

-- changes insert only what is below a base
abbrev AreLow : ℕ → List TextChange → Type 0
AreLow base [] = ⊤
AreLow base (change ∷ changes) = All (λ n. n < base) change.inserted × AreLow base changes

-- the changes are what is read of what they make
changes-read : (base : ℕ) (changes : List TextChange) → AreLow base changes → (count : ℕ)
    → EndBelow (suc count) changes
    → read base count [] (reverse (made changes (numbers base count))) ≡ map shape_of changes
changes-read base [] low count below = read-whole base count
changes-read base (change ∷ changes) low count below =
    let at = change.at in
    let end = change.at + change.removed in
    let new = change.inserted in
    let rest = reverse (made changes (numbers base at)) in
    let within : end ≤ count = let h = below.0 in omega (arith, h) in
    ap (read base count []) (made-back base count change changes within below.2)
    ∙ read-kept base end count (reverse new ++ rest) within
    ∙ read-text base end [] new rest low.0
    ∙ ap (λ xs. read base end xs rest) (append-nil new)
    ∙ read-front base end at new changes below.2 (changes-read base changes low.1)
    ∙ ap (λ n. put at n new (map shape_of changes)) (let e : end - at ≡ change.removed = omega arith in e)
    ∙ put-some at change.removed new (map shape_of changes) below.1

-- ---- a base above all that changes insert

abbrev roof : List ℕ → ℕ
roof [] = 0
roof (number ∷ numbers) = suc number + roof numbers

abbrev roof_of : List TextChange → ℕ
roof_of [] = 0
roof_of (change ∷ changes) = roof change.inserted + roof_of changes

below-roof : (base : ℕ) (text : List ℕ) → roof text ≤ base → All (λ n. n < base) text
below-roof base [] fits = All-nil (λ n. n < base)
below-roof base (number ∷ text) fits =
    All-cons (λ n. n < base) number text (omega (arith, fits)) (below-roof base text (omega (arith, fits)))

are-low : (base : ℕ) (changes : List TextChange) → roof_of changes ≤ base → AreLow base changes
are-low base [] fits = tt
are-low base (change ∷ changes) fits =
    (below-roof base change.inserted (omega (arith, fits)), are-low base changes (omega (arith, fits)))

-- ---- the law

-- Changes of texts of one length, the last position first, of which each does something and a character stays between
-- two, are determined by what they make of all these texts: others that make the same have, one by one, the same
-- offsets and delete and insert the same.
pub changes-determined : (len : ℕ) (changes others : List TextChange) → EndBelow (suc len) changes
    → EndBelow (suc len) others → ((text : List ℕ) → length text ≡ len → made changes text ≡ made others text)
    → map shape_of changes ≡ map shape_of others
changes-determined len changes others below other_below same =
    let base = roof_of changes + roof_of others in
    sym (changes-read base changes (are-low base changes (omega arith)) len below)
    ∙ ap (λ xs. read base len [] (reverse xs)) (same (numbers base len) (length-numbers base len))
    ∙ changes-read base others (are-low base others (omega arith)) len other_below

-- a change deletes or inserts something
abbrev pub DoesSome : TextChange → Type 0
DoesSome change = change.removed ≡ 0 → change.inserted ≢ []

-- the first change ends below a border
abbrev pub FirstBelow : ℕ → List TextChange → Type 0
FirstBelow border [] = ⊤
FirstBelow border (change ∷ changes) = change.at + change.removed < border

-- falling changes of which each does something end below a border if the first does
pub falling-below : (border : ℕ) (changes : List TextChange) → AreFalling changes → All DoesSome changes
    → FirstBelow border changes → EndBelow border changes
falling-below border [] falling some first = tt
falling-below border (change ∷ []) falling some first = (first, All-head DoesSome change [] some, tt)
falling-below border (change ∷ next ∷ changes) falling some first = (
  first,
  All-head DoesSome change (next ∷ changes) some,
  falling-below change.at (next ∷ changes) falling.1 (All-tail DoesSome change (next ∷ changes) some) falling.0,
)

-- each of the changes that tell of a text does something
pub told-some : (changes : List TextChange) (old new : List ℕ) → Tells changes old new → All DoesSome changes
told-some [] old new told = All-nil DoesSome
told-some (change ∷ changes) old new told =
    All-cons DoesSome change changes told.0.some (told-some changes (after_change change old) new told.1)

-- the first of them ends in the text
told-first : (changes : List TextChange) (old new : List ℕ) → Tells changes old new
    → FirstBelow (suc (length old)) changes
told-first [] old new told = tt
told-first (change ∷ changes) old new told = let h = told.0.within in omega (arith, h)

-- falling changes that tell of a text end in it
pub told-below : (changes : List TextChange) (old new : List ℕ) → Tells changes old new → AreFalling changes
    → EndBelow (suc (length old)) changes
told-below changes old new told falling =
    falling-below (suc (length old)) changes falling (told-some changes old new told) (told-first changes old new told)

-- changes that are exactly what actions do, and others that are
pub exact-determined : (actions : List Action) (len : ℕ) (changes others : List TextChange)
    → AreExact actions len changes → AreExact actions len others → EndBelow (suc len) changes
    → EndBelow (suc len) others → map shape_of changes ≡ map shape_of others
exact-determined actions len changes others exact other_exact below other_below =
    changes-determined len changes others below other_below
    (λ text long. exact.same text long ∙ sym (other_exact.same text long))
