-- What a cursor sees around its place: slots, and where lines begin.
use Rattle.text_cursor.proofs.Common.{◌≡◌, ℕ, zero, suc, ◌+◌, ◌-◌, ◌<◌, ◌≤◌, Bool, true, false, cond, List, [], ◌∷◌}
use Rattle.text_cursor.proofs.Common.{◌++◌, Option, Some, None, length, get_or, take, drop, refl, sym, ap, ap₂, ◌∙◌}
use Rattle.text_cursor.proofs.Common.{arith, subst, length-append, length-drop, ne_eqb, append_assoc, slice_range, min}
use Rattle.text_cursor.proofs.Common.{reverse, if◌then◌else◌, All, append-nil, map-append, length-take-le}
use Rattle.text_cursor.proofs.Common.{take-append-drop, take_at, drop_at, take_more, drop_more, reverse-reverse}
use Rattle.text_cursor.proofs.Common.{get_or_append_left, get_or-append-add, get_or-take, get_or-drop, get_or-map}
use Rattle.text_cursor.proofs.Common.{All-take, All-drop, All-same, All-pop, take-add, Cell, Slots, characters}
use Rattle.text_cursor.proofs.Common.{slot_sets, is_newline, lines, line_of, line_start, lines-cons, lines-append}
use Rattle.text_cursor.proofs.Common.{line_start-le, map-map, map-slice_range, Cursor, Part, next_line, shared_slots}
use Rattle.text_cursor.proofs.Common.{parts_len, turned_if, block_parts, side_parts, cells_between, part_cells}
use Rattle.text_cursor.proofs.Common.{front_cells, behind_cells, cursor_cells, source_len, slots_in, last_line}
use Rattle.text_cursor.proofs.Common.{front_text, behind_text, PartFits, IsCursor, IsLastLine, IsSecond, Block}
use Rattle.std.proofs.lemmas.List.Folds.{drop_split}
use Rattle.text_cursor.proofs.SideLaws.{len-append, len-cons, turned-len, block-push}
use Rattle.text_cursor.proofs.CursorLaws.{part-length, front-push, behind-push, len-push, front-length, place-is}
use Rattle.text_cursor.proofs.CursorLaws.{behind-length, front-append, behind-append, behind-reverse, split-fit}
use Rattle.text_cursor.proofs.CursorLaws.{reverse-fit, same-fit}
use Rattle.text_cursor.proofs.AroundLaws.{length-slot_sets, characters-of, length-characters, line-append-same}
use Rattle.text_cursor.proofs.AroundLaws.{line_start-past, next_line-is}
use Rattle.std.specs.FinSet as set

-- ---- where lines begin in two texts behind one another

step-past : (b : Bool) (n k : ℕ) → (if b then cond b 1 0 + n + k else suc (cond b 1 0 + n + k)) ≡ n + suc k
step-past true n k = omega arith
step-past false n k = omega arith

past-append : (xs ys : List ℕ) (k : ℕ) → line_start (lines xs + suc k) (xs ++ ys) ≡ length xs + line_start (suc k) ys
past-append [] ys k = ap (λ n. line_start n ys) (let e : 0 + suc k ≡ suc k = omega arith in e) ∙ omega arith
past-append (c ∷ xs) ys k =
    let number : lines (c ∷ xs) + suc k ≡ suc (cond (is_newline c) 1 0 + lines xs + k) = let h = lines-cons c xs in
    omega (arith, h) in
    ap (λ n. line_start n (c ∷ (xs ++ ys))) number
    ∙ ap (λ n. 1 + line_start n (xs ++ ys)) (step-past (is_newline c) (lines xs) k)
    ∙ ap (λ n. 1 + n) (past-append xs ys k) ∙ omega arith

-- a line behind a newline begins above 0
above-none : (text : List ℕ) (k : ℕ) → lines text ≡ suc k → 0 < line_start (suc k) text
above-none [] k is = absurd (let h : 0 ≡ suc k = is in omega (arith, h))
above-none (c ∷ text) k is = omega arith

none-below : (text : List ℕ) (n : ℕ) → lines text ≡ n → line_start n text ≡ 0 → n ≡ 0
none-below text zero is none = refl
none-below text (suc k) is none = absurd (let h = above-none text k is in omega (arith, h, none))

pub no-lines : (text : List ℕ) → last_line text ≡ 0 → lines text ≡ 0
no-lines text none = none-below text (lines text) refl none

some-above : (text : List ℕ) (n : ℕ) → 0 < line_start n text → 0 < n
some-above text zero some = absurd (omega (arith, some))
some-above text (suc k) some = omega arith

pub some-lines : (text : List ℕ) → 0 < last_line text → 0 < lines text
some-lines text some = some-above text (lines text) some

last-none : (xs ys : List ℕ) → last_line ys ≡ 0 → last_line (xs ++ ys) ≡ last_line xs
last-none xs ys none =
    ap (λ n. line_start n (xs ++ ys)) (let h = lines-append xs ys in let k = no-lines ys none in omega (arith, h, k))
    ∙ line-append-same xs ys [] ∙ ap (line_start (lines xs)) (append-nil xs)

last-by : (xs ys : List ℕ) (n : ℕ) → lines ys ≡ n → 0 < n → last_line (xs ++ ys) ≡ length xs + line_start n ys
last-by xs ys zero is some = absurd (omega (arith, some))
last-by xs ys (suc k) is some =
    ap (λ n. line_start n (xs ++ ys)) (let h = lines-append xs ys in omega (arith, h, is)) ∙ past-append xs ys k

last-some : (xs ys : List ℕ) → 0 < last_line ys → last_line (xs ++ ys) ≡ length xs + last_line ys
last-some xs ys some = last-by xs ys (lines ys) refl (some-lines ys some)

first-some : (xs ys : List ℕ) → 0 < lines xs → line_start 1 (xs ++ ys) ≡ line_start 1 xs
first-some [] ys some = absurd (let h : 0 < 0 = some in omega (arith, h))
first-some (c ∷ xs) ys some =
    elim (is_newline c) as (λ b. 0 < cond b 1 0 + lines xs →
    1 + line_start (if b then 0 else 1) (xs ++ ys) ≡ 1 + line_start (if b then 0 else 1) xs) [
      | true ↦ λ _. refl
      | false ↦ λ inner. ap (λ n. 1 + n) (first-some xs ys (omega (arith, inner)))
    ] (subst (λ n. 0 < n) (lines-cons c xs) some)

first-none : (xs ys : List ℕ) → lines xs ≡ 0 → line_start 1 (xs ++ ys) ≡ length xs + line_start 1 ys
first-none xs ys none =
    ap (λ n. line_start n (xs ++ ys)) (let e : 1 ≡ lines xs + 1 = omega (arith, none) in e) ∙ past-append xs ys 0

-- ---- the characters of slices

pub last-more : (text : List ℕ) (index d : ℕ) → index < length text →
    last_line (take (index + 1) text) ≡ (if is_newline (get_or text index d) then index + 1
    else last_line (take index text))
last-more text index d within =
    let front = take index text in
    let c = get_or text index d in
    let long : length front ≡ index = length-take-le index text (omega (arith, within)) in
    ap last_line (take_more text index d within)
    ∙ (elim (is_newline c) as (λ b. is_newline c ≡ b → last_line (front ++ c ∷ [])
    ≡ (if b then index + 1 else last_line front)) [
      | true ↦ λ is.
          let one : lines (c ∷ []) ≡ 1 = lines-cons c [] ∙ ap (λ b. cond b 1 0 + 0) is in
          last-by front (c ∷ []) 1 one (omega arith) ∙ ap₂ (λ n b. n + (1 + line_start (if b then 0 else 1) [])) long is
      | false ↦ λ is.
          let one : lines (c ∷ []) ≡ 0 = lines-cons c [] ∙ ap (λ b. cond b 1 0 + 0) is in
          last-none front (c ∷ []) (ap (λ n. line_start n (c ∷ [])) one)
    ] refl)

slice-length : (from to : ℕ) (xs : List ℕ) → from ≤ to → to ≤ length xs → length (slice_range xs from to) ≡ to - from
slice-length from to xs ordered within =
    length-take-le (to - from) (drop from xs) (let h = length-drop from xs in omega (arith, h))

front-line : (text : List ℕ) (offset : ℕ) → line_start (line_of text offset) text ≡ last_line (take offset text)
front-line text offset =
    ap (line_start (line_of text offset)) (sym (take-append-drop offset text))
    ∙ line-append-same (take offset text) (drop offset text) []
    ∙ ap (line_start (lines (take offset text))) (append-nil (take offset text))

old-cases : (n : ℕ) (slice front : List ℕ) (from found : ℕ) → last_line slice ≡ n → found ≡ last_line (front ++ slice) →
    length front ≡ from → last_line front ≤ length front → found - from ≡ last_line slice
old-cases zero slice front from found is found_is long bound = let h = last-none front slice is in
    omega (arith, h, found_is, long, bound, is)
old-cases (suc n) slice front from found is found_is long bound = let h = last-some front slice (omega (arith, is)) in
    omega (arith, h, found_is, long)

next-cases : (n : ℕ) (slice rest : List ℕ) (from to behind : ℕ) → lines slice ≡ n → from < to →
    behind ≡ from + line_start 1 (slice ++ rest) → length slice ≡ to - from → line_start 1 slice ≤ length slice
    → min behind to - from ≡ line_start 1 slice
next-cases zero slice rest from to behind is some far long bound =
    let h = first-none slice rest is in let k = line_start-past slice 1 (omega (arith, is)) in
    omega (arith, h, k, some, far, long)
next-cases (suc n) slice rest from to behind is some far long bound = let h = first-some slice rest (omega (arith, is))
    in omega (arith, h, some, far, long, bound)

pub old-last : (text : List ℕ) (from to : ℕ) → from < to → to ≤ length text →
    line_start (line_of text to) text - from ≡ last_line (slice_range text from to)
old-last text from to some within =
    let slice = slice_range text from to in
    let split : take to text ≡ take from text ++ slice = ap (λ n. take n text) (let e : to
    ≡ from + (to - from) = omega (arith, some) in e) ∙ take-add from (to - from) text in
    let front = front-line text to ∙ ap last_line split in
    let long : length (take from text) ≡ from = length-take-le from text (omega (arith, some, within)) in
    let bound = line_start-le (take from text) (lines (take from text)) in
    old-cases (last_line slice) slice (take from text) from (line_start (line_of text to) text) refl front long bound

pub old-next : (text : List ℕ) (from to behind : ℕ) → from < to → to ≤ length text → behind ≡ next_line text from
    → (from ≤ min behind to) × (min behind to - from ≡ line_start 1 (slice_range text from to))
old-next text from to behind some within is =
    let slice = slice_range text from to in
    let rest = drop to text in
    let far : behind ≡ from + line_start 1 (slice ++ rest) = is ∙ next_line-is text from (omega (arith, some, within))
    ∙ ap (λ xs. from + line_start 1 xs) (drop_split text from to (omega (arith, some))) in
    let long = slice-length from to text (omega (arith, some)) within in
    let bound = line_start-le slice 1 in
    (omega (arith, far, some), next-cases (lines slice) slice rest from to behind refl some far long bound)

-- the characters of a part
abbrev pub text_between : Option Slots → List ℕ → List ℕ → ℕ → ℕ → List ℕ
text_between None old new from to = slice_range old from to
text_between (Some slots) old new from to = slice_range new from to

between-text : (slots : Option Slots) (old : List Cell) (new : List ℕ) (from to : ℕ) →
    characters (cells_between slots old new from to) ≡ text_between slots (characters old) new from to
between-text None old new from to = map-slice_range (λ (cell : Cell). cell.character) from to old
between-text (Some slots) old new from to = characters-of (slice_range new from to) slots

pub old-text : (part : Part) (old : List Cell) (new : List ℕ) → part.slots ≡ None →
    characters (part_cells old new part) ≡ slice_range (characters old) part.from part.to
old-text part old new is = ap (λ slots. characters (cells_between slots old new part.from part.to)) is
    ∙ between-text None old new part.from part.to

pub new-text : (part : Part) (slots : Slots) (old : List Cell) (new : List ℕ) → part.slots ≡ Some slots →
    characters (part_cells old new part) ≡ slice_range new part.from part.to
new-text part slots old new is = ap (λ s. characters (cells_between s old new part.from part.to)) is
    ∙ between-text (Some slots) old new part.from part.to

pub old-within : {part : Part} {old new : ℕ} → part.slots ≡ None → PartFits old new part → part.to ≤ old
old-within {part} {old} {new} is fits = subst (λ slots. part.to ≤ source_len slots old new) is fits.within

pub old-last-in : {part : Part} (old : List Cell) (new : List ℕ) → part.slots ≡ None →
    PartFits (length old) (length new) part
    → line_start (line_of (characters old) part.to) (characters old) - part.from
    ≡ last_line (characters (part_cells old new part))
old-last-in {part} old new is fits =
    let within = old-within is fits in let long = length-characters old in
    old-last (characters old) part.from part.to fits.some (omega (arith, within, long))
    ∙ ap last_line (sym (old-text part old new is))

pub old-next-in : {part : Part} (old : List Cell) (new : List ℕ) (behind : ℕ) → part.slots ≡ None →
    PartFits (length old) (length new) part → behind ≡ next_line (characters old) part.from
    → (part.from ≤ min behind part.to) × (min behind part.to - part.from
    ≡ line_start 1 (characters (part_cells old new part)))
old-next-in {part} old new behind is fits behind_is =
    let within = old-within is fits in let long = length-characters old in
    let found = old-next (characters old) part.from part.to behind fits.some (omega (arith, within, long)) behind_is in
    (found.0, found.1 ∙ ap (line_start 1) (sym (old-text part old new is)))

pub part-text-length : {part : Part} (old : List Cell) (new : List ℕ) → PartFits (length old) (length new) part →
    length (characters (part_cells old new part)) ≡ part.to - part.from
part-text-length {part} old new fits = length-characters (part_cells old new part) ∙ part-length old new part fits

pub last-bound : {part : Part} (old : List Cell) (new : List ℕ) → PartFits (length old) (length new) part →
    last_line (characters (part_cells old new part)) ≤ part.to - part.from
last-bound {part} old new fits =
    let long = part-text-length old new fits in
    let bound = line_start-le (characters (part_cells old new part)) (lines (characters (part_cells old new part))) in
    omega (arith, long, bound)

pub first-bound : {part : Part} (old : List Cell) (new : List ℕ) → PartFits (length old) (length new) part →
    line_start 1 (characters (part_cells old new part)) ≤ part.to - part.from
first-bound {part} old new fits =
    let long = part-text-length old new fits in
    let bound = line_start-le (characters (part_cells old new part)) 1 in
    omega (arith, long, bound)

-- ---- back over the parts before the place

pub record LineSoFar (old : List Cell) (new : List ℕ) (parts : List Part) (from left end : ℕ) : Type 0 where
  pub within : left ≤ length parts
  pub place : end ≡ from + parts_len (take left parts)
  pub same : last_line (front_text old new parts) ≡ last_line (front_text old new (take left parts))

-- a part more: where it stands, and what its last line says
pub record LineStep (old : List Cell) (new : List ℕ) (parts : List Part) (from left end : ℕ)
    (part : Part) : Type 0 where
  pub fits : PartFits (length old) (length new) part
  pub below : part.to - part.from ≤ end
  pub none : last_line (characters (part_cells old new part)) ≡ 0 →
      LineSoFar old new parts from (left - 1) (end - (part.to - part.from))
  pub some : 0 < last_line (characters (part_cells old new part)) →
      IsLastLine (front_text old new parts) from
      (end - (part.to - part.from) + last_line (characters (part_cells old new part)))

pub line-step : {old : List Cell} {new : List ℕ} {parts : List Part} {from left end : ℕ} (part : Part) →
    All (PartFits (length old) (length new)) parts → LineSoFar old new parts from left end → 0 < left
    → part ≡ get_or parts (left - 1) part → LineStep old new parts from left end part
line-step {old} {new} {parts} {left} part fit so_far some is =
    let P = PartFits (length old) (length new) in
    let within = so_far.within in
    let place = so_far.place in
    let front = take (left - 1) parts in
    let text = characters (part_cells old new part) in
    let split : take left parts ≡ front ++ part ∷ [] =
    ap (λ n. take n parts) (let e : left ≡ left - 1 + 1 = omega (arith, some) in e)
    ∙ take_more parts (left - 1) part (omega (arith, some, within)) ∙ ap (λ p. front ++ p ∷ []) (sym is) in
    let counted : parts_len (take left parts) ≡ parts_len front + (part.to - part.from) = ap parts_len split
    ∙ len-push front part in
    let cells : front_text old new (take left parts) ≡ front_text old new front ++ text =
    ap (front_text old new) split ∙ ap characters (front-push old new front part)
    ∙ map-append (λ (cell : Cell). cell.character) (front_cells old new front) (part_cells old new part) in
    let long : length (front_text old new front)
    ≡ parts_len front = length-characters (front_cells old new front)
    ∙ front-length old new front (All-take P (left - 1) parts fit) in
    record {
      fits = subst P (sym is) (fit (left - 1) part (omega (arith, some, within)));
      below = omega (arith, place, counted);
      none = λ none. record {
        within = omega (arith, within);
        place = omega (arith, place, counted);
        same = so_far.same ∙ ap last_line cells ∙ last-none (front_text old new front) text none;
      };
      some = λ above.
          let whole : last_line (front_text old new parts) ≡ length (front_text old new front) + last_line text =
          so_far.same ∙ ap last_line cells ∙ last-some (front_text old new front) text above in
          record { some = omega (arith, whole, above); is = omega (arith, whole, long, place, counted) };
    }

-- the line of the place is the last one before it
pub place-line : {cursor : Cursor} (old : List Cell) → IsCursor cursor → length old ≡ cursor.old_len
    → line_start (line_of (characters (cursor_cells old cursor)) cursor.at) (characters (cursor_cells old cursor))
    ≡ last_line (characters (front_cells old cursor.fresh.items (side_parts cursor.front)))
place-line {cursor} old is long =
    let front = front_cells old cursor.fresh.items (side_parts cursor.front) in
    let behind = behind_cells old cursor.fresh.items (side_parts cursor.behind) in
    front-line (characters (front ++ behind)) cursor.at
    ∙ ap (λ xs. last_line (take cursor.at xs)) (map-append (λ (cell : Cell). cell.character) front behind)
    ∙ ap last_line (take_at (characters front) (characters behind) cursor.at (length-characters front
    ∙ place-is old is long))

-- ---- on over the parts behind it

-- the second line of a text behind one that has none
second-behind : {ys : List ℕ} {n : ℕ} (xs zs : List ℕ) → lines xs ≡ 0 → IsSecond ys n →
    IsSecond (xs ++ (ys ++ zs)) (length xs + n)
second-behind {ys} xs zs none second =
    let some = second.some in
    record {
      some = let h = lines-append xs (ys ++ zs) in let k = lines-append ys zs in omega (arith, h, k, some);
      is = ap (λ k. length xs + k) (second.is ∙ sym (first-some ys zs some)) ∙ sym (first-none xs (ys ++ zs) none);
    }

none-both : (xs ys : List ℕ) → lines xs ≡ 0 → lines ys ≡ 0 → lines (xs ++ ys) ≡ 0
none-both xs ys none nothing = let h = lines-append xs ys in omega (arith, h, none, nothing)

front-both : (old : List Cell) (new : List ℕ) (xs ys : List Part) →
    front_text old new (xs ++ ys) ≡ front_text old new xs ++ front_text old new ys
front-both old new xs ys = ap characters (front-append old new xs ys)
    ∙ map-append (λ (cell : Cell). cell.character) (front_cells old new xs) (front_cells old new ys)

behind-both : (old : List Cell) (new : List ℕ) (xs ys : List Part) →
    behind_text old new (xs ++ ys) ≡ behind_text old new ys ++ behind_text old new xs
behind-both old new xs ys = ap characters (behind-append old new xs ys)
    ∙ map-append (λ (cell : Cell). cell.character) (behind_cells old new ys) (behind_cells old new xs)

front-text-length : (old : List Cell) (new : List ℕ) (parts : List Part) →
    All (PartFits (length old) (length new)) parts → length (front_text old new parts) ≡ parts_len parts
front-text-length old new parts fit = length-characters (front_cells old new parts) ∙ front-length old new parts fit

behind-text-length : (old : List Cell) (new : List ℕ) (parts : List Part) →
    All (PartFits (length old) (length new)) parts → length (behind_text old new parts) ≡ parts_len parts
behind-text-length old new parts fit =
    length-characters (behind_cells old new parts) ∙ behind-length old new parts fit

-- the same parts and characters, read by other names
pub fit-both : (old : ℕ) (new new' : List ℕ) (parts parts' : List Part) → new' ≡ new → parts' ≡ parts →
    All (PartFits old (length new)) parts → All (PartFits old (length new')) parts'
fit-both old new new' parts parts' new_is parts_is fit =
    subst (λ (xs : List ℕ). All (PartFits old (length xs)) parts') (sym new_is)
    (All-same (PartFits old (length new)) parts' parts parts_is fit)

pub last-same : {line : ℕ} (old : List Cell) (new new' : List ℕ) (parts parts' : List Part) (end : ℕ) → new' ≡ new →
    parts' ≡ parts → IsLastLine (front_text old new' parts') (end - parts_len parts') line →
    IsLastLine (front_text old new parts) (end - parts_len parts) line
last-same {line} old new new' parts parts' end new_is parts_is last =
    subst (λ n. IsLastLine (front_text old new parts) (end - n) line) (ap parts_len parts_is)
    (subst (λ text. IsLastLine text (end - parts_len parts') line) (ap₂ (front_text old) new_is parts_is) last)

pub second-same : {n : ℕ} (old : List Cell) (new new' : List ℕ) (parts parts' : List Part) → new' ≡ new →
    parts' ≡ parts → IsSecond (front_text old new' parts') n → IsSecond (front_text old new parts) n
second-same {n} old new new' parts parts' new_is parts_is second =
    subst (λ text. IsSecond text n) (ap₂ (front_text old) new_is parts_is) second

pub second-same-back : {n : ℕ} (old : List Cell) (new new' : List ℕ) (parts parts' : List Part) → new' ≡ new →
    parts' ≡ parts → IsSecond (behind_text old new' parts') n → IsSecond (behind_text old new parts) n
second-same-back {n} old new new' parts parts' new_is parts_is second =
    subst (λ text. IsSecond text n) (ap₂ (behind_text old) new_is parts_is) second

one-text : (old : List Cell) (new : List ℕ) (part : Part) →
    front_text old new (part ∷ []) ≡ characters (part_cells old new part)
one-text old new part = ap characters (append-nil (part_cells old new part))

-- a list around an item
around : {A : Type 0} (xs : List A) (x : A) (index : ℕ) → index < length xs → x ≡ get_or xs index x →
    xs ≡ take index xs ++ (x ∷ drop (index + 1) xs)
around xs x index within is =
    sym (take-append-drop index xs)
    ∙ ap (λ ys. take index xs ++ ys) (drop_more xs index x within
    ∙ ap (λ y. y ∷ drop (index + 1) xs) (sym is))

-- over parts in the order of the text, of which none before an index has a newline
pub record PassedOn (old : List Cell) (new : List ℕ) (parts : List Part) (index far : ℕ) : Type 0 where
  pub far_is : far ≡ parts_len (take index parts)
  pub none : lines (front_text old new (take index parts)) ≡ 0

pub record OnStep (old : List Cell) (new : List ℕ) (parts : List Part) (index far : ℕ) (part : Part) : Type 0 where
  pub fits : PartFits (length old) (length new) part
  pub bound : far + (part.to - part.from) ≤ parts_len parts
  pub none : last_line (characters (part_cells old new part)) ≡ 0 →
      PassedOn old new parts (index + 1) (far + (part.to - part.from))
  pub some : 0 < last_line (characters (part_cells old new part)) →
      IsSecond (front_text old new parts) (far + line_start 1 (characters (part_cells old new part)))

pub on-step : {old : List Cell} {new : List ℕ} {parts : List Part} {index far : ℕ} (part : Part) →
    All (PartFits (length old) (length new)) parts → PassedOn old new parts index far → index < length parts
    → part ≡ get_or parts index part → OnStep old new parts index far part
on-step {old} {new} {parts} {index} {far} part fit passed within is =
    let P = PartFits (length old) (length new) in
    let front = take index parts in let rest = drop (index + 1) parts in
    let text = characters (part_cells old new part) in
    let far_is = passed.far_is in
    let split : parts ≡ front ++ (part ∷ rest) = around parts part index within is in
    let more : take (index + 1) parts ≡ front ++ part ∷ [] =
    take_more parts index part within ∙ ap (λ p. front ++ p ∷ []) (sym is) in
    let long : length (front_text old new front) ≡ far =
    front-text-length old new front (All-take P index parts fit) ∙ sym far_is in
    let counted : parts_len parts ≡ far + ((part.to - part.from) + parts_len rest) =
    ap parts_len split ∙ len-append front (part ∷ rest)
    ∙ ap₂ (λ m n. m + n) (sym far_is) (len-cons part rest) in
    record {
      fits = subst P (sym is) (fit index part within);
      bound = omega (arith, counted);
      none = λ none. record {
        far_is = sym (ap parts_len more ∙ len-push front part ∙ ap (λ n. n + (part.to - part.from)) (sym far_is));
        none = ap (λ ps. lines (front_text old new ps)) more
            ∙ ap lines (front-both old new front (part ∷ []) ∙ ap (λ t. front_text old new front ++ t)
            (one-text old new part))
            ∙ none-both (front_text old new front) text passed.none (no-lines text none);
      };
      some = λ above.
          let second : IsSecond text (line_start 1 text) = record { some = some-lines text above; is = refl } in
          let whole : front_text old new parts ≡ front_text old new front ++ (text ++ front_text old new rest) =
          ap (front_text old new) split ∙ front-both old new front (part ∷ rest)
          ∙ ap (λ t. front_text old new front ++ t)
          (map-append (λ (cell : Cell). cell.character) (part_cells old new part) (front_cells old new rest)) in
          subst (λ n. IsSecond (front_text old new parts) (n + line_start 1 text)) long
          (subst (λ t. IsSecond t (length (front_text old new front) + line_start 1 text)) (sym whole)
          (second-behind (front_text old new front) (front_text old new rest) passed.none
          second));
    }

-- over parts that are turned, from the last one on
pub record PassedBack (old : List Cell) (new : List ℕ) (parts : List Part) (left far : ℕ) : Type 0 where
  pub within : left ≤ length parts
  pub far_is : far ≡ parts_len (drop left parts)
  pub none : lines (behind_text old new (drop left parts)) ≡ 0

pub record BackStep (old : List Cell) (new : List ℕ) (parts : List Part) (left far : ℕ) (part : Part) : Type 0 where
  pub fits : PartFits (length old) (length new) part
  pub bound : far + (part.to - part.from) ≤ parts_len parts
  pub none : last_line (characters (part_cells old new part)) ≡ 0 →
      PassedBack old new parts (left - 1) (far + (part.to - part.from))
  pub some : 0 < last_line (characters (part_cells old new part)) →
      IsSecond (behind_text old new parts) (far + line_start 1 (characters (part_cells old new part)))

pub back-step : {old : List Cell} {new : List ℕ} {parts : List Part} {left far : ℕ} (part : Part) →
    All (PartFits (length old) (length new)) parts → PassedBack old new parts left far → 0 < left
    → part ≡ get_or parts (left - 1) part → BackStep old new parts left far part
back-step {old} {new} {parts} {left} {far} part fit passed some is =
    let P = PartFits (length old) (length new) in
    let within = passed.within in
    let far_is = passed.far_is in
    let front = take (left - 1) parts in let rest = drop left parts in
    let text = characters (part_cells old new part) in
    let here : left - 1 < length parts = omega (arith, some, within) in
    let number : left - 1 + 1 ≡ left = omega (arith, some) in
    let split : parts ≡ front ++ (part ∷ rest) =
    around parts part (left - 1) here is ∙ ap (λ n. front ++ (part ∷ drop n parts)) number in
    let more : drop (left - 1) parts ≡ part ∷ rest =
    drop_more parts (left - 1) part here ∙ ap₂ (λ p n. p ∷ drop n parts) (sym is) number in
    let long : length (behind_text old new rest) ≡ far =
    behind-text-length old new rest (All-drop P left parts fit) ∙ sym far_is in
    let counted : parts_len parts ≡ parts_len front + ((part.to - part.from) + far) =
    ap parts_len split ∙ len-append front (part ∷ rest)
    ∙ ap (λ n. parts_len front + n) (len-cons part rest ∙ ap (λ n. (part.to - part.from) + n) (sym far_is)) in
    let joined : behind_text old new (part ∷ rest) ≡ behind_text old new rest ++ text =
    map-append (λ (cell : Cell). cell.character) (behind_cells old new rest) (part_cells old new part) in
    record {
      fits = subst P (sym is) (fit (left - 1) part here);
      bound = omega (arith, counted);
      none = λ none. record {
        within = omega (arith, within);
        far_is = sym (ap parts_len more ∙ len-cons part rest ∙ ap (λ n. (part.to - part.from) + n) (sym far_is)
            ∙ omega arith);
        none = ap (λ ps. lines (behind_text old new ps)) more ∙ ap lines joined
            ∙ none-both (behind_text old new rest) text passed.none (no-lines text none);
      };
      some = λ above.
          let second : IsSecond text (line_start 1 text) = record { some = some-lines text above; is = refl } in
          let whole : behind_text old new parts
          ≡ behind_text old new rest ++ (text ++ behind_text old new front) =
          ap (behind_text old new) split ∙ behind-both old new front (part ∷ rest)
          ∙ ap (λ t. t ++ behind_text old new front) joined
          ∙ append_assoc (behind_text old new rest) text (behind_text old new front) in
          subst (λ n. IsSecond (behind_text old new parts) (n + line_start 1 text)) long
          (subst (λ t. IsSecond t (length (behind_text old new rest) + line_start 1 text)) (sym whole)
          (second-behind (behind_text old new rest) (behind_text old new front) passed.none
          second));
    }

pub place-next : {cursor : Cursor} (old : List Cell) → IsCursor cursor → length old ≡ cursor.old_len
    → line_start 1 (drop cursor.at (characters (cursor_cells old cursor)))
    ≡ line_start 1 (characters (behind_cells old cursor.fresh.items (side_parts cursor.behind)))
place-next {cursor} old is long =
    let front = front_cells old cursor.fresh.items (side_parts cursor.front) in
    let behind = behind_cells old cursor.fresh.items (side_parts cursor.behind) in
    ap (λ xs. line_start 1 (drop cursor.at xs)) (map-append (λ (cell : Cell). cell.character) front behind)
    ∙ ap (line_start 1) (drop_at (characters front) (characters behind) cursor.at (length-characters front
    ∙ place-is old is long))

-- ---- the same over blocks

blocks-append : (turned : Bool) (xs ys : List Block) →
    block_parts turned (xs ++ ys) ≡ block_parts turned xs ++ block_parts turned ys
blocks-append turned [] ys = refl
blocks-append turned (x ∷ xs) ys =
    ap (λ parts. turned_if turned x.parts.items ++ parts) (blocks-append turned xs ys)
    ∙ sym (append_assoc (turned_if turned x.parts.items) (block_parts turned xs) (block_parts turned ys))

-- back over the blocks before the place
pub record FarLine (old : List Cell) (new : List ℕ) (blocks : List Block) (left end : ℕ) : Type 0 where
  pub within : left ≤ length blocks
  pub place : end ≡ parts_len (block_parts false (take left blocks))
  pub same : last_line (front_text old new (block_parts false blocks))
      ≡ last_line (front_text old new (block_parts false (take left blocks)))

pub record FarLineStep (old : List Cell) (new : List ℕ) (blocks : List Block) (left end : ℕ)
    (block : Block) : Type 0 where
  pub fit : All (PartFits (length old) (length new)) block.parts.items
  pub below : block.count ≤ end
  pub none : last_line (front_text old new block.parts.items) ≡ 0 →
      FarLine old new blocks (left - 1) (end - block.count)
  pub some : (line : ℕ) → IsLastLine (front_text old new block.parts.items) (end - block.count) line →
      line ≡ last_line (front_text old new (block_parts false blocks))

pub far-line-step : {old : List Cell} {new : List ℕ} {blocks : List Block} {left end : ℕ} (block : Block) →
    All (PartFits (length old) (length new)) (block_parts false blocks) → FarLine old new blocks left end → 0 < left
    → block ≡ get_or blocks (left - 1) block → FarLineStep old new blocks left end block
far-line-step {old} {new} {blocks} {left} {end} block fit so_far some is =
    let P = PartFits (length old) (length new) in
    let within = so_far.within in let place = so_far.place in let counted = block.counted in
    let parts = block.parts.items in
    let here : left - 1 < length blocks = omega (arith, some, within) in
    let front = block_parts false (take (left - 1) blocks) in
    let rest = block_parts false (drop (left - 1 + 1) blocks) in
    let upto : block_parts false (take left blocks) ≡ front ++ parts =
    ap (λ n. block_parts false (take n blocks)) (let e : left ≡ left - 1 + 1 = omega (arith, some) in e)
    ∙ ap (block_parts false) (take_more blocks (left - 1) block here
    ∙ ap (λ b. take (left - 1) blocks ++ b ∷ []) (sym is))
    ∙ block-push false (take (left - 1) blocks) block in
    let whole : block_parts false blocks ≡ front ++ (parts ++ rest) =
    ap (block_parts false) (around blocks block (left - 1) here is)
    ∙ blocks-append false (take (left - 1) blocks) (block ∷ drop (left - 1 + 1) blocks) in
    let split = split-fit P front (parts ++ rest)
    (All-same P (front ++ (parts ++ rest)) (block_parts false blocks) (sym whole) fit) in
    let long = front-text-length old new front split.0 in
    let sum : end ≡ parts_len front + parts_len parts = place ∙ ap parts_len upto ∙ len-append front parts in
    let text : front_text old new (block_parts false (take left blocks))
    ≡ front_text old new front ++ front_text old new parts = ap (front_text old new) upto
    ∙ front-both old new front parts in
    record {
      fit = (split-fit P parts rest split.1).0;
      below = omega (arith, sum, counted);
      none = λ none. record {
        within = omega (arith, within);
        place = omega (arith, sum, counted);
        same = so_far.same ∙ ap last_line text
            ∙ last-none (front_text old new front) (front_text old new parts) none;
      };
      some = λ line last.
          let above = last.some in let is = last.is in
          let found = so_far.same ∙ ap last_line text
          ∙ last-some (front_text old new front) (front_text old new parts) above in
          omega (arith, is, found, long, sum, counted);
    }

-- the line of the place is in the near parts, or in the blocks
pub record NearLine (old : List Cell) (cursor : Cursor) : Type 0 where
  pub fit : All (PartFits (length old) (length cursor.fresh.items)) cursor.front.near.items
  pub below : parts_len cursor.front.near.items ≤ cursor.at
  pub far : cursor.at - parts_len cursor.front.near.items ≡ parts_len (block_parts false cursor.front.far.items)
  pub some : (line : ℕ) → IsLastLine (front_text old cursor.fresh.items cursor.front.near.items)
      (cursor.at - parts_len cursor.front.near.items) line
      → line
      ≡ line_start (line_of (characters (cursor_cells old cursor)) cursor.at) (characters (cursor_cells old cursor))
  pub none : last_line (front_text old cursor.fresh.items cursor.front.near.items) ≡ 0
      → last_line (front_text old cursor.fresh.items (block_parts false cursor.front.far.items))
      ≡ line_start (line_of (characters (cursor_cells old cursor)) cursor.at) (characters (cursor_cells old cursor))

pub far-fit : {cursor : Cursor} (old : List Cell) → IsCursor cursor → length old ≡ cursor.old_len →
    All (PartFits (length old) (length cursor.fresh.items)) (block_parts false cursor.front.far.items)
far-fit {cursor} old is long =
    let P = PartFits (length old) (length cursor.fresh.items) in
    subst (λ t. All P (block_parts t cursor.front.far.items)) is.ahead
    (split-fit P (block_parts cursor.front.turned cursor.front.far.items) cursor.front.near.items
    (same-fit cursor old (side_parts cursor.front) long is.front)).0

pub far-behind-fit : {cursor : Cursor} (old : List Cell) → IsCursor cursor → length old ≡ cursor.old_len →
    All (PartFits (length old) (length cursor.fresh.items)) (block_parts true cursor.behind.far.items)
far-behind-fit {cursor} old is long =
    let P = PartFits (length old) (length cursor.fresh.items) in
    subst (λ t. All P (block_parts t cursor.behind.far.items)) is.turned
    (split-fit P (block_parts cursor.behind.turned cursor.behind.far.items) cursor.behind.near.items
    (same-fit cursor old (side_parts cursor.behind) long is.behind)).0

pub near-line : {cursor : Cursor} (old : List Cell) → IsCursor cursor → length old ≡ cursor.old_len →
    NearLine old cursor
near-line {cursor} old is long =
    let new = cursor.fresh.items in
    let P = PartFits (length old) (length new) in
    let near = cursor.front.near.items in
    let far = block_parts false cursor.front.far.items in
    let parts : side_parts cursor.front ≡ far ++ near =
    ap (λ t. block_parts t cursor.front.far.items ++ near) is.ahead in
    let near_fit = (split-fit P (block_parts cursor.front.turned cursor.front.far.items) near
    (same-fit cursor old (side_parts cursor.front) long is.front)).1 in
    let sum : cursor.at ≡ parts_len far + parts_len near = sym is.place ∙ ap parts_len parts ∙ len-append far near in
    let counted = front-text-length old new far (far-fit old is long) in let text = place-line old is long
    ∙ ap (λ ps. last_line (front_text old new ps)) parts ∙ ap last_line (front-both old new far near) in
    record {
      fit = near_fit;
      below = omega (arith, sum);
      far = omega (arith, sum);
      some = λ line last.
          let above = last.some in let is = last.is in
          let found = text ∙ last-some (front_text old new far) (front_text old new near) above in
          omega (arith, is, found, sum, counted);
      none = λ none. sym (text ∙ last-none (front_text old new far) (front_text old new near) none);
    }

pub far-small : {cursor : Cursor} → IsCursor cursor → parts_len (block_parts true cursor.behind.far.items) ≤ cursor.len
far-small {cursor} is =
    let sum = ap (λ t. parts_len (block_parts t cursor.behind.far.items ++ cursor.behind.near.items)) is.turned
    ∙ len-append (block_parts true cursor.behind.far.items) cursor.behind.near.items in
    let whole = is.whole in
    omega (arith, sum, whole)

-- on over the blocks behind it
pub record FarPassed (old : List Cell) (new : List ℕ) (blocks : List Block) (left far : ℕ) : Type 0 where
  pub within : left ≤ length blocks
  pub far_is : far ≡ parts_len (block_parts true (drop left blocks))
  pub none : lines (behind_text old new (block_parts true (drop left blocks))) ≡ 0

pub record FarStep (old : List Cell) (new : List ℕ) (blocks : List Block) (left far : ℕ) (block : Block) : Type 0 where
  pub fit : All (PartFits (length old) (length new)) block.parts.items
  pub bound : far + block.count ≤ parts_len (block_parts true blocks)
  pub none : lines (front_text old new block.parts.items) ≡ 0 →
      FarPassed old new blocks (left - 1) (far + block.count)
  pub some : (n : ℕ) → IsSecond (front_text old new block.parts.items) n →
      far + n ≡ line_start 1 (behind_text old new (block_parts true blocks))
  pub within : (n : ℕ) → IsSecond (front_text old new block.parts.items) n → n ≤ block.count

turned-text : (old : List Cell) (new : List ℕ) (parts : List Part) →
    behind_text old new (reverse parts) ≡ front_text old new parts
turned-text old new parts = ap characters (behind-reverse old new parts)

pub far-step : {old : List Cell} {new : List ℕ} {blocks : List Block} {left far : ℕ} (block : Block) →
    All (PartFits (length old) (length new)) (block_parts true blocks) → FarPassed old new blocks left far → 0 < left
    → block ≡ get_or blocks (left - 1) block → FarStep old new blocks left far block
far-step {old} {new} {blocks} {left} {far} block fit passed some is =
    let P = PartFits (length old) (length new) in
    let within = passed.within in let far_is = passed.far_is in let counted = block.counted in
    let parts = block.parts.items in
    let here : left - 1 < length blocks = omega (arith, some, within) in
    let number : left - 1 + 1 ≡ left = omega (arith, some) in
    let front = block_parts true (take (left - 1) blocks) in
    let rest = block_parts true (drop left blocks) in
    let more : block_parts true (drop (left - 1) blocks) ≡ reverse parts ++ rest =
    ap (block_parts true) (drop_more blocks (left - 1) block here
    ∙ ap₂ (λ b n. b ∷ drop n blocks) (sym is) number) in
    let whole : block_parts true blocks ≡ front ++ (reverse parts ++ rest) =
    ap (block_parts true) (around blocks block (left - 1) here is)
    ∙ blocks-append true (take (left - 1) blocks) (block ∷ drop (left - 1 + 1) blocks)
    ∙ ap (λ n. front ++ (reverse parts ++ block_parts true (drop n blocks))) number in
    let split = split-fit P front (reverse parts ++ rest)
    (All-same P (front ++ (reverse parts ++ rest)) (block_parts true blocks) (sym whole) fit) in
    let both = split-fit P (reverse parts) rest split.1 in
    let parts_fit = All-same P parts (reverse (reverse parts)) (sym (reverse-reverse parts))
    (reverse-fit P (reverse parts) both.0) in
    let long : length (behind_text old new rest) ≡ far =
    behind-text-length old new rest both.1 ∙ sym far_is in
    let turned = turned-len true parts in
    let pair = len-append (reverse parts) rest in
    let all = ap parts_len whole ∙ len-append front (reverse parts ++ rest) in
    let joined : behind_text old new (reverse parts ++ rest) ≡ behind_text old new rest ++ front_text old new parts =
    behind-both old new (reverse parts) rest ∙ ap (λ t. behind_text old new rest ++ t) (turned-text old new parts) in
    record {
      fit = parts_fit;
      bound = omega (arith, turned, pair, all, far_is, counted);
      none = λ none. record {
        within = omega (arith, within);
        far_is = sym (ap parts_len more ∙ omega (arith, pair, turned, far_is, counted));
        none = ap (λ ps. lines (behind_text old new ps)) more ∙ ap lines joined
            ∙ none-both (behind_text old new rest) (front_text old new parts) passed.none none;
      };
      some = λ n second.
          let found : IsSecond (behind_text old new rest ++ (front_text old new parts ++ behind_text old new front))
          (length (behind_text old new rest) + n) =
          second-behind (behind_text old new rest) (behind_text old new front) passed.none second in
          ap (λ m. m + n) (sym long) ∙ found.is
          ∙ sym (ap (λ ps. line_start 1 (behind_text old new ps)) whole
          ∙ ap (line_start 1) (behind-both old new front (reverse parts ++ rest)
          ∙ ap (λ t. t ++ behind_text old new front) joined
          ∙ append_assoc (behind_text old new rest) (front_text old new parts) (behind_text old new front)));
      within = λ n second.
          let n_is = second.is in let bound = line_start-le (front_text old new parts) 1 in
          let length_is = front-text-length old new parts parts_fit in
          omega (arith, n_is, bound, length_is, counted);
    }

-- no line begins behind the first one, in no block
pub far-none : {old : List Cell} {new : List ℕ} {blocks : List Block} {far : ℕ} →
    All (PartFits (length old) (length new)) (block_parts true blocks) → FarPassed old new blocks 0 far →
    far ≡ line_start 1 (behind_text old new (block_parts true blocks))
far-none {old} {new} {blocks} fit passed =
    let none = passed.none in
    passed.far_is ∙ sym (behind-text-length old new (block_parts true blocks) fit)
    ∙ sym (line_start-past (behind_text old new (block_parts true blocks)) 1 (omega (arith, none)))

-- the next line begins in the near parts, or in the blocks
pub record NearNext (old : List Cell) (cursor : Cursor) : Type 0 where
  pub fit : All (PartFits (length old) (length cursor.fresh.items)) cursor.behind.near.items
  pub below : cursor.at + parts_len cursor.behind.near.items ≤ cursor.len
  pub some : (n : ℕ) → IsSecond (behind_text old cursor.fresh.items cursor.behind.near.items) n →
      n ≡ line_start 1 (drop cursor.at (characters (cursor_cells old cursor)))
  pub none : lines (behind_text old cursor.fresh.items cursor.behind.near.items) ≡ 0
      → parts_len cursor.behind.near.items
      + line_start 1 (behind_text old cursor.fresh.items (block_parts true cursor.behind.far.items))
      ≡ line_start 1 (drop cursor.at (characters (cursor_cells old cursor)))
  pub bound : cursor.at + line_start 1 (drop cursor.at (characters (cursor_cells old cursor))) ≤ cursor.len

pub near-next : {cursor : Cursor} (old : List Cell) → IsCursor cursor → length old ≡ cursor.old_len →
    NearNext old cursor
near-next {cursor} old is long =
    let new = cursor.fresh.items in
    let P = PartFits (length old) (length new) in
    let near = cursor.behind.near.items in
    let far = block_parts true cursor.behind.far.items in
    let parts : side_parts cursor.behind ≡ far ++ near =
    ap (λ t. block_parts t cursor.behind.far.items ++ near) is.turned in
    let fit = same-fit cursor old (side_parts cursor.behind) long is.behind in
    let near_fit = (split-fit P (block_parts cursor.behind.turned cursor.behind.far.items) near fit).1 in
    let whole = is.whole in
    let sum : parts_len (side_parts cursor.behind) ≡ parts_len far + parts_len near =
    ap parts_len parts ∙ len-append far near in
    let counted = behind-text-length old new near near_fit in
    let place = place-next old is long in
    let text : line_start 1 (drop cursor.at (characters (cursor_cells old cursor)))
    ≡ line_start 1 (behind_text old new near ++ behind_text old new far) = place
    ∙ ap (λ ps. line_start 1 (behind_text old new ps)) parts ∙ ap (line_start 1) (behind-both old new far near) in
    let bound = line_start-le (behind_text old new (side_parts cursor.behind)) 1 in
    let length_is = behind-text-length old new (side_parts cursor.behind) fit in
    record {
      fit = near_fit;
      below = omega (arith, sum, whole);
      some = λ n second. second.is
          ∙ sym (text ∙ first-some (behind_text old new near) (behind_text old new far) second.some);
      none = λ none. ap (λ n. n + line_start 1 (behind_text old new far)) (sym counted)
          ∙ sym (text ∙ first-none (behind_text old new near) (behind_text old new far) none);
      bound = omega (arith, place, bound, length_is, whole);
    }

-- ---- the slots on both sides of the place

between-slots : (slots : Option Slots) (old : List Cell) (new : List ℕ) (from to i : ℕ) → i < to - from →
    to ≤ source_len slots (length old) (length new)
    → get_or (slot_sets (cells_between slots old new from to)) i set.empty ≡ slots_in slots old (from + i)
between-slots None old new from to i inside within =
    ap (λ sets. get_or sets i set.empty) (map-slice_range (λ (cell : Cell). cell.tags) from to old)
    ∙ get_or-take (to - from) (drop from (slot_sets old)) i set.empty inside
    ∙ get_or-drop from (slot_sets old) i set.empty
between-slots (Some slots) old new from to i inside within =
    ap (λ sets. get_or sets i set.empty) (map-map (λ (cell : Cell). cell.tags) (λ character.
    record { character = character; tags = slots }) (slice_range new from to))
    ∙ get_or-map (λ _. slots) (slice_range new from to) i 0 set.empty
    (let long = slice-length from to new (omega (arith, inside)) within in omega (arith, long, inside))

pub shared-is : {cursor : Cursor} (old : List Cell) (fronts behinds : List Part) (before behind : Part) →
    IsCursor cursor → length old ≡ cursor.old_len
    → side_parts cursor.front ≡ fronts ++ before ∷ [] → side_parts cursor.behind ≡ behinds ++ behind ∷ []
    → set.intersection (slots_in before.slots old (before.to - 1)) (slots_in behind.slots old behind.from)
    ≡ shared_slots cursor.at (cursor_cells old cursor)
shared-is {cursor} old fronts behinds before behind is long front_is behind_is =
    let new = cursor.fresh.items in
    let P = PartFits (length old) (length new) in
    let front_fit = All-pop P (side_parts cursor.front) fronts (Some before) front_is
    (same-fit cursor old (side_parts cursor.front) long is.front) in
    let behind_fit = All-pop P (side_parts cursor.behind) behinds (Some behind) behind_is
    (same-fit cursor old (side_parts cursor.behind) long is.behind) in
    let one = front_fit.1 in let two = behind_fit.1 in let some = one.some in let more = two.some in
    let fs = slot_sets (front_cells old new fronts) in let p = slot_sets (part_cells old new before) in
    let q = slot_sets (part_cells old new behind) in let bs = slot_sets (behind_cells old new behinds) in
    let tags = λ (cell : Cell). cell.tags in
    let sets : slot_sets (cursor_cells old cursor) ≡ (fs ++ p) ++ (q ++ bs) =
    map-append tags (front_cells old new (side_parts cursor.front)) (behind_cells old new (side_parts cursor.behind))
    ∙ ap₂ (λ a b. slot_sets a ++ slot_sets b) (ap (front_cells old new) front_is
    ∙ front-push old new fronts before) (ap (behind_cells old new) behind_is ∙ behind-push old new behinds behind)
    ∙ ap₂ (λ a b. a ++ b) (map-append tags (front_cells old new fronts) (part_cells old new before))
    (map-append tags (part_cells old new behind) (behind_cells old new behinds)) in
    let place : length (fs ++ p) ≡ cursor.at =
    sym (ap length (map-append tags (front_cells old new fronts) (part_cells old new before)))
    ∙ length-slot_sets (front_cells old new fronts ++ part_cells old new before)
    ∙ ap length (sym (ap (front_cells old new) front_is ∙ front-push old new fronts before)) ∙ place-is old is long in
    let p_long : length p ≡ before.to - before.from = length-slot_sets (part_cells old new before)
    ∙ part-length old new before one in
    let q_long : length q ≡ behind.to - behind.from = length-slot_sets (part_cells old new behind)
    ∙ part-length old new behind two in
    let both = length-append fs p in
    let last : get_or (slot_sets (cursor_cells old cursor)) (cursor.at - 1) set.empty
    ≡ slots_in before.slots old (before.to - 1) =
    ap (λ xs. get_or xs (cursor.at - 1) set.empty) sets
    ∙ get_or_append_left (fs ++ p) (q ++ bs) set.empty (cursor.at - 1) (omega (arith, place, both, p_long, some))
    ∙ ap (λ n. get_or (fs ++ p) n set.empty) (let e : cursor.at - 1
    ≡ length fs + (before.to - before.from - 1) = omega (arith, place, both, p_long, some) in e)
    ∙ get_or-append-add fs p (before.to - before.from - 1) set.empty
    ∙ between-slots before.slots old new before.from before.to (before.to - before.from - 1) (omega (arith, some))
    one.within
    ∙ ap (slots_in before.slots old) (let e : before.from + (before.to - before.from - 1)
    ≡ before.to - 1 = omega (arith, some) in e) in
    let next : get_or (slot_sets (cursor_cells old cursor)) cursor.at set.empty
    ≡ slots_in behind.slots old behind.from =
    ap (λ xs. get_or xs cursor.at set.empty) sets
    ∙ ap (λ n. get_or ((fs ++ p) ++ (q ++ bs)) n set.empty) (let e : cursor.at
    ≡ length (fs ++ p) + 0 = omega (arith, place) in e)
    ∙ get_or-append-add (fs ++ p) (q ++ bs) 0 set.empty
    ∙ get_or_append_left q bs set.empty 0 (omega (arith, q_long, more))
    ∙ between-slots behind.slots old new behind.from behind.to 0 (omega (arith, more)) two.within
    ∙ ap (slots_in behind.slots old) (let e : behind.from + 0 ≡ behind.from = omega arith in e) in
    ap₂ set.intersection (sym last) (sym next)
    ∙ sym (ap (λ b. if b then set.empty
    else set.intersection (get_or (slot_sets (cursor_cells old cursor)) (cursor.at - 1) set.empty)
    (get_or (slot_sets (cursor_cells old cursor)) cursor.at set.empty))
    (ne_eqb cursor.at 0 (λ none. omega (arith, none, place, both, p_long, some))))
