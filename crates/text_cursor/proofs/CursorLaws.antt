-- A cursor goes through the parts of a text.
use Rattle.text_cursor.proofs.Common.{◌≡◌, ℕ, ◌+◌, ◌-◌, ◌<◌, ◌≤◌, List, [], ◌∷◌, ◌++◌, Option, Some, None, map, length}
use Rattle.text_cursor.proofs.Common.{take, drop, refl, sym, ap, ap₂, ◌∙◌, arith, subst, append_assoc, length-append}
use Rattle.text_cursor.proofs.Common.{length-drop, reverse, slice_range, sum_by, All, append-nil, map-append}
use Rattle.text_cursor.proofs.Common.{length-map, length-take-le, drop-drop, drop-append-le, reverse-append}
use Rattle.text_cursor.proofs.Common.{reverse-reverse, take-append-le, take-append-drop, take_all, take_at, drop_at}
use Rattle.text_cursor.proofs.Common.{nil_from_length, All-nil, All-cons, All-append, All-push, All-head, All-tail}
use Rattle.text_cursor.proofs.Common.{All-pop, All-same, All-weaker, sum_by-append, sum_by-cons, take-add, Cell, Slots}
use Rattle.text_cursor.proofs.Common.{cells_of, inserted, removed, take-removed, drop-removed, Cursor, Part, parts_len}
use Rattle.text_cursor.proofs.Common.{turned_if, side_parts, Block, cells_between, part_cells, front_cells}
use Rattle.text_cursor.proofs.Common.{behind_cells, source_len, cursor_cells, cursor_parts, PartFits, IsCursor, Moves}
use Rattle.text_cursor.proofs.Common.{Takes, Puts, Bool, true, false, ◌^◌}
use Rattle.text_cursor.proofs.RiseLaws.{rise-across, rise-along, rise-cut, rise-dropped, rise-trimmed, rise-put}
use Rattle.text_cursor.proofs.SideLaws.{len-append, len-cons, turned-len, turned-length}

slice-length : {A : Type 0} (from to : ℕ) (xs : List A) → from ≤ to → to ≤ length xs →
    length (slice_range xs from to) ≡ to - from
slice-length from to xs ordered within =
    length-take-le (to - from) (drop from xs) (let h = length-drop from xs in omega (arith, h))

pub slice-join : {A : Type 0} (from middle to : ℕ) (xs : List A) → from ≤ middle → middle ≤ to →
    slice_range xs from middle ++ slice_range xs middle to ≡ slice_range xs from to
slice-join from middle to xs above below =
    ap (λ ys. take (middle - from) (drop from xs) ++ take (to - middle) ys)
    (ap (λ n. drop n xs) (let e : middle ≡ from + (middle - from) = omega arith in e)
    ∙ sym (drop-drop (middle - from) from xs))
    ∙ sym (take-add (middle - from) (to - middle) (drop from xs))
    ∙ ap (λ n. take n (drop from xs)) (let e : middle - from + (to - middle) ≡ to - from = omega arith in e)

slice-more : (from to : ℕ) (xs ys : List ℕ) → from ≤ to → to ≤ length xs →
    slice_range (xs ++ ys) from to ≡ slice_range xs from to
slice-more from to xs ys ordered within =
    ap (take (to - from)) (drop-append-le from xs ys (omega arith))
    ∙ take-append-le (to - from) (drop from xs) ys (let h = length-drop from xs in omega (arith, h))

slice-last : (xs ys : List ℕ) → slice_range (xs ++ ys) (length xs) (length xs + length ys) ≡ ys
slice-last xs ys =
    ap₂ take (let e : length xs + length ys - length xs ≡ length ys = omega arith in e) (drop_at xs ys (length xs) refl)
    ∙ take_all (length ys) ys (omega arith)

-- the number of cells of a part
between-length : (slots : Option Slots) (old : List Cell) (new : List ℕ) (from to : ℕ) → from ≤ to →
    to ≤ source_len slots (length old) (length new) → length (cells_between slots old new from to) ≡ to - from
between-length None old new from to ordered within = slice-length from to old ordered within
between-length (Some slots) old new from to ordered within =
    length-map (slice_range new from to) _ ∙ slice-length from to new ordered within

pub part-length : (old : List Cell) (new : List ℕ) (part : Part) → PartFits (length old) (length new) part →
    length (part_cells old new part) ≡ part.to - part.from
part-length old new part fits =
    between-length part.slots old new part.from part.to (let h = fits.some in omega (arith, h)) fits.within

-- a part in two
between-join : (slots : Option Slots) (old : List Cell) (new : List ℕ) (from middle to : ℕ) → from ≤ middle →
    middle ≤ to
    → cells_between slots old new from middle ++ cells_between slots old new middle to
    ≡ cells_between slots old new from to
between-join None old new from middle to above below = slice-join from middle to old above below
between-join (Some slots) old new from middle to above below =
    let cell = λ (character : ℕ). let made : Cell = record { character = character; tags = slots } in made in
    sym (map-append cell (slice_range new from middle) (slice_range new middle to))
    ∙ ap (map cell) (slice-join from middle to new above below)

pub part-join : (old : List Cell) (new : List ℕ) (part : Part) (middle : ℕ) → part.from ≤ middle → middle ≤ part.to
    → part_cells old new (record part { to = middle }) ++ part_cells old new (record part { from = middle })
    ≡ part_cells old new part
part-join old new part middle above below = between-join part.slots old new part.from middle part.to above below

-- one part more
pub front-push : (old : List Cell) (new : List ℕ) (parts : List Part) (part : Part) →
    front_cells old new (parts ++ part ∷ []) ≡ front_cells old new parts ++ part_cells old new part
front-push old new [] part = append-nil (part_cells old new part)
front-push old new (first ∷ parts) part =
    ap (λ cells. part_cells old new first ++ cells) (front-push old new parts part)
    ∙ sym (append_assoc (part_cells old new first) (front_cells old new parts) (part_cells old new part))

pub behind-push : (old : List Cell) (new : List ℕ) (parts : List Part) (part : Part) →
    behind_cells old new (parts ++ part ∷ []) ≡ part_cells old new part ++ behind_cells old new parts
behind-push old new [] part = sym (append-nil (part_cells old new part))
behind-push old new (first ∷ parts) part =
    ap (λ cells. cells ++ part_cells old new first) (behind-push old new parts part)
    ∙ append_assoc (part_cells old new part) (behind_cells old new parts) (part_cells old new first)

pub len-push : (parts : List Part) (part : Part) → parts_len (parts ++ part ∷ [])
    ≡ parts_len parts + (part.to - part.from)
len-push parts part =
    let count = λ (p : Part). p.to - p.from in
    sum_by-append count parts (part ∷ []) ∙ (let one = sum_by-cons count part [] in
    let none : sum_by count [] ≡ 0 = refl in omega (arith, one, none))

-- ---- the part before the place goes behind it, or the other way round

cells-over : (old : List Cell) (new : List ℕ) (front behind : List Part) (part : Part)
    → front_cells old new (front ++ part ∷ []) ++ behind_cells old new behind
    ≡ front_cells old new front ++ behind_cells old new (behind ++ part ∷ [])
cells-over old new front behind part =
    ap (λ cells. cells ++ behind_cells old new behind) (front-push old new front part)
    ∙ append_assoc (front_cells old new front) (part_cells old new part) (behind_cells old new behind)
    ∙ ap (λ cells. front_cells old new front ++ cells) (sym (behind-push old new behind part))

cells-in : (old : List Cell) (new : List ℕ) (front behind : List Part) (part : Part) (middle : ℕ) → part.from ≤ middle →
    middle ≤ part.to
    → front_cells old new (front ++ record part { to = middle } ∷ [])
    ++ behind_cells old new (behind ++ record part { from = middle } ∷ [])
    ≡ front_cells old new front ++ behind_cells old new (behind ++ part ∷ [])
cells-in old new front behind part middle above below =
    cells-over old new front (behind ++ record part { from = middle } ∷ []) (record part { to = middle })
    ∙ ap (λ cells. front_cells old new front ++ cells)
    (behind-push old new (behind ++ record part { from = middle } ∷ []) (record part { to = middle })
    ∙ ap (λ cells. part_cells old new (record part { to = middle }) ++ cells)
    (behind-push old new behind (record part { from = middle }))
    ∙ sym (append_assoc (part_cells old new (record part { to = middle }))
    (part_cells old new (record part { from = middle })) (behind_cells old new behind))
    ∙ ap (λ cells. cells ++ behind_cells old new behind) (part-join old new part middle above below)
    ∙ sym (behind-push old new behind part))

-- the parts of both sides stand as they stood
pub record SameWays (before now : Cursor) : Type 0 where
  pub ahead : now.front.turned ≡ before.front.turned
  pub turned : now.behind.turned ≡ before.behind.turned

popped : (P : Part → Type 0) (all rest : List Part) (part : Part) → all ≡ rest ++ part ∷ [] → All P all →
    All P rest × P part
popped P all rest part is fit = All-pop P all rest (Some part) is fit

pub moves-back : {before now : Cursor} (part : Part) → IsCursor before → SameWays before now →
    side_parts before.front ≡ side_parts now.front ++ part ∷ []
    → side_parts now.behind ≡ side_parts before.behind ++ part ∷ []
    → now.fresh.items ≡ before.fresh.items → now.old_len ≡ before.old_len → now.len ≡ before.len →
    now.at ≡ before.at - (part.to - part.from) → Moves before now
moves-back {before} {now} part is ways front behind fresh old_len len at =
    let P = PartFits before.old_len (length before.fresh.items) in
    let parts = popped P (side_parts before.front) (side_parts now.front) part front is.front in
    let fits_same : PartFits now.old_len (length now.fresh.items)
    ≡ P = ap₂ (λ n xs. PartFits n (length xs)) old_len fresh in
    let front_len : parts_len (side_parts before.front) ≡ parts_len (side_parts now.front)
    + (part.to - part.from) = ap parts_len front ∙ len-push (side_parts now.front) part in
    let behind_len : parts_len (side_parts now.behind) ≡ parts_len (side_parts before.behind)
    + (part.to - part.from) = ap parts_len behind ∙ len-push (side_parts before.behind) part in
    let place = is.place in let whole = is.whole in
    record {
      is = record {
        front = subst (λ (Q : Part → Type 0). All Q (side_parts now.front)) (sym fits_same) parts.0;
        behind = subst (λ (Q : Part → Type 0). All Q (side_parts now.behind)) (sym fits_same)
            (All-same P (side_parts now.behind) (side_parts before.behind ++ part ∷ []) behind
            (All-push P (side_parts before.behind) part is.behind parts.1));
        place = omega (arith, front_len, place, at);
        whole = omega (arith, front_len, behind_len, place, whole, at, len);
        fits = let fits = is.fits in omega (arith, fits, len);
        ahead = ways.ahead ∙ is.ahead;
        turned = ways.turned ∙ is.turned;
        rising = rise-across before.old_len now.old_len (side_parts now.front) (side_parts before.behind) (part ∷ [])
            (side_parts before.front) (side_parts now.behind) old_len front behind is.rising;
      };
      old_len = old_len;
      len = len;
      cells = λ old.
          ap₂ (λ new parts. front_cells old new (side_parts now.front) ++ behind_cells old new parts) fresh behind
          ∙ sym (cells-over old before.fresh.items (side_parts now.front) (side_parts before.behind) part)
          ∙ ap (λ parts. front_cells old before.fresh.items parts
          ++ behind_cells old before.fresh.items (side_parts before.behind)) (sym front);
    }

pub moves-over : {before now : Cursor} (part : Part) → IsCursor before → SameWays before now →
    side_parts before.behind ≡ side_parts now.behind ++ part ∷ []
    → side_parts now.front ≡ side_parts before.front ++ part ∷ []
    → now.fresh.items ≡ before.fresh.items → now.old_len ≡ before.old_len → now.len ≡ before.len →
    now.at ≡ before.at + (part.to - part.from) → Moves before now
moves-over {before} {now} part is ways behind front fresh old_len len at =
    let P = PartFits before.old_len (length before.fresh.items) in
    let parts = popped P (side_parts before.behind) (side_parts now.behind) part behind is.behind in
    let fits_same : PartFits now.old_len (length now.fresh.items)
    ≡ P = ap₂ (λ n xs. PartFits n (length xs)) old_len fresh in
    let front_len : parts_len (side_parts now.front) ≡ parts_len (side_parts before.front)
    + (part.to - part.from) = ap parts_len front ∙ len-push (side_parts before.front) part in
    let behind_len : parts_len (side_parts before.behind) ≡ parts_len (side_parts now.behind)
    + (part.to - part.from) = ap parts_len behind ∙ len-push (side_parts now.behind) part in
    let place = is.place in let whole = is.whole in
    record {
      is = record {
        front = subst (λ (Q : Part → Type 0). All Q (side_parts now.front)) (sym fits_same)
            (All-same P (side_parts now.front) (side_parts before.front ++ part ∷ []) front
            (All-push P (side_parts before.front) part is.front parts.1));
        behind = subst (λ (Q : Part → Type 0). All Q (side_parts now.behind)) (sym fits_same) parts.0;
        place = omega (arith, front_len, place, at);
        whole = omega (arith, behind_len, whole, at, len);
        fits = let fits = is.fits in omega (arith, fits, len);
        ahead = ways.ahead ∙ is.ahead;
        turned = ways.turned ∙ is.turned;
        rising = rise-along before.old_len now.old_len (side_parts before.front) (side_parts now.behind) (part ∷ [])
            (side_parts now.front) (side_parts before.behind) old_len front behind is.rising;
      };
      old_len = old_len;
      len = len;
      cells = λ old.
          ap₂ (λ new parts. front_cells old new parts ++ behind_cells old new (side_parts now.behind)) fresh front
          ∙ cells-over old before.fresh.items (side_parts before.front) (side_parts now.behind) part
          ∙ ap (λ parts. front_cells old before.fresh.items (side_parts before.front)
          ++ behind_cells old before.fresh.items parts) (sym behind);
    }

pub moves-in : {before now : Cursor} (part : Part) (rest : List Part) (most : ℕ) → IsCursor before →
    SameWays before now →
    side_parts before.behind ≡ rest ++ part ∷ [] → 0 < most → most < part.to - part.from
    → side_parts now.behind ≡ rest ++ record part { from = part.from + most } ∷ [] →
    side_parts now.front ≡ side_parts before.front ++ record part { to = part.from + most } ∷ []
    → now.fresh.items ≡ before.fresh.items → now.old_len ≡ before.old_len → now.len ≡ before.len →
    now.at ≡ before.at + most → Moves before now
moves-in {before} {now} part rest most is ways behind some short behind_is front_is fresh old_len len at =
    let P = PartFits before.old_len (length before.fresh.items) in
    let parts = popped P (side_parts before.behind) rest part behind is.behind in
    let fits = parts.1 in let within = fits.within in
    let first : Part = record part { to = part.from + most } in
    let last : Part = record part { from = part.from + most } in
    let fits_same : PartFits now.old_len (length now.fresh.items)
    ≡ P = ap₂ (λ n xs. PartFits n (length xs)) old_len fresh in
    let front_len : parts_len (side_parts now.front) ≡ parts_len (side_parts before.front)
    + (part.from + most - part.from) = ap parts_len front_is ∙ len-push (side_parts before.front) first in
    let old_behind : parts_len (side_parts before.behind) ≡ parts_len rest + (part.to - part.from) = ap parts_len behind
    ∙ len-push rest part in
    let behind_len : parts_len (side_parts now.behind) ≡ parts_len rest
    + (part.to - (part.from + most)) = ap parts_len behind_is ∙ len-push rest last in
    let place = is.place in let whole = is.whole in
    record {
      is = record {
        front = subst (λ (Q : Part → Type 0). All Q (side_parts now.front)) (sym fits_same)
            (All-same P (side_parts now.front) (side_parts before.front ++ first ∷ []) front_is
            (All-push P (side_parts before.front) first is.front
            (record { some = omega (arith, some); within = omega (arith, short, within) })));
        behind = subst (λ (Q : Part → Type 0). All Q (side_parts now.behind)) (sym fits_same)
            (All-same P (side_parts now.behind) (rest ++ last ∷ []) behind_is
            (All-push P rest last parts.0 (record { some = omega (arith, short); within = within })));
        place = omega (arith, front_len, place, at);
        whole = omega (arith, old_behind, behind_len, whole, at, len, short);
        fits = let fits = is.fits in omega (arith, fits, len);
        ahead = ways.ahead ∙ is.ahead;
        turned = ways.turned ∙ is.turned;
        rising = rise-cut before.old_len now.old_len (side_parts before.front) rest part (part.from + most)
            (side_parts before.behind) (side_parts now.front) (side_parts now.behind) old_len behind front_is
            behind_is is.rising;
      };
      old_len = old_len;
      len = len;
      cells = λ old.
          ap₂ (λ new parts. front_cells old new parts ++ behind_cells old new (side_parts now.behind)) fresh front_is
          ∙ ap (λ parts. front_cells old before.fresh.items (side_parts before.front ++ first ∷ [])
          ++ behind_cells old before.fresh.items parts) behind_is
          ∙ cells-in old before.fresh.items (side_parts before.front) rest part (part.from + most) (omega arith)
          (omega (arith, short))
          ∙ ap (λ parts. front_cells old before.fresh.items (side_parts before.front)
          ++ behind_cells old before.fresh.items parts) (sym behind);
    }

-- ---- a block before the place goes behind it, or the other way round

pub front-append : (old : List Cell) (new : List ℕ) (xs ys : List Part) →
    front_cells old new (xs ++ ys) ≡ front_cells old new xs ++ front_cells old new ys
front-append old new [] ys = refl
front-append old new (x ∷ xs) ys =
    ap (λ cells. part_cells old new x ++ cells) (front-append old new xs ys)
    ∙ sym (append_assoc (part_cells old new x) (front_cells old new xs) (front_cells old new ys))

pub behind-append : (old : List Cell) (new : List ℕ) (xs ys : List Part) →
    behind_cells old new (xs ++ ys) ≡ behind_cells old new ys ++ behind_cells old new xs
behind-append old new [] ys = sym (append-nil (behind_cells old new ys))
behind-append old new (x ∷ xs) ys =
    ap (λ cells. cells ++ part_cells old new x) (behind-append old new xs ys)
    ∙ append_assoc (behind_cells old new ys) (behind_cells old new xs) (part_cells old new x)

pub behind-reverse : (old : List Cell) (new : List ℕ) (xs : List Part) →
    behind_cells old new (reverse xs) ≡ front_cells old new xs
behind-reverse old new [] = refl
behind-reverse old new (x ∷ xs) =
    ap (behind_cells old new) (reverse-append (x ∷ []) xs) ∙ behind-push old new (reverse xs) x
    ∙ ap (λ cells. part_cells old new x ++ cells) (behind-reverse old new xs)

-- parts go from one side to the other, turned
cells-across : (old : List Cell) (new : List ℕ) (front behind parts : List Part)
    → front_cells old new (front ++ parts) ++ behind_cells old new behind
    ≡ front_cells old new front ++ behind_cells old new (behind ++ reverse parts)
cells-across old new front behind parts =
    ap (λ cells. cells ++ behind_cells old new behind) (front-append old new front parts)
    ∙ append_assoc (front_cells old new front) (front_cells old new parts) (behind_cells old new behind)
    ∙ ap (λ cells. front_cells old new front ++ cells)
    (ap (λ cells. cells ++ behind_cells old new behind) (sym (behind-reverse old new parts))
    ∙ sym (behind-append old new behind (reverse parts)))

pub reverse-fit : (P : Part → Type 0) (parts : List Part) → All P parts → All P (reverse parts)
reverse-fit P [] fit = fit
reverse-fit P (x ∷ xs) fit = All-same P (reverse (x ∷ xs)) (reverse xs ++ x ∷ []) (reverse-append (x ∷ []) xs)
    (All-push P (reverse xs) x (reverse-fit P xs (All-tail P x xs fit)) (All-head P x xs fit))

pub split-fit : (P : Part → Type 0) (xs ys : List Part) → All P (xs ++ ys) → All P xs × All P ys
split-fit P [] ys fit = (All-nil P, fit)
split-fit P (x ∷ xs) ys fit =
    let rest = split-fit P xs ys (All-tail P x (xs ++ ys) fit) in
    (All-cons P x xs (All-head P x (xs ++ ys) fit) rest.0, rest.1)

-- a block on the side before the place, and on the one behind it
ahead-parts : (turned : Bool) (parts : List Part) → turned ≡ false → turned_if turned parts ≡ parts
ahead-parts turned parts is = ap (λ t. turned_if t parts) is

behind-parts : (turned : Bool) (parts : List Part) → turned ≡ true → turned_if turned parts ≡ reverse parts
behind-parts turned parts is = ap (λ t. turned_if t parts) is

some-len : (old new : ℕ) (parts : List Part) → All (PartFits old new) parts → 0 < length parts → 0 < parts_len parts
some-len old new [] fit some = absurd (omega (arith, some))
some-len old new (part ∷ parts) fit some =
    let one = (All-head (PartFits old new) part parts fit).some in
    let sum = len-cons part parts in
    omega (arith, one, sum)

-- a block on the end of a side has characters, and no more than the side
block-fits : (old new : ℕ) (all rest : List Part) (turned : Bool) (block : Block) → All (PartFits old new) all →
    all ≡ rest ++ turned_if turned block.parts.items
    → (0 < block.count) × (parts_len rest + block.count ≡ parts_len all)
block-fits old new all rest turned block fit is =
    let P = PartFits old new in
    let parts = turned_if turned block.parts.items in
    let split = split-fit P rest parts (All-same P (rest ++ parts) all (sym is) fit) in
    let some = block.some in let counted = block.counted in
    let long = turned-length turned block.parts.items in
    let above = some-len old new parts split.1 (omega (arith, some, long)) in
    let len = turned-len turned block.parts.items in
    let sum = ap parts_len is ∙ len-append rest parts in
    (omega (arith, above, len, counted), omega (arith, sum, len, counted))

pub front-block : {cursor : Cursor} (rest : List Part) (block : Block) → IsCursor cursor
    → side_parts cursor.front ≡ rest ++ turned_if cursor.front.turned block.parts.items →
    (0 < block.count) × (block.count ≤ cursor.at)
front-block {cursor} rest block is front =
    let fits = block-fits cursor.old_len (length cursor.fresh.items) (side_parts cursor.front) rest
    cursor.front.turned block is.front front in
    let sum = fits.1 in let place = is.place in
    (fits.0, omega (arith, sum, place))

pub behind-block : {cursor : Cursor} (rest : List Part) (block : Block) → IsCursor cursor
    → side_parts cursor.behind ≡ rest ++ turned_if cursor.behind.turned block.parts.items →
    (0 < block.count) × (cursor.at + block.count ≤ cursor.len)
behind-block {cursor} rest block is behind =
    let fits = block-fits cursor.old_len (length cursor.fresh.items) (side_parts cursor.behind) rest
    cursor.behind.turned block is.behind behind in
    let sum = fits.1 in let whole = is.whole in
    (fits.0, omega (arith, sum, whole))

pub leaps-back : {before now : Cursor} (block : Block) → IsCursor before → SameWays before now
    → side_parts before.front ≡ side_parts now.front ++ turned_if before.front.turned block.parts.items
    → side_parts now.behind ≡ side_parts before.behind ++ turned_if before.behind.turned block.parts.items
    → now.fresh.items ≡ before.fresh.items → now.old_len ≡ before.old_len → now.len ≡ before.len →
    now.at ≡ before.at - block.count → Moves before now
leaps-back {before} {now} block is ways front_has behind_has fresh old_len len at =
    let P = PartFits before.old_len (length before.fresh.items) in
    let parts = block.parts.items in
    let front = front_has ∙ ap (λ ps. side_parts now.front ++ ps) (ahead-parts before.front.turned parts is.ahead) in
    let behind = behind_has
    ∙ ap (λ ps. side_parts before.behind ++ ps) (behind-parts before.behind.turned parts is.turned) in
    let split = split-fit P (side_parts now.front) parts (All-same P (side_parts now.front ++ parts)
    (side_parts before.front) (sym front) is.front) in
    let fits_same : PartFits now.old_len (length now.fresh.items)
    ≡ P = ap₂ (λ n xs. PartFits n (length xs)) old_len fresh in
    let front_len : parts_len (side_parts before.front) ≡ parts_len (side_parts now.front) + parts_len parts =
    ap parts_len front ∙ len-append (side_parts now.front) parts in
    let behind_len : parts_len (side_parts now.behind) ≡ parts_len (side_parts before.behind) + parts_len parts =
    ap parts_len behind ∙ len-append (side_parts before.behind) (reverse parts)
    ∙ ap (λ n. parts_len (side_parts before.behind) + n) (turned-len true parts) in
    let place = is.place in let whole = is.whole in let counted = block.counted in
    record {
      is = record {
        front = subst (λ (Q : Part → Type 0). All Q (side_parts now.front)) (sym fits_same) split.0;
        behind = subst (λ (Q : Part → Type 0). All Q (side_parts now.behind)) (sym fits_same)
            (All-same P (side_parts now.behind) (side_parts before.behind ++ reverse parts) behind
            (All-append P (side_parts before.behind) (reverse parts) is.behind (reverse-fit P parts split.1)));
        place = omega (arith, front_len, place, at, counted);
        whole = omega (arith, front_len, behind_len, place, whole, at, len, counted);
        fits = let fits = is.fits in omega (arith, fits, len);
        ahead = ways.ahead ∙ is.ahead;
        turned = ways.turned ∙ is.turned;
        rising = rise-across before.old_len now.old_len (side_parts now.front) (side_parts before.behind) parts
            (side_parts before.front) (side_parts now.behind) old_len front behind is.rising;
      };
      old_len = old_len;
      len = len;
      cells = λ old.
          ap₂ (λ new parts. front_cells old new (side_parts now.front) ++ behind_cells old new parts) fresh behind
          ∙ sym (cells-across old before.fresh.items (side_parts now.front) (side_parts before.behind) parts)
          ∙ ap (λ parts. front_cells old before.fresh.items parts
          ++ behind_cells old before.fresh.items (side_parts before.behind)) (sym front);
    }

pub leaps-on : {before now : Cursor} (block : Block) → IsCursor before → SameWays before now
    → side_parts before.behind ≡ side_parts now.behind ++ turned_if before.behind.turned block.parts.items
    → side_parts now.front ≡ side_parts before.front ++ turned_if before.front.turned block.parts.items
    → now.fresh.items ≡ before.fresh.items → now.old_len ≡ before.old_len → now.len ≡ before.len →
    now.at ≡ before.at + block.count → Moves before now
leaps-on {before} {now} block is ways behind_has front_has fresh old_len len at =
    let P = PartFits before.old_len (length before.fresh.items) in
    let parts = block.parts.items in
    let front = front_has
    ∙ ap (λ ps. side_parts before.front ++ ps) (ahead-parts before.front.turned parts is.ahead) in
    let behind = behind_has
    ∙ ap (λ ps. side_parts now.behind ++ ps) (behind-parts before.behind.turned parts is.turned) in
    let split = split-fit P (side_parts now.behind) (reverse parts)
    (All-same P (side_parts now.behind ++ reverse parts) (side_parts before.behind) (sym behind) is.behind) in
    let fits_same : PartFits now.old_len (length now.fresh.items)
    ≡ P = ap₂ (λ n xs. PartFits n (length xs)) old_len fresh in
    let front_len : parts_len (side_parts now.front) ≡ parts_len (side_parts before.front) + parts_len parts =
    ap parts_len front ∙ len-append (side_parts before.front) parts in
    let behind_len : parts_len (side_parts before.behind) ≡ parts_len (side_parts now.behind) + parts_len parts =
    ap parts_len behind ∙ len-append (side_parts now.behind) (reverse parts)
    ∙ ap (λ n. parts_len (side_parts now.behind) + n) (turned-len true parts) in
    let place = is.place in let whole = is.whole in let counted = block.counted in
    record {
      is = record {
        front = subst (λ (Q : Part → Type 0). All Q (side_parts now.front)) (sym fits_same)
            (All-same P (side_parts now.front) (side_parts before.front ++ parts) front
            (All-append P (side_parts before.front) parts is.front (All-same P parts (reverse (reverse parts))
            (sym (reverse-reverse parts)) (reverse-fit P (reverse parts) split.1))));
        behind = subst (λ (Q : Part → Type 0). All Q (side_parts now.behind)) (sym fits_same) split.0;
        place = omega (arith, front_len, place, at, counted);
        whole = omega (arith, behind_len, place, whole, at, len, counted);
        fits = let fits = is.fits in omega (arith, fits, len);
        ahead = ways.ahead ∙ is.ahead;
        turned = ways.turned ∙ is.turned;
        rising = rise-along before.old_len now.old_len (side_parts before.front) (side_parts now.behind) parts
            (side_parts now.front) (side_parts before.behind) old_len front behind is.rising;
      };
      old_len = old_len;
      len = len;
      cells = λ old.
          ap₂ (λ new parts. front_cells old new parts ++ behind_cells old new (side_parts now.behind)) fresh front
          ∙ cells-across old before.fresh.items (side_parts before.front) (side_parts now.behind) parts
          ∙ ap (λ parts. front_cells old before.fresh.items (side_parts before.front)
          ++ behind_cells old before.fresh.items parts) (sym behind);
    }

-- ---- how long the parts are

pub front-length : (old : List Cell) (new : List ℕ) (parts : List Part) →
    All (PartFits (length old) (length new)) parts → length (front_cells old new parts) ≡ parts_len parts
front-length old new [] fit = refl
front-length old new (part ∷ parts) fit =
    length-append (part_cells old new part) (front_cells old new parts)
    ∙ ap₂ (λ m n. m + n) (part-length old new part (All-head (PartFits (length old) (length new)) part parts fit))
    (front-length old new parts (All-tail (PartFits (length old) (length new)) part parts fit))
    ∙ sym (sum_by-cons (λ (p : Part). p.to - p.from) part parts)

pub behind-length : (old : List Cell) (new : List ℕ) (parts : List Part) →
    All (PartFits (length old) (length new)) parts → length (behind_cells old new parts) ≡ parts_len parts
behind-length old new [] fit = refl
behind-length old new (part ∷ parts) fit =
    let one = part-length old new part (All-head (PartFits (length old) (length new)) part parts fit) in
    let others = behind-length old new parts (All-tail (PartFits (length old) (length new)) part parts fit) in
    let both = length-append (behind_cells old new parts) (part_cells old new part) in
    let counted = sum_by-cons (λ (p : Part). p.to - p.from) part parts in
    omega (arith, one, others, both, counted)

-- the old text is as long as it was
abbrev pub Fit : Cursor → List Cell → List Part → Type 0
Fit cursor old parts = All (PartFits (length old) (length cursor.fresh.items)) parts

pub same-fit : (cursor : Cursor) (old : List Cell) (parts : List Part) → length old ≡ cursor.old_len →
    All (PartFits cursor.old_len (length cursor.fresh.items)) parts → Fit cursor old parts
same-fit cursor old parts long fit = subst (λ n. All (PartFits n (length cursor.fresh.items)) parts) (sym long) fit

pub place-is : {cursor : Cursor} (old : List Cell) → IsCursor cursor → length old ≡ cursor.old_len →
    length (front_cells old cursor.fresh.items (side_parts cursor.front)) ≡ cursor.at
place-is {cursor} old is long = front-length old cursor.fresh.items (side_parts cursor.front)
    (same-fit cursor old (side_parts cursor.front) long is.front) ∙ is.place

pub whole-is : (cursor : Cursor) (old : List Cell) → IsCursor cursor → length old ≡ cursor.old_len →
    length (cursor_cells old cursor) ≡ cursor.len
whole-is cursor old is long =
    length-append (front_cells old cursor.fresh.items (side_parts cursor.front))
    (behind_cells old cursor.fresh.items (side_parts cursor.behind)) ∙ ap₂ (λ m n. m + n) (place-is old is long)
    (behind-length old cursor.fresh.items (side_parts cursor.behind)
    (same-fit cursor old (side_parts cursor.behind) long is.behind))
    ∙ is.whole

-- ---- what is behind the place is taken out

-- the rest of a list behind a front
removed-behind : {A : Type 0} (xs ys zs : List A) (n m : ℕ) → length xs ≡ n → length ys ≡ m →
    xs ++ zs ≡ removed n (n + m) (xs ++ (ys ++ zs))
removed-behind xs ys zs n m front_is part_is =
    ap₂ (λ a b. a ++ b) (sym (take_at xs (ys ++ zs) n front_is))
    (sym (ap (drop (n + m)) (sym (append_assoc xs ys zs))
    ∙ drop_at (xs ++ ys) zs (n + m) (length-append xs ys ∙ ap₂ (λ a b. a + b) front_is part_is)))

removed-none : {A : Type 0} (n : ℕ) (xs : List A) (m : ℕ) → m ≡ 0 → xs ≡ removed n (n + m) xs
removed-none n xs m none =
    sym (ap (λ k. take n xs ++ drop k xs) (let e : n + m ≡ n = omega (arith, none) in e) ∙ take-append-drop n xs)

removed-twice : {A : Type 0} (at n m : ℕ) (xs : List A) → at ≤ length xs →
    removed at (at + m) (removed at (at + n) xs) ≡ removed at (at + (n + m)) xs
removed-twice at n m xs within =
    ap₂ (λ a b. a ++ b) (take-removed at (at + n) xs at within (omega arith))
    (drop-removed at (at + n) xs (at + m) within (omega arith) (omega arith)
    ∙ ap (λ k. drop k xs) (let e : at + m + (at + n - at) ≡ at + (n + m) = omega arith in e))

pub takes-none : {before : Cursor} → IsCursor before → Takes before before
takes-none {before} is = record {
  is = is;
  old_len = refl;
  at = refl;
  fewer = omega arith;
  cells = λ old long. removed-none before.at (cursor_cells old before) (before.len - before.len) (omega arith);
}

pub takes-both : {first before now : Cursor} → IsCursor first → Takes first before → Takes before now → Takes first now
takes-both {first} {before} {now} is one two =
    let a = one.fewer in let b = two.fewer in
    record {
      is = two.is;
      old_len = two.old_len ∙ one.old_len;
      at = two.at ∙ one.at;
      fewer = omega (arith, a, b);
      cells = λ old long.
          let whole = whole-is first old is long in
          let sum = is.whole in
          two.cells old (long ∙ sym one.old_len)
          ∙ ap (λ n. removed n (n + (before.len - now.len)) (cursor_cells old before)) one.at
          ∙ ap (removed first.at (first.at + (before.len - now.len))) (one.cells old long)
          ∙ removed-twice first.at (first.len - before.len) (before.len - now.len) (cursor_cells old first)
          (omega (arith, whole, sum))
          ∙ ap (λ n. removed first.at (first.at + n) (cursor_cells old first))
          (let e : first.len - before.len + (before.len - now.len) ≡ first.len - now.len = omega (arith, a, b) in
          e);
    }

pub takes-part : {before now : Cursor} (part : Part) → IsCursor before → SameWays before now →
    side_parts before.behind ≡ side_parts now.behind ++ part ∷ []
    → side_parts now.front ≡ side_parts before.front →
    now.fresh.items ≡ before.fresh.items
    → now.old_len ≡ before.old_len → now.at ≡ before.at → now.len ≡ before.len - (part.to - part.from) →
    Takes before now
takes-part {before} {now} part is ways behind front fresh old_len at len =
    let P = PartFits before.old_len (length before.fresh.items) in
    let parts = popped P (side_parts before.behind) (side_parts now.behind) part behind is.behind in
    let fits_same : PartFits now.old_len (length now.fresh.items)
    ≡ P = ap₂ (λ n xs. PartFits n (length xs)) old_len fresh in
    let behind_len : parts_len (side_parts before.behind) ≡ parts_len (side_parts now.behind)
    + (part.to - part.from) = ap parts_len behind ∙ len-push (side_parts now.behind) part in
    let whole = is.whole in
    record {
      is = record {
        front = subst (λ (Q : Part → Type 0). All Q (side_parts now.front)) (sym fits_same)
            (All-same P (side_parts now.front) (side_parts before.front) front is.front);
        behind = subst (λ (Q : Part → Type 0). All Q (side_parts now.behind)) (sym fits_same) parts.0;
        place = ap parts_len front ∙ is.place ∙ sym at;
        whole = omega (arith, behind_len, whole, at, len);
        fits = let fits = is.fits in omega (arith, fits, len);
        ahead = ways.ahead ∙ is.ahead;
        turned = ways.turned ∙ is.turned;
        rising = rise-dropped before.old_len now.old_len (side_parts before.front) (side_parts now.behind) part
            (side_parts before.behind) (side_parts now.front) old_len parts.1.some behind front is.rising;
      };
      old_len = old_len;
      at = at;
      fewer = omega (arith, len);
      cells = λ old long.
          let new = before.fresh.items in
          ap₂ (λ fs ps. front_cells old fs ps ++ behind_cells old fs (side_parts now.behind)) fresh front
          ∙ removed-behind (front_cells old new (side_parts before.front)) (part_cells old new part)
          (behind_cells old new (side_parts now.behind)) before.at (before.len - now.len) (place-is old is long)
          (part-length old new part (subst (λ n. PartFits n (length new) part) (sym long) parts.1)
          ∙ omega (arith, behind_len, whole, len))
          ∙ ap (λ cells. removed before.at (before.at + (before.len - now.len))
          (front_cells old new (side_parts before.front) ++ cells))
          (sym (behind-push old new (side_parts now.behind) part)
          ∙ ap (behind_cells old new) (sym behind));
    }

pub takes-some : {before now : Cursor} (part : Part) (rest : List Part) (most : ℕ) → IsCursor before →
    SameWays before now →
    side_parts before.behind ≡ rest ++ part ∷ [] → most < part.to - part.from
    → side_parts now.behind ≡ rest ++ record part { from = part.from + most } ∷ [] →
    side_parts now.front ≡ side_parts before.front →
    now.fresh.items ≡ before.fresh.items
    → now.old_len ≡ before.old_len → now.at ≡ before.at → now.len ≡ before.len - most → Takes before now
takes-some {before} {now} part rest most is ways behind short behind_is front fresh old_len at len =
    let P = PartFits before.old_len (length before.fresh.items) in
    let parts = popped P (side_parts before.behind) rest part behind is.behind in
    let fits = parts.1 in let within = fits.within in
    let first : Part = record part { to = part.from + most } in
    let last : Part = record part { from = part.from + most } in
    let fits_same : PartFits now.old_len (length now.fresh.items)
    ≡ P = ap₂ (λ n xs. PartFits n (length xs)) old_len fresh in
    let old_behind : parts_len (side_parts before.behind) ≡ parts_len rest + (part.to - part.from) = ap parts_len behind
    ∙ len-push rest part in
    let behind_len : parts_len (side_parts now.behind) ≡ parts_len rest
    + (part.to - (part.from + most)) = ap parts_len behind_is ∙ len-push rest last in
    let whole = is.whole in
    record {
      is = record {
        front = subst (λ (Q : Part → Type 0). All Q (side_parts now.front)) (sym fits_same)
            (All-same P (side_parts now.front) (side_parts before.front) front is.front);
        behind = subst (λ (Q : Part → Type 0). All Q (side_parts now.behind)) (sym fits_same)
            (All-same P (side_parts now.behind) (rest ++ last ∷ []) behind_is
            (All-push P rest last parts.0 (record { some = omega (arith, short); within = within })));
        place = ap parts_len front ∙ is.place ∙ sym at;
        whole = omega (arith, old_behind, behind_len, whole, at, len, short);
        fits = let fits = is.fits in omega (arith, fits, len);
        ahead = ways.ahead ∙ is.ahead;
        turned = ways.turned ∙ is.turned;
        rising = rise-trimmed before.old_len now.old_len (side_parts before.front) rest part (part.from + most)
            (side_parts before.behind) (side_parts now.front) (side_parts now.behind) old_len (omega arith) behind
            front behind_is is.rising;
      };
      old_len = old_len;
      at = at;
      fewer = omega (arith, len);
      cells = λ old long.
          let new = before.fresh.items in
          let source = source_len part.slots (length old) (length new) in
          let inside : part.to ≤ source = subst (λ n. part.to
          ≤ source_len part.slots n (length new)) (sym long) within in
          let gone : length (part_cells old new first) ≡ before.len - now.len =
          between-length part.slots old new part.from (part.from + most) (omega arith) (omega (arith, short, inside))
          ∙ omega (arith, whole, old_behind, len, short) in
          ap₂ (λ fs ps. front_cells old fs ps ++ behind_cells old fs (side_parts now.behind)) fresh front
          ∙ ap (λ cells. front_cells old new (side_parts before.front) ++ cells) (ap (behind_cells old new) behind_is
          ∙ behind-push old new rest last)
          ∙ removed-behind (front_cells old new (side_parts before.front)) (part_cells old new first)
          (part_cells old new last ++ behind_cells old new rest) before.at (before.len - now.len)
          (place-is old is long) gone ∙ ap (λ cells. removed before.at (before.at + (before.len - now.len))
          (front_cells old new (side_parts before.front) ++ cells))
          (sym (append_assoc (part_cells old new first) (part_cells old new last) (behind_cells old new rest))
          ∙ ap (λ cells. cells ++ behind_cells old new rest)
          (part-join old new part (part.from + most) (omega arith) (omega (arith, short)))
          ∙ sym (behind-push old new rest part) ∙ ap (behind_cells old new) (sym behind));
    }

-- ---- a text is put in

-- more new characters change no part
between-more : (slots : Option Slots) (old : List Cell) (new more : List ℕ) (from to : ℕ) → from ≤ to →
    to ≤ source_len slots (length old) (length new)
    → cells_between slots old (new ++ more) from to ≡ cells_between slots old new from to
between-more None old new more from to ordered within = refl
between-more (Some slots) old new more from to ordered within =
    ap (λ text. cells_of text slots) (slice-more from to new more ordered within)

front-more : (old : List Cell) (new more : List ℕ) (parts : List Part) →
    All (PartFits (length old) (length new)) parts → front_cells old (new ++ more) parts ≡ front_cells old new parts
front-more old new more [] fit = refl
front-more old new more (part ∷ parts) fit =
    let one = All-head (PartFits (length old) (length new)) part parts fit in let some = one.some in
    ap₂ (λ a b. a ++ b) (between-more part.slots old new more part.from part.to (omega (arith, some)) one.within)
    (front-more old new more parts (All-tail (PartFits (length old) (length new)) part parts fit))

behind-more : (old : List Cell) (new more : List ℕ) (parts : List Part) →
    All (PartFits (length old) (length new)) parts → behind_cells old (new ++ more) parts ≡ behind_cells old new parts
behind-more old new more [] fit = refl
behind-more old new more (part ∷ parts) fit =
    let one = All-head (PartFits (length old) (length new)) part parts fit in let some = one.some in
    ap₂ (λ a b. a ++ b) (behind-more old new more parts (All-tail (PartFits (length old) (length new)) part parts fit))
    (between-more part.slots old new more part.from part.to (omega (arith, some)) one.within)

source-more : (slots : Option Slots) (old new more to : ℕ) → to ≤ source_len slots old new →
    to ≤ source_len slots old (new + more)
source-more None old new more to within = within
source-more (Some slots) old new more to within = omega (arith, within)

fit-more : (old : ℕ) (new more : List ℕ) (parts : List Part) → All (PartFits old (length new)) parts →
    All (PartFits old (length (new ++ more))) parts
fit-more old new more parts fit =
    let Q = PartFits old (length (new ++ more)) in
    All-weaker (PartFits old (length new)) Q
    (λ part fits. record {
      some = fits.some;
      within = subst (λ n. part.to ≤ source_len part.slots old n) (sym (length-append new more))
          (source-more part.slots old (length new) (length more) part.to fits.within);
    }) parts fit

put-in : {A : Type 0} (xs ys zs : List A) (n : ℕ) → length xs ≡ n → xs ++ ys ++ zs ≡ inserted n ys (xs ++ zs)
put-in xs ys zs n is = ap₂ (λ a b. a ++ ys ++ b) (sym (take_at xs zs n is)) (sym (drop_at xs zs n is))

pub puts-none : {before : Cursor} (text : List ℕ) (slots : Slots) → IsCursor before → length text ≡ 0 →
    Puts text slots before before
puts-none {before} text slots is none = record {
  is = is;
  old_len = refl;
  len = omega (arith, none);
  cells = λ old long.
      sym (ap (λ (ts : List ℕ). inserted before.at (cells_of ts slots) (cursor_cells old before))
      (nil_from_length text none)
      ∙ ap (λ cells. cells ++ drop before.at (cursor_cells old before))
      (append-nil (take before.at (cursor_cells old before)))
      ∙ take-append-drop before.at (cursor_cells old before));
}

pub puts-some : {before now : Cursor} (text : List ℕ) (slots : Slots) → IsCursor before → 0 < length text →
    SameWays before now →
    now.fresh.items ≡ before.fresh.items ++ text
    → side_parts now.front ≡ side_parts before.front ++ record {
      from = length before.fresh.items;
      to = length now.fresh.items;
      slots = Some slots;
    } ∷ []
    → side_parts now.behind ≡ side_parts before.behind → now.old_len ≡ before.old_len →
    now.at ≡ before.at + length text →
    now.len ≡ before.len + length text → before.len + length text < 2 ^ 64 → Puts text slots before now
puts-some {before} {now} text slots is some ways fresh front behind old_len at len small =
    let new = before.fresh.items in
    let longer : length now.fresh.items ≡ length new + length text = ap length fresh ∙ length-append new text in
    let part : Part = record { from = length new; to = length now.fresh.items; slots = Some slots } in
    let P = PartFits before.old_len (length (new ++ text)) in
    let fits_same : PartFits now.old_len (length now.fresh.items)
    ≡ P = ap₂ (λ n xs. PartFits n (length xs)) old_len fresh in
    let fits : P part = record {
      some = omega (arith, longer, some);
      within = let h = length-append new text in
          omega (arith, longer, h);
    } in
    let front_len : parts_len (side_parts now.front) ≡ parts_len (side_parts before.front)
    + (length now.fresh.items - length new) = ap parts_len front ∙ len-push (side_parts before.front) part in
    let place = is.place in let whole = is.whole in
    record {
      is = record {
        front = subst (λ (Q : Part → Type 0). All Q (side_parts now.front)) (sym fits_same)
            (All-same P (side_parts now.front) (side_parts before.front ++ part ∷ []) front
            (All-push P (side_parts before.front) part
            (fit-more before.old_len new text (side_parts before.front) is.front) fits));
        behind = subst (λ (Q : Part → Type 0). All Q (side_parts now.behind)) (sym fits_same)
            (All-same P (side_parts now.behind) (side_parts before.behind) behind
            (fit-more before.old_len new text (side_parts before.behind) is.behind));
        place = omega (arith, front_len, place, at, longer);
        whole = let same = ap parts_len behind in omega (arith, same, whole, at, len);
        fits = omega (arith, small, len);
        ahead = ways.ahead ∙ is.ahead;
        turned = ways.turned ∙ is.turned;
        rising = rise-put before.old_len now.old_len (side_parts before.front) (side_parts before.behind) (length new)
            (length now.fresh.items) slots (side_parts now.front) (side_parts now.behind) old_len front behind
            is.rising;
      };
      old_len = old_len;
      len = len;
      cells = λ old long.
          let f = same-fit before old (side_parts before.front) long is.front in
          let b = same-fit before old (side_parts before.behind) long is.behind in
          ap₂ (λ fs ps. front_cells old fs ps ++ behind_cells old fs (side_parts now.behind)) fresh front
          ∙ ap (λ ps. front_cells old (new ++ text) (side_parts before.front ++ part ∷ [])
          ++ behind_cells old (new ++ text) ps) behind
          ∙ ap₂ (λ a c. a ++ c)
          (front-push old (new ++ text) (side_parts before.front) part
          ∙ ap₂ (λ a c. a ++ c) (front-more old new text (side_parts before.front) f)
          (ap (λ ts. cells_of ts slots) (ap (slice_range (new ++ text) (length new)) longer ∙ slice-last new text)))
          (behind-more old new text (side_parts before.behind) b)
          ∙ put-in (front_cells old new (side_parts before.front)) (cells_of text slots)
          (behind_cells old new (side_parts before.behind)) before.at (place-is old is long);
    }

-- ---- what the text is made of

-- both sides emptied, the one before the place turned
pub made-of : (cursor : Cursor) (none first turned all : List Part) → none ≡ []
    → first ≡ none ++ reverse (side_parts cursor.front) → turned ≡ reverse first
    → all ≡ turned ++ reverse (side_parts cursor.behind) → all ≡ cursor_parts cursor
made-of cursor none first turned all none_is first_is turned_is all_is =
    let front = side_parts cursor.front in
    all_is ∙ ap (λ ps. ps ++ reverse (side_parts cursor.behind))
    (turned_is ∙ ap reverse (first_is ∙ ap (λ ps. ps ++ reverse front) none_is) ∙ reverse-reverse front)

pub parts-fit : {cursor : Cursor} (all : List Part) → IsCursor cursor → all ≡ cursor_parts cursor →
    All (PartFits cursor.old_len (length cursor.fresh.items)) all
parts-fit {cursor} all is all_is =
    let P = PartFits cursor.old_len (length cursor.fresh.items) in
    let front = side_parts cursor.front in let behind = side_parts cursor.behind in
    All-same P all (cursor_parts cursor) all_is
    (All-append P front (reverse behind) is.front (reverse-fit P behind is.behind))

front-reverse : (old : List Cell) (new : List ℕ) (parts : List Part) →
    front_cells old new (reverse parts) ≡ behind_cells old new parts
front-reverse old new parts =
    sym (behind-reverse old new (reverse parts)) ∙ ap (behind_cells old new) (reverse-reverse parts)

pub parts-cells : (old : List Cell) (cursor : Cursor) (all : List Part) → all ≡ cursor_parts cursor →
    front_cells old cursor.fresh.items all ≡ cursor_cells old cursor
parts-cells old cursor all all_is =
    let new = cursor.fresh.items in let front = side_parts cursor.front in let behind = side_parts cursor.behind in
    ap (front_cells old new) all_is ∙ front-append old new front (reverse behind)
    ∙ ap (λ cells. front_cells old new front ++ cells) (front-reverse old new behind)
