-- Spots: where a text ends, and where a place is, by what stands before it.
use Rattle.edit_ops.proofs.Common.{◌≡◌, ℕ, zero, suc, ◌+◌, ◌-◌, ◌*◌, ◌^◌, ◌<◌, ◌≤◌, true, false, cond, List, [], ◌∷◌}
use Rattle.edit_ops.proofs.Common.{◌++◌, length, take, drop, get_or, refl, sym, ap, ap₂, ◌∙◌, arith, subst, append-nil}
use Rattle.edit_ops.proofs.Common.{slice_range, encode_utf8_all, encode_utf8, nat_lt, sum_by, if◌then◌else◌, len_utf8}
use Rattle.edit_ops.proofs.Common.{nat_tests, take-add, take_all, take-take, length-map, length-drop, drop-append-le}
use Rattle.edit_ops.proofs.Common.{append_assoc, drop_all, drop_more, length-take-le, take_more, sum_by_push}
use Rattle.edit_ops.proofs.Common.{sum_by-cons, encodes-append, length-encode, len_utf8_bounds, Cell, characters}
use Rattle.edit_ops.proofs.Common.{is_newline, lines, line_of, line_start, lines-cons, lines-append, line_start-le}
use Rattle.edit_ops.proofs.Common.{lines-le-length, line-append-same, line-front, Spot, units_of, line_front, spot_at}
use Rattle.edit_ops.proofs.Common.{end_of, HasRoom, length-take, length-append, between_is}
use Rattle.edit_ops.proofs.StartLaws.{is-start, line-begins, line_of-le}

-- a spot by the line's number and what stands before it there
abbrev spot_of : ℕ → List ℕ → Spot
spot_of line front = record {
  line = line + 1;
  column = length front;
  bytes = length (encode_utf8_all front);
  units = sum_by units_of front;
}

-- ---- what stands before a place says where it is

pub spot-same : (text other : List ℕ) (offset : ℕ) → take offset text ≡ take offset other →
    spot_at text offset ≡ spot_at other offset
spot-same text other offset same =
    let start = line_start (line_of text offset) text in
    let begins = line_start (line_of other offset) other in
    ap (spot_of (line_of text offset)) (between_is text start offset)
    ∙ ap (λ n. spot_of (line_of text offset) (drop n (take offset text))) (line-front text other offset same)
    ∙ ap (λ front. spot_of (lines front) (drop begins front)) same
    ∙ sym (ap (spot_of (line_of other offset)) (between_is other begins offset))

pub spot-end : (text : List ℕ) (offset : ℕ) → offset ≤ length text → spot_at text offset ≡ end_of (take offset text)
spot-end text offset within =
    spot-same text (take offset text) offset (sym (take-take offset offset text (omega arith)))
    ∙ ap (spot_at (take offset text)) (sym (length-take-le offset text within))

end-is : (text : List ℕ) → end_of text ≡ spot_of (lines text) (drop (line_start (lines text) text) text)
end-is text =
    ap (spot_of (line_of text (length text)))
    (between_is text (line_start (line_of text (length text)) text) (length text))
    ∙ ap (λ front. spot_of (lines front) (drop (line_start (lines front) text) front))
    (take_all (length text) text (omega arith))

-- ---- one character more

abbrev pub first_of : ℕ → Spot
first_of line = record { line = line; column = 0; bytes = 0; units = 0 }

abbrev pub grown : ℕ → Spot → Spot
grown c spot = record {
  line = spot.line;
  column = spot.column + 1;
  bytes = spot.bytes + length (encode_utf8 c);
  units = spot.units + units_of c;
}

newline-start : (c : ℕ) (text : List ℕ) → is_newline c ≡ true →
    line_start (suc (lines text)) (text ++ c ∷ []) ≡ suc (length text)
newline-start c [] is = ap (λ b. 1 + line_start (if b then 0 else 1) []) is
newline-start c (d ∷ text) is =
    elim (is_newline d) as (λ b. (n : ℕ) → n ≡ cond b 1 0 + lines text →
    1 + line_start (if b then n else suc n) (text ++ c ∷ []) ≡ suc (suc (length text))) [
      | true ↦ λ n counted. ap (λ k. 1 + line_start k (text ++ c ∷ []))
          (let e : n ≡ suc (lines text) = omega (arith, counted) in e)
          ∙ ap (λ k. 1 + k) (newline-start c text is) ∙ omega arith
      | false ↦ λ n counted. ap (λ k. 1 + line_start (suc k) (text ++ c ∷ []))
          (let e : n ≡ lines text = omega (arith, counted) in e)
          ∙ ap (λ k. 1 + k) (newline-start c text is) ∙ omega arith
    ] (lines (d ∷ text)) (lines-cons d text)

lines-push : (c : ℕ) (text : List ℕ) → lines (text ++ c ∷ []) ≡ lines text + cond (is_newline c) 1 0
lines-push c text = omega (arith, lines-append text (c ∷ []), lines-cons c [])

pub end-newline : (c : ℕ) (text : List ℕ) → is_newline c ≡ true →
    end_of (text ++ c ∷ []) ≡ first_of ((end_of text).line + 1)
end-newline c text is =
    let whole = text ++ c ∷ [] in
    let counted : lines whole ≡ suc (lines text) = lines-push c text
    ∙ ap (λ b. lines text + cond b 1 0) is ∙ omega arith in
    let start : line_start (lines whole) whole ≡ length whole = ap (λ n. line_start n whole) counted
    ∙ newline-start c text is ∙ sym (length-append text (c ∷ []) ∙ omega arith) in
    let none : drop (line_start (lines whole) whole) whole ≡ [] =
    drop_all (line_start (lines whole) whole) whole (omega (arith, start)) in
    end-is whole ∙ ap (spot_of (lines whole)) none
    ∙ ap (λ n. first_of (n + 1)) (counted ∙ ap (λ n. suc n) (ap lines (sym (take_all (length text) text (omega arith))))
    ∙ omega arith)

-- the bytes of a text with one character more
pub bytes-push : (front : List ℕ) (c : ℕ)
    → length (encode_utf8_all (front ++ c ∷ [])) ≡ length (encode_utf8_all front) + length (encode_utf8 c)
bytes-push front c =
    ap length (encodes-append front (c ∷ []))
    ∙ length-append (encode_utf8_all front) (encode_utf8_all (c ∷ []))
    ∙ ap (λ xs. length (encode_utf8_all front) + length xs) (append-nil (encode_utf8 c))

spot-push : (line c : ℕ) (front : List ℕ) → spot_of line (front ++ c ∷ []) ≡ grown c (spot_of line front)
spot-push line c front =
    let column : length (front ++ c ∷ []) ≡ length front + 1 = length-append front (c ∷ []) in
    let bytes = bytes-push front c in
    let units : sum_by units_of (front ++ c ∷ []) ≡ sum_by units_of front + units_of c =
    sum_by_push units_of front c in
    λ i. record { line = line + 1; column = column i; bytes = bytes i; units = units i }

pub end-other : (c : ℕ) (text : List ℕ) → is_newline c ≡ false → end_of (text ++ c ∷ []) ≡ grown c (end_of text)
end-other c text other =
    let whole = text ++ c ∷ [] in
    let begins = line_start (lines text) text in
    let counted : lines whole ≡ lines text = lines-push c text
    ∙ ap (λ b. lines text + cond b 1 0) other ∙ omega arith in
    let start : line_start (lines whole) whole ≡ begins = ap (λ n. line_start n whole) counted
    ∙ line-append-same text (c ∷ []) [] ∙ ap (line_start (lines text)) (append-nil text) in
    let front : drop (line_start (lines whole) whole) whole ≡ drop begins text ++ c ∷ [] = ap (λ n. drop n whole) start
    ∙ drop-append-le begins text (c ∷ []) (line_start-le text (lines text)) in
    end-is whole ∙ ap₂ spot_of counted front ∙ spot-push (lines text) c (drop begins text)
    ∙ ap (grown c) (sym (end-is text))

pub newline-no : (c : ℕ) → (c ≡ 10 → ⊥) → is_newline c ≡ false
newline-no c other = grind (arith, nat_tests)

units-is : (c units : ℕ) → (c < 65536 → units ≡ 1) → (65536 ≤ c → units ≡ 2) → units ≡ units_of c
units-is c units one two = grind (arith, nat_tests)

pub grown-is : (c bytes units : ℕ) (old spot : Spot) → old ≡ spot → bytes ≡ length (encode_utf8 c) →
    (c < 65536 → units ≡ 1) → (65536 ≤ c → units ≡ 2)
    → record {
      line = old.line;
      column = old.column + 1;
      bytes = old.bytes + bytes;
      units = old.units + units;
    } ≡ grown c spot
grown-is c bytes units old spot is bytes_is one two =
    let units_is = units-is c units one two in
    λ i. record {
      line = (is i).line;
      column = (is i).column + 1;
      bytes = (is i).bytes + bytes_is i;
      units = (is i).units + units_is i;
    }

-- ---- where a line begins

start-number : (text : List ℕ) (line : ℕ) → line ≤ lines text → line_of text (line_start line text) ≡ line
start-number text zero within = refl
start-number [] (suc line) within = absurd (omega arith)
start-number (c ∷ text) (suc line) within =
    elim (is_newline c) as (λ b. is_newline c ≡ b → lines (c ∷ text) ≡ cond b 1 0 + lines text →
    line_of (c ∷ text) (1 + line_start (if b then line else suc line) text) ≡ suc line) [
      | true ↦ λ is counted. let at = line_start line text in
          ap (line_of (c ∷ text)) (let e : 1 + at ≡ suc at = omega arith in e) ∙ lines-cons c (take at text)
          ∙ ap (λ b. cond b 1 0 + line_of text at) is
          ∙ ap (λ n. 1 + n) (start-number text line (omega (arith, within, counted))) ∙ omega arith
      | false ↦ λ other counted. let at = line_start (suc line) text in
          ap (line_of (c ∷ text)) (let e : 1 + at ≡ suc at = omega arith in e) ∙ lines-cons c (take at text)
          ∙ ap (λ b. cond b 1 0 + line_of text at) other
          ∙ (let e : 0 + line_of text at ≡ line_of text at = omega arith in e)
          ∙ start-number text (suc line) (omega (arith, within, counted))
    ] refl (lines-cons c text)

pub start-spot : (text : List ℕ) (offset : ℕ) →
    spot_at text (line_start (line_of text offset) text) ≡ first_of (line_of text offset + 1)
start-spot text offset =
    let start = line_start (line_of text offset) text in
    let stands = is-start text start (line-begins text offset) in
    let none : start - line_start (line_of text start) text ≡ 0 = omega (arith, stands.begins) in
    ap (λ n. spot_of (line_of text start) (take n (drop (line_start (line_of text start) text) text))) none
    ∙ ap (λ n. first_of (n + 1)) (start-number text (line_of text offset) (line_of-le text offset))

pub start-at : (text : List ℕ) (offset number start : ℕ) (spot : Spot) → spot ≡ first_of (number + 1) →
    number ≡ line_of text offset → start ≡ line_start number text → spot ≡ spot_at text start
start-at text offset number start spot is number_is start_is =
    is ∙ ap (λ n. first_of (n + 1)) number_is ∙ sym (start-spot text offset)
    ∙ ap (λ n. spot_at text (line_start n text)) (sym number_is) ∙ ap (spot_at text) (sym start_is)

-- ---- how much can be added to a spot

bytes-le : (text : List ℕ) → length (encode_utf8_all text) ≤ 4 * length text
bytes-le [] = omega arith
bytes-le (c ∷ text) = omega (
  arith,
  length-append (encode_utf8 c) (encode_utf8_all text),
  length-encode c,
  (len_utf8_bounds c).1,
  bytes-le text,
)

unit-le : (c : ℕ) → units_of c ≤ 2
unit-le c = elim (nat_lt c 65536) as (λ b. (if b then 1 else 2) ≤ 2) [ true ↦ omega arith | false ↦ omega arith ]

units-le : (text : List ℕ) → sum_by units_of text ≤ 2 * length text
units-le [] = omega arith
units-le (c ∷ text) = omega (arith, sum_by-cons units_of c text, unit-le c, units-le text)

pub spot-room : (text : List ℕ) (offset : ℕ) → length text ≤ 2 ^ 60 → HasRoom (spot_at text offset) (2 ^ 63)
spot-room text offset short =
    let front = line_front text offset in
    let start = line_start (line_of text offset) text in
    let long : length front ≤ length text =
    omega (arith, length-take (offset - start) (drop start text), length-drop start text) in
    let line : line_of text offset ≤ length text =
    omega (arith, lines-le-length (take offset text), length-take offset text) in
    record {
      line = omega (arith, line, short);
      column = omega (arith, long, short);
      bytes = omega (arith, bytes-le front, long, short);
      units = omega (arith, units-le front, long, short);
    }

pub room-less : (spot : Spot) (count less : ℕ) → HasRoom spot count → less ≤ count → HasRoom spot less
room-less spot count less room fewer = record {
  line = omega (arith, room.line, fewer);
  column = omega (arith, room.column, fewer);
  bytes = omega (arith, room.bytes, fewer);
  units = omega (arith, room.units, fewer);
}

pub spot-along : (text piece : List ℕ) (from to : ℕ) (spot found : Spot) → from ≤ to → to ≤ length text
    → spot ≡ spot_at text from → piece ≡ slice_range text from to
    → ((before : List ℕ) → spot ≡ end_of before → found ≡ end_of (before ++ piece)) → found ≡ spot_at text to
spot-along text piece from to spot found ordered within is piece_is ends =
    let front : take to text ≡ take from text ++ slice_range text from to =
    ap (λ n. take n text) (let e : to ≡ from + (to - from) = omega (arith, ordered) in e)
    ∙ take-add from (to - from) text in
    ends (take from text) (is ∙ spot-end text from (omega (arith, ordered, within)))
    ∙ ap (λ xs. end_of (take from text ++ xs)) piece_is ∙ sym (ap end_of front) ∙ sym (spot-end text to within)

pub room-at : (cells : List Cell) (offset count : ℕ) (spot : Spot) → length cells ≤ 2 ^ 60
    → spot ≡ spot_at (characters cells) offset → count ≤ 2 ^ 63 → HasRoom spot count
room-at cells offset count spot short is fewer =
    room-less spot (2 ^ 63) count
    (subst (λ s. HasRoom s (2 ^ 63)) (sym is)
    (spot-room (characters cells) offset (omega (arith, length-map cells (λ (cell : Cell). cell.character), short))))
    fewer

-- ---- a text's characters, one after the other

abbrev rest_of : List ℕ → ℕ → ℕ
rest_of text index = length (encode_utf8_all (drop index text))

pub rest-more : (text : List ℕ) (index c : ℕ) → (index < length text) × (c ≡ get_or text index c) →
    rest_of text index ≡ len_utf8 c + rest_of text (index + 1)
rest-more text index c at =
    ap (λ front. length (encode_utf8_all front)) (drop_more text index c at.0)
    ∙ ap (λ d. length (encode_utf8_all (d ∷ drop (index + 1) text))) (sym at.1)
    ∙ length-append (encode_utf8 c) (encode_utf8_all (drop (index + 1) text))
    ∙ ap (λ n. n + rest_of text (index + 1)) (length-encode c)

pub front-more : (before text : List ℕ) (index next c : ℕ) → (index < length text) × (c ≡ get_or text index c) →
    next ≡ index + 1 → (before ++ take index text) ++ c ∷ [] ≡ before ++ take next text
front-more before text index next c at is =
    append_assoc before (take index text) (c ∷ [])
    ∙ ap (λ d. before ++ (take index text ++ d ∷ [])) at.1
    ∙ ap (λ front. before ++ front) (sym (take_more text index c at.0))
    ∙ ap (λ n. before ++ take n text) (sym is)
