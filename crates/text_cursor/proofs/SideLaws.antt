-- The parts on one side of a place stay the same when blocks are made of them, or taken apart.
use Rattle.text_cursor.proofs.Common.{◌≡◌, ℕ, ◌+◌, ◌-◌, ◌<◌, Bool, true, false, List, [], ◌∷◌, ◌++◌, Option, Some, None}
use Rattle.text_cursor.proofs.Common.{length, take, drop, get_or, refl, sym, ap, ap₂, ◌∙◌, arith, subst, append_assoc}
use Rattle.text_cursor.proofs.Common.{length-append, reverse, option_to_list, IfSome, append-nil, reverse-append}
use Rattle.text_cursor.proofs.Common.{reverse-reverse, length-reverse, take-append-drop, take_at, take_all, take_more}
use Rattle.text_cursor.proofs.Common.{nil_from_length, sum_by-append, sum_by-cons, Block, Part, Side, parts_len}
use Rattle.text_cursor.proofs.Common.{turned_if, EndsWith, block_parts, side_parts, StaysSide}

abbrev pub part_len : Part → ℕ
part_len part = part.to - part.from

pub len-append : (xs ys : List Part) → parts_len (xs ++ ys) ≡ parts_len xs + parts_len ys
len-append xs ys = sum_by-append part_len xs ys

pub len-one : (part : Part) → parts_len (part ∷ []) ≡ part.to - part.from
len-one part = sum_by-cons part_len part [] ∙ omega arith

pub len-cons : (part : Part) (parts : List Part) → parts_len (part ∷ parts) ≡ (part.to - part.from) + parts_len parts
len-cons part parts = sum_by-cons part_len part parts

-- ---- parts that are turned

reverse-cons : (x : Part) (xs : List Part) → reverse (x ∷ xs) ≡ reverse xs ++ x ∷ []
reverse-cons x xs = reverse-append (x ∷ []) xs

len-reverse : (xs : List Part) → parts_len (reverse xs) ≡ parts_len xs
len-reverse [] = refl
len-reverse (x ∷ xs) =
    let a = len-append (reverse xs) (x ∷ []) in let b = len-one x in let c = sum_by-cons part_len x xs in
    let d = len-reverse xs in
    ap parts_len (reverse-cons x xs) ∙ omega (arith, a, b, c, d)

pub turned-twice : (turned : Bool) (xs : List Part) → turned_if turned (turned_if turned xs) ≡ xs
turned-twice false xs = refl
turned-twice true xs = reverse-reverse xs

pub turned-len : (turned : Bool) (xs : List Part) → parts_len (turned_if turned xs) ≡ parts_len xs
turned-len false xs = refl
turned-len true xs = len-reverse xs

pub turned-length : (turned : Bool) (xs : List Part) → length (turned_if turned xs) ≡ length xs
turned-length false xs = refl
turned-length true xs = length-reverse xs

-- ---- the last part

pub ends-is : (all rest : List Part) (part : Part) → all ≡ rest ++ part ∷ [] → EndsWith all part
ends-is all rest part is =
    let counted = ap length is ∙ length-append rest (part ∷ []) in
    let long : length all - 1 ≡ length rest = omega (arith, counted) in
    is ∙ ap (λ parts. parts ++ part ∷ []) (sym (ap₂ take long is ∙ take_at rest (part ∷ []) (length rest) refl))

pub ends-behind : (xs ys : List Part) (part : Part) → EndsWith ys part → EndsWith (xs ++ ys) part
ends-behind xs ys part ends =
    let rest = take (length ys - 1) ys in
    ends-is (xs ++ ys) (xs ++ rest) part (ap (λ parts. xs ++ parts) ends ∙ sym (append_assoc xs rest (part ∷ [])))

pub ends-read : (parts : List Part) (part : Part) (n : ℕ) → n ≡ length parts → 0 < n →
    part ≡ get_or parts (n - 1) part → EndsWith parts part
ends-read parts part n counted some is =
    ends-is parts (take (n - 1) parts) part
    (sym (take_all (n - 1 + 1) parts (omega (arith, counted, some)))
    ∙ take_more parts (n - 1) part (omega (arith, counted, some)) ∙ ap (λ p. take (n - 1) parts ++ p ∷ []) (sym is))

-- ---- one block more

pub block-push : (turned : Bool) (blocks : List Block) (block : Block) → block_parts turned (blocks ++ block ∷ [])
    ≡ block_parts turned blocks ++ turned_if turned block.parts.items
block-push turned [] block = append-nil (turned_if turned block.parts.items)
block-push turned (first ∷ blocks) block =
    ap (λ parts. turned_if turned first.parts.items ++ parts) (block-push turned blocks block)
    ∙ sym (append_assoc (turned_if turned first.parts.items) (block_parts turned blocks)
    (turned_if turned block.parts.items))

pub shut-stays : (before now : Side) (block : Block) (n : ℕ) → now.turned ≡ before.turned
    → now.far.items ≡ before.far.items ++ block ∷ [] →
    turned_if before.turned block.parts.items ≡ take n before.near.items → now.near.items ≡ drop n before.near.items →
    StaysSide before now
shut-stays before now block n turned far block_is near = record {
  turned = turned;
  parts =
      ap₂ (λ t blocks. block_parts t blocks ++ now.near.items) turned far
      ∙ ap₂ (λ a b. a ++ b) (block-push before.turned before.far.items block
      ∙ ap (λ parts. block_parts before.turned before.far.items ++ parts) block_is) near
      ∙ append_assoc (block_parts before.turned before.far.items) (take n before.near.items)
      (drop n before.near.items)
      ∙ ap (λ parts. block_parts before.turned before.far.items ++ parts) (take-append-drop n before.near.items);
}

-- a side whose near parts are none is its blocks
none-near : (side : Side) → length side.near.items ≡ 0 → side_parts side ≡ block_parts side.turned side.far.items
none-near side none =
    ap (λ parts. block_parts side.turned side.far.items ++ parts) (nil_from_length side.near.items none)
    ∙ append-nil (block_parts side.turned side.far.items)

-- the nearest block, where no part stands nearer
pub side-block : (before now : Side) (block : Block) → now.turned ≡ before.turned → length before.near.items ≡ 0 →
    now.near.items ≡ before.near.items → before.far.items ≡ now.far.items ++ block ∷ [] →
    side_parts before ≡ side_parts now ++ turned_if before.turned block.parts.items
side-block before now block turned none near far =
    none-near before none ∙ ap (block_parts before.turned) far ∙ block-push before.turned now.far.items block
    ∙ ap (λ parts. parts ++ turned_if before.turned block.parts.items)
    (ap (λ t. block_parts t now.far.items) (sym turned) ∙ sym (none-near now (ap length near ∙ none)))

pub open-stays : (before now : Side) (block : Block) → now.turned ≡ before.turned → length before.near.items ≡ 0 →
    now.near.items ≡ turned_if before.turned block.parts.items → before.far.items ≡ now.far.items ++ block ∷ [] →
    StaysSide before now
open-stays before now block turned none near far = record {
  turned = turned;
  parts = sym (none-near before none ∙ ap (block_parts before.turned) far
      ∙ block-push before.turned now.far.items block
      ∙ ap₂ (λ t parts. block_parts t now.far.items ++ parts) (sym turned) (sym near));
}

-- a side that has a part, and none near, has a block
blocks-some : (turned : Bool) (blocks : List Block) → 0 < length (block_parts turned blocks) → 0 < length blocks
blocks-some turned [] some = absurd (let h : 0 < 0 = some in omega (arith, h))
blocks-some turned (block ∷ blocks) some = omega arith

some-blocks : (side : Side) (n : ℕ) → length side.near.items ≡ 0 → 0 < length (side_parts side) →
    n ≡ length side.far.items → 0 < n
some-blocks side n none some counted =
    let h = blocks-some side.turned side.far.items (subst (λ (parts : List Part). 0 < length parts)
    (none-near side none) some) in
    omega (arith, h, counted)

pub popped-block : (before now : Side) (popped : Option Block) → now.turned ≡ before.turned →
    length before.near.items ≡ 0 → now.near.items ≡ before.near.items
    → before.far.items ≡ now.far.items ++ option_to_list popped
    → IfSome popped (λ block. side_parts before ≡ side_parts now ++ turned_if before.turned block.parts.items)
popped-block before now None turned none near far = tt
popped-block before now (Some block) turned none near far = side-block before now block turned none near far

-- the last part of the nearest block, where no part stands nearer
pub last-block : (side : Side) (block : Block) (part : Part) (n : ℕ) → length side.near.items ≡ 0 →
    0 < length (side_parts side) → n ≡ length side.far.items
    → block ≡ get_or side.far.items (n - 1) block → EndsWith (turned_if side.turned block.parts.items) part →
    EndsWith (side_parts side) part
last-block side block part n none some counted is ends =
    let far = side.far.items in
    let blocks : 0 < n = some-blocks side n none some counted in
    let split : far ≡ take (n - 1) far ++ block ∷ [] =
    sym (take_all (n - 1 + 1) far (omega (arith, counted, blocks)))
    ∙ take_more far (n - 1) block (omega (arith, counted, blocks)) ∙ ap (λ b. take (n - 1) far ++ b ∷ []) (sym is) in
    subst (λ parts. EndsWith parts part)
    (sym (none-near side none ∙ ap (block_parts side.turned) split
    ∙ block-push side.turned (take (n - 1) far) block))
    (ends-behind (block_parts side.turned (take (n - 1) far)) (turned_if side.turned block.parts.items) part ends)
