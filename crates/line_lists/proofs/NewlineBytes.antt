-- What the bytes of a text say of its first newline.
use Rattle.line_lists.proofs.Common.{◌≡◌, ℕ, ◌+◌, ◌<◌, ◌≤◌, ◌^◌, ◌==◌, ◌-◌, ◌++◌, cond, not, false, List, length, drop}
use Rattle.line_lists.proofs.Common.{map, sym, ap, ◌∙◌, arith, is_newline, drop-drop, take-append-drop, nat_tests}
use Rattle.line_lists.proofs.Common.{position_or_len, chunk, mask_l, top, zip2, ◌%◌, replicate, w8, bitmask_splat}
use Rattle.line_lists.proofs.Common.{leading_from_mask_l, length-chunk, trailing_mask_l, prefix_len-le-length, eq-eqb}
use Rattle.std.specs.Int.Count.{count_trailing_zeros}
use Rattle.std.proofs.lemmas.List.Folds.{prefix_len-append}

-- which bytes of a block are newlines, as bits
abbrev pub mask : List ℕ → ℕ
mask bytes = mask_l (map (top 7) (zip2 (λ a b. cond (a == b) (2 ^ 8 - 1) 0) bytes (replicate 16 10))) % 2 ^ 64

pub no_bit : (bytes : List ℕ) → length bytes ≡ 16 → mask bytes ≡ 0 → 16 ≡ position_or_len is_newline bytes
no_bit bytes long none =
    let masked = bitmask_splat w8 (λ a b. a == b) bytes 16 10 long (omega arith) in
    sym (leading_from_mask_l is_newline bytes (sym masked ∙ none) ∙ long)

pub first_bit : (bytes : List ℕ) → length bytes ≡ 16 → 0 < mask bytes →
    count_trailing_zeros 64 (mask bytes) ≡ position_or_len is_newline bytes
first_bit bytes long some =
    let masked = bitmask_splat w8 (λ a b. a == b) bytes 16 10 long (omega arith) in
    ap (λ n. count_trailing_zeros 64 n) masked
    ∙ trailing_mask_l is_newline 64 bytes (omega (arith, long)) (omega (arith, masked, some))

-- what stands from a place on, by what its first block holds
whole_front : (front rest : List ℕ) → position_or_len is_newline front ≡ length front →
    position_or_len is_newline (front ++ rest) ≡ length front + position_or_len is_newline rest
whole_front front rest none =
    prefix_len-append (λ b. not (is_newline b)) front rest
    ∙ ap (λ is. cond is (length front + position_or_len is_newline rest) (position_or_len is_newline front))
    (eq-eqb (position_or_len is_newline front) (length front) none)

part_of_front : (front rest : List ℕ) → position_or_len is_newline front < length front →
    position_or_len is_newline (front ++ rest) ≡ position_or_len is_newline front
part_of_front front rest some =
    let other : (position_or_len is_newline front == length front) ≡ false = grind (arith, nat_tests) in
    prefix_len-append (λ b. not (is_newline b)) front rest
    ∙ ap (λ is. cond is (length front + position_or_len is_newline rest) (position_or_len is_newline front)) other

from_front : (bytes : List ℕ) (start : ℕ) → drop start bytes ≡ chunk start 16 bytes ++ drop (start + 16) bytes
from_front bytes start =
    sym (take-append-drop 16 (drop start bytes))
    ∙ ap (λ rest. chunk start 16 bytes ++ rest) (drop-drop 16 start bytes)

pub behind_block : (bytes : List ℕ) (start before : ℕ) → start + 16 ≤ length bytes →
    before ≡ position_or_len is_newline (chunk start 16 bytes) → 16 ≤ before →
    position_or_len is_newline (drop start bytes) ≡ 16 + position_or_len is_newline (drop (start + 16) bytes)
behind_block bytes start before room counted none =
    let block = chunk start 16 bytes in
    let long = length-chunk start 16 bytes room in
    let most = prefix_len-le-length (λ b. not (is_newline b)) block in
    ap (λ xs. position_or_len is_newline xs) (from_front bytes start)
    ∙ whole_front block (drop (start + 16) bytes) (omega (arith, counted, none, long, most))
    ∙ ap (λ n. n + position_or_len is_newline (drop (start + 16) bytes)) long

pub within_block : (bytes : List ℕ) (start before : ℕ) → start + 16 ≤ length bytes →
    before ≡ position_or_len is_newline (chunk start 16 bytes) → before < 16 →
    position_or_len is_newline (drop start bytes) ≡ before
within_block bytes start before room counted some =
    let block = chunk start 16 bytes in
    ap (λ xs. position_or_len is_newline xs) (from_front bytes start)
    ∙ part_of_front block (drop (start + 16) bytes) (omega (arith, counted, some, length-chunk start 16 bytes room))
    ∙ sym counted
