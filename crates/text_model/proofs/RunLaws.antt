-- Runs of characters that pass a test: how they go on over cells, and in a part of a text.
use Rattle.text_model.proofs.Common.{◌≡◌, ℕ, ◌+◌, ◌-◌, ◌<◌, ◌≤◌, Bool, true, false, List, length, get_or, take, drop}
use Rattle.text_model.proofs.Common.{sym, ap, ◌∙◌, arith, length-drop, length-take, prefix_len, suffix_len, drop-map}
use Rattle.text_model.proofs.Common.{get_or-map, length-map, take-map, take_rest, prefix_len-drop_yes}
use Rattle.text_model.proofs.Common.{prefix_len-drop_no, prefix_len-le-length, suffix_len-le-length}
use Rattle.text_model.proofs.Common.{suffix_len-take_yes, suffix_len-take_no, Cell, characters}

pub long : (cells : List Cell) → length (characters cells) ≡ length cells
long cells = length-map cells (λ (cell : Cell). cell.character)

tested : (test : ℕ → Bool) (cells : List Cell) (i : ℕ) (cell : Cell) (passes : Bool) → i < length cells →
    cell ≡ get_or cells i cell → passes ≡ test cell.character → test (get_or (characters cells) i 0) ≡ passes
tested test cells i cell passes within is value =
    ap test (get_or-map (λ (x : Cell). x.character) cells i cell 0 within ∙ ap (λ (x : Cell). x.character) (sym is))
    ∙ sym value

-- the run from the front: one cell more, and its end
pub first_more : (test : ℕ → Bool) (cells : List Cell) (i : ℕ) (cell : Cell) (passes : Bool) (run : ℕ) →
    i < length cells → cell ≡ get_or cells i cell → passes ≡ test cell.character → passes ≡ true
    → run ≡ i + prefix_len test (drop i (characters cells)) →
    run ≡ (i + 1) + prefix_len test (drop (i + 1) (characters cells))
first_more test cells i cell passes run within is value met so_far =
    let small : i < length (characters cells) = omega (arith, within, long cells) in
    omega (
      arith,
      so_far,
      prefix_len-drop_yes test (characters cells) i 0 small (tested test cells i cell passes within is value ∙ met),
    )

pub first_stops : (test : ℕ → Bool) (cells : List Cell) (i : ℕ) (cell : Cell) (passes : Bool) (run : ℕ) →
    i < length cells → cell ≡ get_or cells i cell → passes ≡ test cell.character → passes ≡ false
    → run ≡ i + prefix_len test (drop i (characters cells)) → i ≡ run
first_stops test cells i cell passes run within is value unmet so_far =
    let small : i < length (characters cells) = omega (arith, within, long cells) in
    omega (
      arith,
      so_far,
      prefix_len-drop_no test (characters cells) i 0 small (tested test cells i cell passes within is value ∙ unmet),
    )

-- the run from the back: one cell more, and its end
pub last_more : (test : ℕ → Bool) (cells : List Cell) (n : ℕ) (cell : Cell) (passes : Bool) (run : ℕ) → 0 < n →
    n ≤ length cells → cell ≡ get_or cells (n - 1) cell → passes ≡ test cell.character → passes ≡ true
    → n + run ≡ length cells + suffix_len test (take n (characters cells)) →
    (n - 1) + run ≡ length cells + suffix_len test (take (n - 1) (characters cells))
last_more test cells n cell passes run some within is value met so_far =
    let small : n ≤ length (characters cells) = omega (arith, within, long cells) in
    let inside : n - 1 < length cells = omega arith in
    omega (
      arith,
      so_far,
      suffix_len-take_yes test (characters cells) n 0 some small
          (tested test cells (n - 1) cell passes inside is value ∙ met),
    )

pub last_stops : (test : ℕ → Bool) (cells : List Cell) (n : ℕ) (cell : Cell) (passes : Bool) (run : ℕ) → 0 < n →
    n ≤ length cells → cell ≡ get_or cells (n - 1) cell → passes ≡ test cell.character → passes ≡ false
    → n + run ≡ length cells + suffix_len test (take n (characters cells)) → n + run ≡ length cells
last_stops test cells n cell passes run some within is value unmet so_far =
    let small : n ≤ length (characters cells) = omega (arith, within, long cells) in
    let inside : n - 1 < length cells = omega arith in
    omega (
      arith,
      so_far,
      suffix_len-take_no test (characters cells) n 0 some small
          (tested test cells (n - 1) cell passes inside is value ∙ unmet),
    )

-- the run of cells from a place on, and the run back from it
pub run_end_found : (test : ℕ → Bool) (cells now : List Cell) (at run : ℕ) → now ≡ cells →
    run ≡ prefix_len test (characters (take (length now - at) (drop at now)))
    → at + run ≡ at + prefix_len test (drop at (characters cells))
run_end_found test cells now at run same is =
    let rest : characters (take (length now - at) (drop at now)) ≡ drop at (characters cells) =
    ap (λ xs. characters (take (length xs - at) (drop at xs))) same ∙ ap characters (take_rest cells at)
    ∙ sym (drop-map (λ (cell : Cell). cell.character) at cells) in
    ap (λ n. at + n) (is ∙ ap (prefix_len test) rest)

pub run_start_found : (test : ℕ → Bool) (cells now : List Cell) (at run : ℕ) → now ≡ cells →
    run ≡ suffix_len test (characters (take at now)) → run ≡ suffix_len test (take at (characters cells))
run_start_found test cells now at run same is =
    is ∙ ap (λ xs. suffix_len test (characters (take at xs))) same
    ∙ ap (suffix_len test) (sym (take-map (λ (cell : Cell). cell.character) at cells))

-- a run ends in the text, and begins in it
pub run_end-le : (test : ℕ → Bool) (text : List ℕ) (at : ℕ) → at ≤ length text →
    at + prefix_len test (drop at text) ≤ length text
run_end-le test text at within = omega (arith, prefix_len-le-length test (drop at text), length-drop at text)

pub run_start-le : (test : ℕ → Bool) (text : List ℕ) (at : ℕ) → suffix_len test (take at text) ≤ at
run_start-le test text at = omega (arith, suffix_len-le-length test (take at text), length-take at text)
