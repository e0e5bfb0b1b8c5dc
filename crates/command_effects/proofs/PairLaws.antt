-- Lists that are taken by twos.
use Rattle.command_effects.proofs.Common.{◌≡◌, ℕ, suc, ◌+◌, ◌-◌, ◌<◌, ◌≤◌, List, [], ◌∷◌, ◌++◌, length, drop, refl, sym}
use Rattle.command_effects.proofs.Common.{ap, ◌∙◌, arith, All, All-cons, All-nil, min, Result, Ok, Err, Some, String}
use Rattle.command_effects.proofs.Common.{chars, string_bytes, take_rest, append_assoc, drop-map, length-map}
use Rattle.command_effects.proofs.Common.{get_or-map, texts_of, with_value, Pair, pair_at, and_pairs, pairs_at, Fault}
use Rattle.command_effects.proofs.Common.{span, spans_of, get_or, take}
use Rattle.edit_ops.specs.Tagging.{SpanFits}
use Rattle.edit_ops.specs.declared.spans.Span.{Span}

pub spans_of-two : (start len : ℕ) (places : List ℕ) → 2 ≤ length places
    → spans_of start len places ≡ span start (get_or places 0 0) (get_or places 1 0)
    ∷ spans_of start len (drop 2 places)
spans_of-two start len [] two = absurd (omega arith)
spans_of-two start len (from ∷ []) two = absurd (omega arith)
spans_of-two start len (from ∷ to ∷ places) two = refl

pub pairs_at-two : (position : ℕ) (words : List (List ℕ)) → 2 ≤ length words
    → pairs_at position words ≡ and_pairs (pair_at position (get_or words 0 []) (Some (get_or words 1 [])))
    (pairs_at (position + 2) (drop 2 words))
pairs_at-two position [] two = absurd (omega arith)
pairs_at-two position (text ∷ []) two = absurd (omega arith)
pairs_at-two position (text ∷ list ∷ words) two = refl

-- two more of them are seen
pub spans_of-more : (start len : ℕ) (places rest : List ℕ) (spans : List Span) → 2 ≤ length rest →
    spans_of start len places ≡ spans ++ spans_of start len rest
    → spans_of start len places ≡ (spans ++ span start (get_or rest 0 0) (get_or rest 1 0) ∷ [])
    ++ spans_of start len (take (length rest - 2) (drop 2 rest))
spans_of-more start len places rest spans two is =
    is ∙ ap (λ xs. spans ++ xs) (spans_of-two start len rest two)
    ∙ sym (append_assoc spans (span start (get_or rest 0 0) (get_or rest 1 0) ∷ []) (spans_of start len (drop 2 rest)))
    ∙ ap (λ xs. (spans ++ span start (get_or rest 0 0) (get_or rest 1 0) ∷ []) ++ spans_of start len xs)
    (sym (take_rest rest 2))

and_pairs-more : (front : List Pair) (pair : Pair) (pairs : Result (List Pair) Fault)
    → with_value (and_pairs (Ok pair) pairs) (λ ps. Ok (front ++ ps))
    ≡ with_value pairs (λ ps. Ok ((front ++ pair ∷ []) ++ ps))
and_pairs-more front pair (Err fault) = refl
and_pairs-more front pair (Ok pairs) = ap Ok (sym (append_assoc front (pair ∷ []) pairs))

abbrev pub word_or : {Z : Type 0} → List (String Z) → ℕ → List ℕ
word_or words at = get_or (texts_of words) at []

-- a word that was read
pub word_read : {Z : Type 0} (words : List (String Z)) (at : ℕ) (word : String Z) (bytes : List ℕ) → at < length words →
    word ≡ get_or words at word → bytes ≡ string_bytes word
    → chars bytes ≡ word_or words at
word_read {Z} words at word bytes within is bytes_are =
    ap chars bytes_are ∙ ap (λ w. chars (string_bytes w)) is
    ∙ sym (get_or-map (λ w. chars (string_bytes w)) words at word [] within)

pub pairs_at-more : {Z : Type 0} (position here : ℕ) (words : List (List ℕ)) (rest : List (String Z)) (front : List Pair)
    (pair : Pair) → 2 ≤ length rest
    → pairs_at position words ≡ with_value (pairs_at here (texts_of rest)) (λ ps. Ok (front ++ ps)) →
    pair_at here (word_or rest 0) (Some (word_or rest 1)) ≡ Ok pair
    → pairs_at position words ≡ with_value (pairs_at (here + 2) (texts_of (take (length rest - 2) (drop 2 rest)))) (λ ps.
    Ok ((front ++ pair ∷ []) ++ ps))
pairs_at-more {Z} position here words rest front pair two is found =
    let many : 2 ≤ length (texts_of rest) = omega (arith, length-map rest (λ word. chars (string_bytes word))) in
    is ∙ ap (λ ps. with_value ps (λ qs. Ok (front ++ qs))) (pairs_at-two here (texts_of rest) many)
    ∙ ap (λ p. with_value (and_pairs p (pairs_at (here + 2) (drop 2 (texts_of rest)))) (λ qs. Ok (front ++ qs)))
    found
    ∙ and_pairs-more front pair (pairs_at (here + 2) (drop 2 (texts_of rest)))
    ∙ ap (λ ws. with_value (pairs_at (here + 2) ws) (λ ps. Ok ((front ++ pair ∷ []) ++ ps)))
    (drop-map (λ word. chars (string_bytes word)) 2 rest ∙ ap texts_of (sym (take_rest rest 2)))

span-fits : (start len from to : ℕ) → from ≤ len → to ≤ len → SpanFits (start + len) (span start from to)
span-fits start len from to first second = record { ordered = omega arith; within = omega (arith, first, second) }

pub spans_of-fit : (start len : ℕ) (places : List ℕ) → All (λ place. place ≤ len) places →
    All (SpanFits (start + len)) (spans_of start len places)
spans_of-fit start len [] within = All-nil (SpanFits (start + len))
spans_of-fit start len (from ∷ []) within =
    All-cons (SpanFits (start + len)) _ [] (span-fits start len from (min (suc from) len) (within 0 0 (omega arith))
    (omega arith)) (All-nil (SpanFits (start + len)))
spans_of-fit start len (from ∷ to ∷ places) within =
    All-cons (SpanFits (start + len)) _ (spans_of start len places)
    (span-fits start len from to (within 0 0 (omega arith)) (within 1 0 (omega arith)))
    (spans_of-fit start len places (λ k d before. within (suc (suc k)) d (omega arith)))
