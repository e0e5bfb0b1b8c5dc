use Rattle.handles.proofs.Common.{◌≡◌, ◌≤◌, ◌+◌, ◌++◌, ◌∷◌, [], ◌∙◌, ap, sym, refl, rules, arith, drop, take, get_or}
use Rattle.handles.proofs.Common.{length, vec_len, chars, drop_all, drop_more, IsCharBoundary-from_take, IsUtf8-drop}
use Rattle.handles.proofs.Common.{IsUtf8-take, nil_from_length, texts_of, true≢false}
use Rattle.handles.proofs.WordLaws.{cutting-not_text, reading-all, reading-more, written-all}
use Rattle.handles.specs.declared.words.WordsFault.TheVariants.{NotText}
use Rattle.handles.proofs.words.cut_text.Goals as goal

pub returns-in_default-clause-not_text : goal.returns-in_default-clause-not_text
returns-in_default-clause-not_text c is =
    let lengths = c.args.lengths.now in let rest = c.loop-index.rest.now in let i = c.loop-index.index in
    let n = get_or lengths i 0 in
    let kept = c.loop-index.invariant in
    let left = drop_more lengths i 0 c.loop-index-test.true in
    let same : c.cut_fault.result ≡ NotText = (cc) in
    let fits : n ≤ length rest = c.cut_fault.ensures.not_text same in
    cutting-not_text lengths c.args.text.now (drop i lengths) rest n (drop (i + 1) lengths) kept.2.cutting left
    (λ text. true≢false (sym (c.in_default.ensures.variant.1 (IsCharBoundary-from_take rest n kept.0 fits text))))

pub loop-index-preserved : goal.loop-index-preserved
loop-index-preserved c =
    let lengths = c.args.lengths.now in let rest = c.loop-index.rest.now in let i = c.loop-index.index in
    let made = take i (texts_of c.loop-index.words.items) in
    let n = get_or lengths i 0 in
    let kept = c.loop-index.invariant in
    let left = drop_more lengths i 0 c.loop-index-test.true in
    let split = c.in-Some.ensures in
    let boundary = split.variant.0 refl in
    let text = IsUtf8-take rest n kept.0 boundary in
    let more = reading-more lengths c.args.text.now (drop i lengths) rest made n (drop (i + 1) lengths) kept.2 left
    boundary.0 text in
    let words = c.in_ok-write_word.ensures.words ∙ ap (λ b. made ++ chars b ∷ []) split.front in
    let within : i + 1 ≤ vec_len c.write_word.new.words = omega (arith, c.in_ok-write_word.ensures.len) in
    rw (split.back, words) (IsUtf8-drop rest n kept.0 boundary, within, more)

pub returns-clause-words : goal.returns-clause-words
returns-clause-words c =
    let lengths = c.args.lengths.now in let rest = c.loop-index.rest.now in let i = c.loop-index.index in
    let all = c.loop-index.words.items in
    let end : i ≡ length lengths = omega (arith, c.loop-index-test.false, c.loop-index.auto) in
    let none : length rest ≡ 0 = search (rules) in
    written-all c.truncate.new.self.items all (length lengths) c.truncate.ensures.items
    ∙ ap (λ k. take k (texts_of all)) (sym end)
    ∙ sym (reading-all lengths c.args.text.now (drop i lengths) rest (take i (texts_of all)) c.loop-index.invariant.2
    (drop_all i lengths (omega (arith, end))) (nil_from_length rest none)).0
