use Rattle.index_grammar.proofs.Common.{◌≡◌, Some, take, length, get_or, sym, ap, ◌∙◌, arith, drop, ◌+◌, chars}
use Rattle.index_grammar.proofs.Common.{list_all, is_break, named, saturated_base}
use Rattle.index_grammar.proofs.TokenLaws.{inside}
use Rattle.index_grammar.proofs.FindLaws.{step-front, no-front, this-front, range-front}
use Rattle.index_grammar.proofs.fronts.find_longest.Goals as goal

pub returns-in-Some-clause-value : goal.returns-in-Some-clause-value
returns-in-Some-clause-value c =
    let front : c.range-front.result.now ≡ take c.loop-base.end c.args.word.now = c.range-front.ensures.value
    ∙ range-front c.args.word.now c.loop-base.end in
    this-front (named c.args.form c.args.names.now) c.args.word.now c.loop-base.end c.in-Some.base c.utf8.word
    c.loop-base.invariant
    (ap (λ text. named c.args.form c.args.names.now (chars text)) (sym front) ∙ sym (c.in-Some.ensures {u = tt}).value)
    (let small : Some (saturated_base c.in-Some.base) ≡ Some c.in-Some.base = (c.in-Some.ensures {u = tt}).saturated in
    cc)
    ∙ ap (λ rest. Some (c.in-Some.base, chars rest)) (sym c.range_from.ensures.value)

pub loop-base-preserved : goal.loop-base-preserved
loop-base-preserved c =
    let front : c.range-front.result.now ≡ take c.loop-base.end c.args.word.now = c.range-front.ensures.value
    ∙ range-front c.args.word.now c.loop-base.end in
    let bytes : c.as_bytes.result.now ≡ take c.loop-base.end c.args.word.now = c.as_bytes.ensures.value ∙ front in
    let breaks = c.in-Some-last_break.ensures {u = tt} in
    step-front (named c.args.form c.args.names.now) c.args.word.now c.loop-base.end c.in-Some-last_break.at c.utf8.word
    c.loop-base.invariant
    (ap (λ text. named c.args.form c.args.names.now (chars text)) (sym front) ∙ sym c.find_within.ensures.value
    ∙ c.in_default.is)
    (omega (arith, breaks.0, ap length bytes))
    (ap (λ text. is_break (get_or text c.in-Some-last_break.at 0)) (sym bytes) ∙ breaks.1)
    (ap (λ text. list_all inside (drop (c.in-Some-last_break.at + 1) text)) (sym bytes) ∙ breaks.2)

pub returns-in-None-clause-value : goal.returns-in-None-clause-value
returns-in-None-clause-value c =
    let front : c.range-front.result.now ≡ take c.loop-base.end c.args.word.now = c.range-front.ensures.value
    ∙ range-front c.args.word.now c.loop-base.end in
    let bytes : c.as_bytes.result.now ≡ take c.loop-base.end c.args.word.now = c.as_bytes.ensures.value ∙ front in
    no-front (named c.args.form c.args.names.now) c.args.word.now c.loop-base.end c.utf8.word c.loop-base.invariant
    (ap (λ text. named c.args.form c.args.names.now (chars text)) (sym front) ∙ sym c.find_within.ensures.value
    ∙ c.in_default.is)
    (ap (list_all inside) (sym bytes) ∙ c.in-None.ensures {u = tt})
