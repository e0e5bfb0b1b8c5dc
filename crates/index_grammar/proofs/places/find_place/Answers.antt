use Rattle.index_grammar.proofs.Common.{Some, None, ap, sym, ◌∙◌, take, drop, chars, found_of, prefix_len}
use Rattle.index_grammar.proofs.Common.{if◌then◌else◌, length, ◌-◌}
use Rattle.index_grammar.proofs.CharLaws.{front-closed, front-boundary, read-closed, place-none, place-found, place-cut}
use Rattle.index_grammar.proofs.TokenLaws.{inside}
use Rattle.index_grammar.proofs.places.find_place.Goals as goal

pub returns-in_err-base-clause-value : goal.returns-in_err-base-clause-value
returns-in_err-base-clause-value c =
    let word = c.args.word.now in let count = prefix_len inside word in
    place-none word c.utf8.word
    ((c.in_err-base.ensures {u = tt}).value (take count word) (drop count word) (front-closed c.as_bytes.result.now word
    c.as_bytes.ensures.value))
    ∙ ap found_of (sym c.from_residual.ensures)

pub returns-then-not-closes-clause-value : goal.returns-then-not-closes-clause-value
returns-then-not-closes-clause-value c =
    let word = c.args.word.now in let count = prefix_len inside word in
    place-none word c.utf8.word
    (ap (λ b. if b then Some (c.in_ok-base.base, c.in_ok-base.rest.now) else None) (c.if-not-closes.ensures {u = tt})
    ∙ (c.in_ok-base.ensures {u = tt}).value (take count word) (drop count word)
    (front-closed c.as_bytes.result.now word c.as_bytes.ensures.value))

pub overflow_sub-word : goal.overflow_sub-word
overflow_sub-word c =
    let word = c.args.word.now in let rest = c.in_ok-base.rest.now in let found = c.in_ok-base.base in
    (place-cut word rest found (read-closed c.as_bytes.result.now word rest found c.as_bytes.ensures.value
    (c.if-not-closes.ensures {u = tt})
    (c.in_ok-base.ensures {u = tt}).value)).0

pub range_from-requires : goal.range_from-requires
range_from-requires c = λ _.
    let word = c.args.word.now in let rest = c.in_ok-base.rest.now in let found = c.in_ok-base.base in
    let cut = place-cut word rest found (read-closed c.as_bytes.result.now word rest found c.as_bytes.ensures.value
    (c.if-not-closes.ensures {u = tt})
    (c.in_ok-base.ensures {u = tt}).value) in
    front-boundary word (length word - length rest) cut.1

pub returns-clause-value : goal.returns-clause-value
returns-clause-value c =
    let word = c.args.word.now in let rest = c.in_ok-base.rest.now in let found = c.in_ok-base.base in
    let read = read-closed c.as_bytes.result.now word rest found c.as_bytes.ensures.value
    (c.if-not-closes.ensures {u = tt})
    (c.in_ok-base.ensures {u = tt}).value in
    let cut = place-cut word rest found read in
    place-found word rest found c.utf8.word read
    ∙ ap (λ behind. Some (found, chars behind)) (cut.2 ∙ sym (c.range_from.ensures.value ∙ ap (λ n. drop n word) cut.1))
