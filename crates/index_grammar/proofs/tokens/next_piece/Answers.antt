use Rattle.index_grammar.proofs.Common.{◌<◌, ◌∷◌, ◌==◌, take, length, sym, ap, ◌∙◌, arith, slice_get, is_ascii_digit}
use Rattle.index_grammar.proofs.Common.{prefix_len, is_blank, prefix_len-le-length, tokens_of, Sign, Digits, Word}
use Rattle.index_grammar.proofs.Common.{before_rest}
use Rattle.index_grammar.proofs.TokenLaws.{tokens-blanks, piece-none, piece-sign, piece-digits, piece-word, not-blank}
use Rattle.index_grammar.proofs.TokenLaws.{inside, piece-bound, word-inside, behind-bound, taken-bound}
use Rattle.index_grammar.proofs.tokens.next_piece.Goals as goal

pub split_at-requires-then-is_ascii_digit : goal.split_at-requires-then-is_ascii_digit
split_at-requires-then-is_ascii_digit c =
    omega (arith, c.digits.ensures, prefix_len-le-length is_ascii_digit c.skip_blanks-text.result.now)

pub split_at-requires-2 : goal.split_at-requires-2
split_at-requires-2 c = omega (arith, c.unbroken.ensures, prefix_len-le-length inside c.skip_blanks-text.result.now)

pub returns-in_err-first-clause-value : goal.returns-in_err-first-clause-value
returns-in_err-first-clause-value c =
    sym (ap tokens_of c.skip_blanks-text.ensures ∙ tokens-blanks c.args.text.now)
    ∙ piece-none c.skip_blanks-text.result.now (sym (c.in_err-first.ensures {u = tt}).value)
    ∙ ap before_rest (sym c.from_residual.ensures)

pub returns-then-is_sign-clause-value : goal.returns-then-is_sign-clause-value
returns-then-is_sign-clause-value c =
    sym (ap tokens_of c.skip_blanks-text.ensures ∙ tokens-blanks c.args.text.now)
    ∙ piece-sign c.skip_blanks-text.result.now c.in_ok-first.field-0.now (sym (c.in_ok-first.ensures {u = tt}).value)
    (sym (c.if-is_sign.ensures {u = tt}))
    ∙ ap (λ rest. Sign (c.in_ok-first.field-0.now == 43) ∷ tokens_of rest) (sym c.split_at.ensures.back)

pub returns-then-is_ascii_digit-clause-value : goal.returns-then-is_ascii_digit-clause-value
returns-then-is_ascii_digit-clause-value c =
    sym (ap tokens_of c.skip_blanks-text.ensures ∙ tokens-blanks c.args.text.now)
    ∙ piece-digits c.skip_blanks-text.result.now c.in_ok-first.field-0.now c.digits.result
    (sym (c.in_ok-first.ensures {u = tt}).value)
    (sym (c.if-is_ascii_digit.ensures {u = tt}).value) c.digits.ensures
    ∙ ap (λ rest. Digits (take c.digits.result c.skip_blanks-text.result.now) ∷ tokens_of rest)
    (sym c.split_at-then-is_ascii_digit.ensures.back)
    ∙ ap (λ front. Digits front ∷ tokens_of c.split_at-then-is_ascii_digit.result.1.now)
    (sym c.split_at-then-is_ascii_digit.ensures.front)

pub returns-clause-value : goal.returns-clause-value
returns-clause-value c =
    sym (ap tokens_of c.skip_blanks-text.ensures ∙ tokens-blanks c.args.text.now)
    ∙ piece-word c.skip_blanks-text.result.now c.in_ok-first.field-0.now c.unbroken.result
    (sym (c.in_ok-first.ensures {u = tt}).value)
    (not-blank c.args.text.now c.in_ok-first.field-0.now (ap (λ text. slice_get text 0) (sym c.skip_blanks-text.ensures)
    ∙ sym (c.in_ok-first.ensures {u = tt}).value))
    (sym (c.if-is_sign.ensures {u = tt})) (sym (c.if-is_ascii_digit.ensures {u = tt}).value) c.unbroken.ensures
    ∙ ap (λ rest. Word (take c.unbroken.result c.skip_blanks-text.result.now) ∷ tokens_of rest)
    (sym c.split_at-2.ensures.back)
    ∙ ap (λ front. Word front ∷ tokens_of c.split_at-2.result.1.now) (sym c.split_at-2.ensures.front)

pub returns-then-is_sign-clause-bound : goal.returns-then-is_sign-clause-bound
returns-then-is_sign-clause-bound c =
    behind-bound c.args.text.now c.skip_blanks-text.result.now c.split_at.result.1.now
    (prefix_len is_blank c.args.text.now) 1 c.in_ok-first.field-0.now
    c.skip_blanks-text.ensures (sym (c.in_ok-first.ensures {u = tt}).value) c.split_at.ensures.back (omega arith)

pub returns-then-is_sign-clause-taken : goal.returns-then-is_sign-clause-taken
returns-then-is_sign-clause-taken c =
    let behind : length c.split_at.result.1.now < length c.args.text.now = returns-then-is_sign-clause-bound c in
    omega (arith, behind)

pub returns-then-is_ascii_digit-clause-bound : goal.returns-then-is_ascii_digit-clause-bound
returns-then-is_ascii_digit-clause-bound c =
    let left = c.skip_blanks-text.result.now in
    let first = sym (c.in_ok-first.ensures {u = tt}).value in
    behind-bound c.args.text.now left c.split_at-then-is_ascii_digit.result.1.now (prefix_len is_blank c.args.text.now)
    c.digits.result c.in_ok-first.field-0.now
    c.skip_blanks-text.ensures first c.split_at-then-is_ascii_digit.ensures.back
    (omega (
      arith,
      c.digits.ensures,
      piece-bound is_ascii_digit left c.in_ok-first.field-0.now first
          (sym (c.if-is_ascii_digit.ensures {u = tt}).value),
    ))

pub returns-then-is_ascii_digit-clause-taken : goal.returns-then-is_ascii_digit-clause-taken
returns-then-is_ascii_digit-clause-taken c =
    taken-bound c.args.text.now c.skip_blanks-text.result.now c.split_at-then-is_ascii_digit.result.0.now
    c.split_at-then-is_ascii_digit.result.1.now
    (prefix_len is_blank c.args.text.now) c.digits.result c.skip_blanks-text.ensures
    c.split_at-then-is_ascii_digit.ensures.front c.split_at-then-is_ascii_digit.ensures.back

pub returns-clause-bound : goal.returns-clause-bound
returns-clause-bound c =
    let left = c.skip_blanks-text.result.now in
    let first = sym (c.in_ok-first.ensures {u = tt}).value in
    let blank = not-blank c.args.text.now c.in_ok-first.field-0.now
    (ap (λ text. slice_get text 0) (sym c.skip_blanks-text.ensures) ∙ first) in
    behind-bound c.args.text.now left c.split_at-2.result.1.now (prefix_len is_blank c.args.text.now) c.unbroken.result
    c.in_ok-first.field-0.now
    c.skip_blanks-text.ensures first c.split_at-2.ensures.back
    (omega (
      arith,
      c.unbroken.ensures,
      piece-bound inside left c.in_ok-first.field-0.now first
          (word-inside c.in_ok-first.field-0.now blank (sym (c.if-is_sign.ensures {u = tt}))),
    ))

pub returns-clause-taken : goal.returns-clause-taken
returns-clause-taken c =
    taken-bound c.args.text.now c.skip_blanks-text.result.now c.split_at-2.result.0.now c.split_at-2.result.1.now
    (prefix_len is_blank c.args.text.now) c.unbroken.result c.skip_blanks-text.ensures c.split_at-2.ensures.front
    c.split_at-2.ensures.back
