use Rattle.index_grammar.proofs.Common.{◌≡◌, Some, None, ap, sym, ◌∙◌, min, closed_of, saturated_base, option_map}
use Rattle.index_grammar.proofs.Common.{with_rest}
use Rattle.index_grammar.proofs.ClosedLaws.{after_dot, dot-none, dot-some}
use Rattle.index_grammar.proofs.PlaceLaws.{most}
use Rattle.index_grammar.proofs.places.read_around_dot.Goals as goal

pub returns-in_err-line-clause-value : goal.returns-in_err-line-clause-value
returns-in_err-line-clause-value c = λ front rest is.
    ap closed_of c.from_residual.ensures
    ∙ sym (ap (λ o. with_rest rest (option_map saturated_base o)) (dot-none c.args.text.now front rest is
    (λ line behind number _. let h : None ≡ option_map (min most) (Some line) = (c.in_err-line.ensures {u = tt}).number
    ∙ ap (option_map (min most)) number in cc)))

pub returns-in_err-strip_dot-clause-value : goal.returns-in_err-strip_dot-clause-value
returns-in_err-strip_dot-clause-value c = λ front rest is.
    ap closed_of c.from_residual-in_err-strip_dot.ensures
    ∙ sym (ap (λ o. with_rest rest (option_map saturated_base o)) (dot-none c.args.text.now front rest is
    (λ line behind _ dot. c.in_err-strip_dot.ensures {u = tt} behind ((c.in_ok-line.ensures {u = tt}).rest ∙ dot))))

pub returns-clause-value : goal.returns-clause-value
returns-clause-value c = λ front rest is.
    let behind = c.in_ok-strip_dot.field-0 in
    let known = dot-some c.args.text.now front rest behind.now c.in_ok-line.line is
    (c.in_ok-line.ensures {u = tt}).number
    (sym (c.in_ok-line.ensures {u = tt}).rest ∙ c.in_ok-strip_dot.ensures {u = tt}) in
    c.read_in_line.ensures.value (after_dot c.args.text.now front) rest known.0 ∙ known.1
