use Rattle.index_grammar.proofs.Common.{◌++◌, None, Some, ◌∙◌, Decides-eqb, strip_prefix_is, append_assoc}
use Rattle.index_grammar.proofs.BoundLaws.{stripped}
use Rattle.index_grammar.proofs.fronts.strip.Goals as goal

pub returns-in_err-strip_prefix : goal.returns-in_err-strip_prefix
returns-in_err-strip_prefix c =
    rw c.from_residual.ensures (λ behind split.
    strip_prefix_is Decides-eqb c.args.word.now c.args.name.now None (c.in_err-strip_prefix.ensures {u = tt}).cases
    (c.args.ending.now ++ behind) (split ∙ append_assoc c.args.name.now c.args.ending.now behind))

pub returns : goal.returns
returns c =
    let rest = c.in_ok-strip_prefix.field-0 in
    stripped c.args.word.now c.args.name.now c.args.ending.now rest.now c.strip_prefix-2.result
    (strip_prefix_is Decides-eqb c.args.word.now c.args.name.now (Some rest)
    (c.in_ok-strip_prefix.ensures {u = tt}).cases)
    (strip_prefix_is Decides-eqb rest.now c.args.ending.now c.strip_prefix-2.result c.strip_prefix-2.ensures.cases)
