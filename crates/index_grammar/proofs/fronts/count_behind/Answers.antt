use Rattle.index_grammar.proofs.Common.{◌++◌, sym, ap, ◌∙◌, false≢true, closes}
use Rattle.index_grammar.proofs.BoundLaws.{cancel}
use Rattle.index_grammar.proofs.fronts.count_behind.Goals as goal

pub returns-in_default : goal.returns-in_default
returns-in_default c = λ rest split closed.
    let same = cancel (c.args.name.now ++ c.args.ending.now) c.in-Some.rest.now rest
    (sym (c.in-Some.ensures {u = tt}) ∙ split) in
    absurd (false≢true (sym c.if-closes.false ∙ c.closes.ensures ∙ ap closes same ∙ closed))
