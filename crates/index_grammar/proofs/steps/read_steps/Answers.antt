use Rattle.index_grammar.proofs.Common.{◌++◌, ◌∷◌, [], sym, ap, ◌∙◌, modifiers_of, tokens_of, saturated, after, left}
use Rattle.index_grammar.proofs.StepLaws.{after-step}
use Rattle.index_grammar.proofs.steps.read_steps.Goals as goal

pub loop-modifiers-preserved : goal.loop-modifiers-preserved
loop-modifiers-preserved c =
    let items = c.loop-modifiers.modifiers.items in
    let rest = saturated (modifiers_of (tokens_of c.in-Some.behind.now)) in
    c.loop-modifiers.invariant
    ∙ ap (after items) ((c.in_ok-modifier.ensures {u = tt}).ok ∙ ap left c.in-Some.is)
    ∙ after-step items c.in-Some.modifier rest
    ∙ ap (λ ms. after ms rest) (sym (rw c.unwrap.ensures at c.push.ensures.items
    ∙ ap (λ ms. ms ++ c.in-Some.modifier ∷ []) c.reserve.ensures.items))
