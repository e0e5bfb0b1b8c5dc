use Rattle.index_grammar.proofs.Common.{◌≡◌, length, modifiers_of, tokens_of, saturated, after}
use Rattle.index_grammar.proofs.steps.read_steps.Given as goal

abbrev pub invariant-loop-modifiers : goal.invariant-loop-modifiers
invariant-loop-modifiers l = saturated (modifiers_of (tokens_of l.text))
    ≡ after l.modifiers.items (saturated (modifiers_of (tokens_of l.rest)))

abbrev pub decreases-loop-modifiers : goal.decreases-loop-modifiers
decreases-loop-modifiers l = length l.rest
