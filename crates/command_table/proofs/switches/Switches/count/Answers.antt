use Rattle.command_table.proofs.Common.{sym, ap, ◌∙◌, is_dashed, ends_switches, switch_rule, chars}
use Rattle.command_table.proofs.EntryLaws.{run_goes_on, run_ends}
use Rattle.command_table.proofs.switches.Switches.count.Goals as goal

pub returns-then-ends_at-clause-front : goal.returns-then-ends_at-clause-front
returns-then-ends_at-clause-front c =
    sym (c.loop-index.invariant ∙ run_ends (switch_rule c.args.self) c.args.words.now c.loop-index.index
    c.index-words-index.result
    c.loop-index-test.true c.index-words-index.is
    (ap (λ t. is_dashed (chars t)) (sym c.as_str.ensures.value) ∙ sym c.if-not-is_dashed.ensures)
    (ap (λ t. ends_switches (switch_rule c.args.self) (chars t)) (sym c.as_str-in-loop-index.ensures.value)
    ∙ sym c.ends_at.ensures ∙ c.if-ends_at.true))

pub loop-index-preserved : goal.loop-index-preserved
loop-index-preserved c =
    c.loop-index.invariant ∙ run_goes_on (switch_rule c.args.self) c.args.words.now c.loop-index.index
    c.index-words-index.result
    c.loop-index-test.true c.index-words-index.is
    (ap (λ t. is_dashed (chars t)) (sym c.as_str.ensures.value) ∙ sym c.if-not-is_dashed.ensures)
    (ap (λ t. ends_switches (switch_rule c.args.self) (chars t)) (sym c.as_str-in-loop-index.ensures.value)
    ∙ sym c.ends_at.ensures ∙ c.if-ends_at.false)
