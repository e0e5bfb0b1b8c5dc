use Rattle.undo_stack.proofs.Common.{◌≡◌, ◌+◌, ◌-◌, sym, ap, ◌∙◌, arith, times, counted_up}
use Rattle.undo_stack.proofs.CountLaws.{times-left}
use Rattle.undo_stack.proofs.counts.ModifiedCount.repeat.Goals as goal

pub loop-preserved : goal.loop-preserved
loop-preserved c =
    c.loop.invariant ∙ times-left c.args.actions c.loop.counter counted_up c.loop.self c.loop-test.true
    ∙ ap (times (c.args.actions - (c.loop.counter + 1)) counted_up) (sym c.count_up.ensures)

pub returns : goal.returns
returns c =
    sym (c.loop.invariant ∙ ap (λ left. times left counted_up c.loop.self) (let e : c.args.actions - c.loop.counter
    ≡ 0 = omega arith in e))
