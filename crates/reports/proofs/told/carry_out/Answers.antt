use Rattle.reports.proofs.Common.{true, ap, sym, subst, KnowsDelta, State}
use Rattle.reports.proofs.told.carry_out.Goals as goal

pub returns-clause-told : goal.returns-clause-told
returns-clause-told g c = λ actions knows.
    let old = (g.S.TextStore.content c.args.text.now.store).cells in
    let outcome = (g.S.TextStore.outcome c.args.text.now.store c.args.plan.prepared).cells in
    c.in_ok-told.ensures actions (g.S.TextStore.content c.commit.new.text.store).cells
    (subst (λ cells. KnowsDelta true actions old cells c.take-delta.result)
    (sym (ap (λ (state : State). state.content.cells) c.commit.ensures))
    (subst (KnowsDelta true actions old outcome) (sym c.take-delta.ensures.value) knows))
