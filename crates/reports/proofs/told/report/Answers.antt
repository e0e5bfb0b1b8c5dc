use Rattle.reports.proofs.Common.{[], ◌∷◌, true, ap, sym, subst, ◌∙◌, true≢false, key_pairs, false, KnowsDelta, IsDelta}
use Rattle.reports.proofs.Common.{lost_run, option_map, Some, box_value, TellsRuns, AreRising}
use Rattle.reports.proofs.DeltaLaws.{delta-tells, TellsLost}
use Rattle.reports.proofs.told.report.Goals.{in-Some-lost+in_ok-push_runs, in_default-lost}
use Rattle.reports.proofs.told.report.Goals as goal

pub returns-in_default : goal.returns-in_default
returns-in_default g c = λ actions cells knows.
    absurd (true≢false (subst (KnowsDelta true actions (g.S.TextStore.content c.args.store.now).cells cells)
    c.in_default.is knows))

pub returns : goal.returns
returns g c = λ actions cells knows.
    let seats = c.args.seats.now.entries in
    let table = c.args.tags.now in
    let pairs = key_pairs seats table.tags in
    let delta = c.into_inner-hunks.result in
    let old = (g.S.TextStore.content c.args.store.now).cells in
    let between = c.match-lost.list in
    let is = subst (IsDelta actions old cells) (sym c.into_inner-hunks.ensures)
    (subst (KnowsDelta true actions old cells) c.in-Some.is knows).1 in
    let lost : TellsLost pairs (lost_run delta) between = elim c.match-lost.branch [
      | in-Some-lost+in_ok-push_runs w ↦
          let run = w.into_inner.result in
          subst (λ lost. TellsLost pairs lost between)
          (ap Some w.into_inner.ensures ∙ sym (ap (option_map box_value) w.in-Some-lost.is))
          (λ rising. subst (TellsRuns pairs false (run ∷ []) []) (sym w.list-is)
          (subst (λ told. TellsRuns pairs false (run ∷ []) told w.push_runs.new.told) c.new-list.ensures
          (w.in_ok-push_runs.ensures rising)))
      | in_default-lost w ↦
          subst (λ lost. TellsLost pairs lost between) (sym (ap (option_map box_value) w.in_default-lost.is))
          (w.list-is ∙ c.new-list.ensures)
    ] in
    delta-tells seats table c.requires.seated c.requires.sound actions old cells delta between
    (record { changes = c.in_ok-changes.changes; tags = c.push_runs-2.new.told }) is c.in_ok-changes.ensures.changes
    c.in_ok-changes.ensures.tells lost
    (subst (λ runs. AreRising 0 runs → TellsRuns pairs true runs between c.push_runs-2.new.told) c.deref.ensures.value
    c.in_ok-push_runs-2.ensures)
