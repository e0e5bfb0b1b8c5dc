use Rattle.edit_ops.proofs.Common.{◌≡◌, ◌+◌, ◌-◌, Bool, sym, subst, map, deletion, characters, changed, if◌then◌else◌}
use Rattle.edit_ops.proofs.Common.{removed_all, without_slots, Span, sum_by, IsDelta, Delta, ap, ◌∙◌, Some, option_map}
use Rattle.edit_ops.proofs.Common.{box_value}
use Rattle.edit_ops.proofs.DeltaLaws.{bared-delta, long, plain-delta}
use Rattle.edit_ops.proofs.deletions.deletion_delta.Goals.{then-is_bared+in_ok-new, else-is_bared}
use Rattle.edit_ops.proofs.deletions.deletion_delta.Goals as goal

pub returns : goal.returns
returns g c =
    let cells = (g.S.TextStore.content c.args.store.now).cells in
    let end = c.args.end in
    let runs = c.args.runs.items in
    let delta : Delta = record {
      hunks = c.in_ok-take_spans.field-0;
      lost = c.if-is_bared.lost;
      gained = c.new-2.result;
    } in
    let Made : Bool → Type 0 = λ b. IsDelta (map (λ (run : Span). deletion (characters cells) run.from run.to) runs) cells
    (removed_all runs (if b then changed without_slots (end - 1) end cells else cells)) delta in
    let made : Made c.args.is_bared = elim c.if-is_bared.branch [
      | then-is_bared+in_ok-new w ↦ subst Made (sym w.if-is_bared.true)
          (bared-delta cells end runs w.run_before.result delta c.requires.some c.requires.apart c.requires.within
          c.in_ok-take_spans.ensures
          (ap (option_map box_value) w.lost-is ∙ ap Some w.in_ok-new.ensures.ok) c.new-2.ensures.items
          (subst (λ rs. w.run_before.result.from + sum_by long rs ≡ end - 1) w.deref.ensures.value
          w.run_before.ensures.start) w.run_before.ensures.one
          w.run_before.ensures.slots)
      | else-is_bared w ↦ subst Made (sym w.if-is_bared.false)
          (plain-delta cells end runs delta c.requires.apart c.requires.within c.in_ok-take_spans.ensures
          (ap (option_map box_value) w.lost-is) c.new-2.ensures.items)
    ] in (
      c.if-not-rules.false,
      subst (IsDelta (map (λ (run : Span). deletion (characters cells) run.from run.to) runs) cells
          (removed_all runs (if c.args.is_bared then changed without_slots (end - 1) end cells else cells)))
          (sym c.in_ok-new-2.ensures.ok) made,
    )
