use Rattle.text_model.proofs.Common.{Some, ap, ◌∙◌, moved}
use Rattle.text_model.proofs.PlaceLaws.{place_more}
use Rattle.text_model.proofs.plain_store.move_places.Goals.{in-None, in-Some}
use Rattle.text_model.proofs.plain_store.move_places.Goals as goal

pub loop-place-preserved : goal.loop-place-preserved
loop-place-preserved c =
    let more = place_more (moved c.args.at c.args.count) c.args.places.now c.loop-place.places c.loop-place.place-index
    in
    elim c.match-place.branch [
      | in-None w ↦ more _ c.match-place.place c.loop-place-test.true c.loop-place.auto.places c.loop-place.invariant
          w.in-None.is w.place-is
      | in-Some w ↦ more _ c.match-place.place c.loop-place-test.true c.loop-place.auto.places c.loop-place.invariant
          w.in-Some.is (w.place-is ∙ ap Some w.moved.ensures)
    ]
