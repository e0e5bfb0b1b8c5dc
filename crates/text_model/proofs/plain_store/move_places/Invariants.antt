use Rattle.text_model.proofs.Common.{◌≡◌, ◌++◌, map, take, drop, option_map, moved}
use Rattle.text_model.proofs.plain_store.move_places.Given as goal

abbrev pub invariant-loop-place : goal.invariant-loop-place
invariant-loop-place l = l.places ≡ map (option_map (moved l.at l.count)) (take l.place-index l.initial.places)
    ++ drop l.place-index l.initial.places
