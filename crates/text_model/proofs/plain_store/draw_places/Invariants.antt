use Rattle.text_model.proofs.Common.{◌≡◌, ◌++◌, map, take, drop, option_map, drawn}
use Rattle.text_model.proofs.plain_store.draw_places.Given as goal

abbrev pub invariant-loop-place : goal.invariant-loop-place
invariant-loop-place l = l.places ≡ map (option_map (drawn l.from l.to)) (take l.place-index l.initial.places)
    ++ drop l.place-index l.initial.places
