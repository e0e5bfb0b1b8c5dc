use Rattle.text_model.proofs.Common.{◌≡◌, ◌-◌, ◌<◌, ◌++◌, length, map, take, drop, set, None, Some, get_or, subst, sym}
use Rattle.text_model.proofs.Common.{ap, ◌∙◌, arith, option_map, length-map, PutMark, TakeMark, plain_content}
use Rattle.text_model.proofs.Common.{plain_marks, moved, drawn, StepFits, after_step, cells_of, without_slots}
use Rattle.text_model.proofs.PlaceLaws.{get-plain_marks}
use Rattle.text_model.proofs.PlainLaws.{all_written, plain_content-removed, plain_content-inserted, IsPlain-after_step}
use Rattle.text_model.proofs.SpliceLaws.{length-inserted, length-cells_of, changed-one}
use Rattle.std.specs.FinMap as finite
use Rattle.text_model.proofs.plain_store.make_step.Goals as goal

pub move_places-requires-clause-within : goal.move_places-requires-clause-within
move_places-requires-clause-within c =
    let places = c.args.places.now.items in
    λ number place is.
    let there : get_or places number None ≡ Some place = ap (λ xs. get_or xs number None)
    (sym c.deref_mut-in-Insert.ensures.value) ∙ is in
    omega (
      arith,
      c.requires.plain.stand number place (get-plain_marks places number ∙ there),
      c.len-end.ensures,
      c.args.cells.now.ok.0,
    )

pub returns-in-Remove-clause-made : goal.returns-in-Remove-clause-made
returns-in-Remove-clause-made c =
    let cells = c.args.cells.now.items in
    let places = c.args.places.now.items in
    let f = drawn c.in-Remove.from c.in-Remove.to in
    let placed = c.draw_places.ensures ∙ ap (map (option_map f)) c.deref_mut.ensures.value in
    let long = ap length placed ∙ length-map places (option_map f) ∙ sym c.args.places.now.ok.0 in
    plain_content-removed cells _ places _ c.in-Remove.from c.in-Remove.to c.remove_cells.ensures
    (all_written _ c.draw_places.new.places places long ∙ placed)
    ∙ ap (λ step. after_step step (plain_content cells places)) (sym c.in-Remove.is)

pub returns-in-Remove-clause-plain : goal.returns-in-Remove-clause-plain
returns-in-Remove-clause-plain c =
    let places = c.args.places.now.items in
    let f = drawn c.in-Remove.from c.in-Remove.to in
    let long = ap length (c.draw_places.ensures ∙ ap (map (option_map f)) c.deref_mut.ensures.value)
    ∙ length-map places (option_map f) ∙ sym c.args.places.now.ok.0 in
    IsPlain-after_step c.args.step.now c.args.cells.now.items _ places _ c.requires.fits c.requires.plain
    (returns-in-Remove-clause-made c)
    (omega (
      arith,
      ap length (all_written _ c.draw_places.new.places places long),
      long,
      c.args.places.now.ok.0,
      c.requires.plain.few,
    ))

pub returns-in_ok-insert_cells-in-Insert-clause-made : goal.returns-in_ok-insert_cells-in-Insert-clause-made
returns-in_ok-insert_cells-in-Insert-clause-made c =
    let cells = c.args.cells.now.items in
    let places = c.args.places.now.items in
    let at = c.in-Insert.at in
    let text = c.in-Insert.text in
    let tags = c.in-Insert.tags in
    let f = moved at (c.len.result - c.len-end.result) in
    let fits : at < length cells = subst (λ step. StepFits step (plain_content cells places)) c.in-Insert.is
    c.requires.fits in
    let found = c.in_ok-insert_cells-in-Insert.ensures in
    let count : c.len.result - c.len-end.result
    ≡ length text = omega (
      arith,
      c.len.ensures,
      c.len-end.ensures,
      c.args.cells.now.ok.0,
      c.insert_cells.new.cells.ok.0,
      ap length found,
      length-inserted at (cells_of text tags) cells (omega (arith, fits)),
      length-cells_of text tags,
    ) in
    let placed = c.move_places.ensures ∙ ap (map (option_map f)) c.deref_mut-in-Insert.ensures.value in
    let long = ap length placed ∙ length-map places (option_map f) ∙ sym c.args.places.now.ok.0 in
    plain_content-inserted cells _ places _ at (c.len.result - c.len-end.result) text tags found count
    (all_written _ c.move_places.new.places places long ∙ placed)
    ∙ ap (λ step. after_step step (plain_content cells places)) (sym c.in-Insert.is)

pub returns-in_ok-insert_cells-in-Insert-clause-plain : goal.returns-in_ok-insert_cells-in-Insert-clause-plain
returns-in_ok-insert_cells-in-Insert-clause-plain c =
    let places = c.args.places.now.items in
    let f = moved c.in-Insert.at (c.len.result - c.len-end.result) in
    let long = ap length (c.move_places.ensures ∙ ap (map (option_map f)) c.deref_mut-in-Insert.ensures.value)
    ∙ length-map places (option_map f) ∙ sym c.args.places.now.ok.0 in
    IsPlain-after_step c.args.step.now c.args.cells.now.items _ places _ c.requires.fits c.requires.plain
    (returns-in_ok-insert_cells-in-Insert-clause-made c)
    (omega (
      arith,
      ap length (all_written _ c.move_places.new.places places long),
      long,
      c.args.places.now.ok.0,
      c.requires.plain.few,
    ))

pub returns-in-ClearTags-clause-made : goal.returns-in-ClearTags-clause-made
returns-in-ClearTags-clause-made c =
    let cells = c.args.cells.now.items in
    let places = c.args.places.now.items in
    let at = c.in-ClearTags.at in
    let here = c.index_mut.result.now in
    let fits : at < length cells = subst (λ step. StepFits step (plain_content cells places)) c.in-ClearTags.is
    c.requires.fits in
    let cleared = ap (λ tags. set cells at (record { character = here.character; tags = tags })) c.empty.ensures
    ∙ sym (changed-one without_slots at cells here fits c.index_mut.ensures.value) in
    ap (λ found. plain_content found places) cleared
    ∙ ap (λ step. after_step step (plain_content cells places)) (sym c.in-ClearTags.is)

pub returns-in_ok-put_place-in-PutMark-clause-plain : goal.returns-in_ok-put_place-in-PutMark-clause-plain
returns-in_ok-put_place-in-PutMark-clause-plain c =
    let cells = c.args.cells.now.items in
    let places = c.args.places.now.items in
    let found = c.in_ok-put_place-in-PutMark.ensures in
    let marks : plain_content cells c.put_place.new.places.items
    ≡ after_step (PutMark c.in-PutMark.number c.in-PutMark.place) (plain_content cells places) =
    λ i. record { cells = cells; marks = found.marks i } in
    IsPlain-after_step c.args.step.now cells _ places _ c.requires.fits c.requires.plain (marks
    ∙ ap (λ step. after_step step (plain_content cells places)) (sym c.in-PutMark.is))
    (omega (arith, found.few, c.put_place.new.places.ok.0, c.args.places.now.ok.0, c.requires.plain.few))

pub returns-in-TakeMark-clause-plain : goal.returns-in-TakeMark-clause-plain
returns-in-TakeMark-clause-plain c =
    let cells = c.args.cells.now.items in
    let places = c.args.places.now.items in
    let long : length c.take_place.new.places ≡ c.args.places.now.len = c.take_place.auto.places
    ∙ ap length c.deref_mut-in-TakeMark.ensures.value ∙ sym c.args.places.now.ok.0 in
    let written = all_written _ c.take_place.new.places places long in
    let taken = ap plain_marks written ∙ c.take_place.ensures
    ∙ ap (λ xs. finite.remove (plain_marks xs) c.in-TakeMark.number.0) c.deref_mut-in-TakeMark.ensures.value in
    let left = take c.args.places.now.len (c.take_place.new.places ++ drop (length c.take_place.new.places) places) in
    let marks : plain_content cells left ≡ after_step (TakeMark c.in-TakeMark.number) (plain_content cells places)
    = λ i. record { cells = cells; marks = taken i } in
    IsPlain-after_step c.args.step.now cells _ places _ c.requires.fits c.requires.plain (marks
    ∙ ap (λ step. after_step step (plain_content cells places)) (sym c.in-TakeMark.is))
    (omega (arith, ap length written, long, c.args.places.now.ok.0, c.requires.plain.few))
