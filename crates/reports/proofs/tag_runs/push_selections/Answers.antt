use Rattle.reports.proofs.Common.{◌+◌, map, sym, subst, take, take_all, chars, seat_pair, TellsRuns, arith, length, ◌≤◌}
use Rattle.reports.proofs.KeyListLaws.{runs-begun, selection-in, selection-out}
use Rattle.reports.proofs.tag_runs.push_selections.Goals.{then-has+in_ok-key+in_ok-push_joined, else-has}
use Rattle.reports.proofs.tag_runs.push_selections.Goals as goal

pub loop-place-init : goal.loop-place-init
loop-place-init c = λ rising. runs-begun c.args.on c.args.runs.now c.args.told.now

pub loop-place-preserved : goal.loop-place-preserved
loop-place-preserved c = λ rising.
    let seats = c.args.seats.now.entries in
    let place = c.loop-place.place in
    let on = c.args.on in
    let runs = c.args.runs.now in
    let told = c.args.told.now in
    let before = c.loop-place.told in
    elim c.if-has.branch [
      | then-has+in_ok-key+in_ok-push_joined w ↦
          subst (TellsRuns (map seat_pair (take (place + 1) seats)) on runs told) (sym w.told-is)
          (selection-in on runs told before seats place c.number.result (chars w.name.result.now) w.in_ok-key.key
          w.push_joined.new.self w.name.ensures c.number.ensures.value w.in_ok-key.ensures
          (c.loop-place.invariant rising) (w.in_ok-push_joined.ensures rising))
      | else-has w ↦
          subst (TellsRuns (map seat_pair (take (place + 1) seats)) on runs told) (sym w.told-is)
          (selection-out on runs told before seats place c.number.result c.args.slots.now c.has.result c.requires.held
          c.number.ensures.value c.has.ensures w.if-has.false (c.loop-place.invariant rising))
    ]

pub returns : goal.returns
returns c = λ rising.
    let seats = c.args.seats.now.entries in
    let place = c.loop-place.place in
    let all : length seats ≤ place = omega (arith, c.len-place-end.ensures.value, c.loop-place-test.false) in
    subst (λ entries. TellsRuns (map seat_pair entries) c.args.on c.args.runs.now c.args.told.now c.loop-place.told)
    (take_all place seats all) (c.loop-place.invariant rising)
