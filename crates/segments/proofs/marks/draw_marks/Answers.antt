use Rattle.segments.proofs.Common.{◌<◌, length, set, get_or, ap, ◌∙◌, arith, get_or_default, map_over_more, Left, Place}
use Rattle.segments.proofs.Common.{drawn, Mark, with_place}
use Rattle.segments.proofs.MarkPlaceLaws.{none_drawn}
use Rattle.segments.proofs.marks.draw_marks.Goals as goal

pub loop-mark-preserved : goal.loop-mark-preserved
loop-mark-preserved c =
    let marks = c.loop-mark.marks in
    let index = c.loop-mark.mark-index in
    let none : Mark = record { number = record { 0 = 0 }; place = record { offset = 0; gravity = Left } } in
    let mark = get_or marks index none in
    let within : index < length marks = omega (arith, c.loop-mark-test.true, c.loop-mark.auto.marks) in
    ap (λ (place : Place). set marks index (record { number = mark.number; place = place })) c.drawn-mark.ensures
    ∙ map_over_more (with_place (drawn c.args.from c.args.to)) c.args.marks.now marks index mark c.loop-mark-test.true
    c.loop-mark.invariant (get_or_default marks index none mark within)

pub returns-then-reach-from-clause-drawn : goal.returns-then-reach-from-clause-drawn
returns-then-reach-from-clause-drawn c =
    none_drawn c.args.from c.args.to c.args.reach c.args.marks.now c.requires.ordered c.if-reach-from.true c.requires.stand
