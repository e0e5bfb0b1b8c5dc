use Rattle.segments.proofs.Common.{◌<◌, length, get_or, sym, ◌∙◌, arith, get_or_default, Left, Mark}
use Rattle.segments.proofs.MarkLaws.{above_end, above_other, find_here, find_none, get-marks_of}
use Rattle.segments.proofs.marks.find_mark.Goals.{else-index-marks-via-then-index-marks+else-marks-index}
use Rattle.segments.proofs.marks.find_mark.Goals.{else-index-marks-via-else-index-marks}
use Rattle.segments.proofs.marks.find_mark.Goals as goal

pub returns-then-marks-index : goal.returns-then-marks-index
returns-then-marks-index c =
    let marks = c.args.marks.now in
    let index = c.count_below-index.result in
    let none : Mark = record { number = record { 0 = 0 }; place = record { offset = 0; gravity = Left } } in
    let mark = get_or marks index none in
    let within : index < length marks = c.if-index-marks.true in
    sym (get-marks_of marks c.args.number.0 c.requires
    ∙ find_here marks index mark c.args.number.0 within c.count_below-index.ensures.below
    (get_or_default marks index none mark within) c.if-marks-index.true)

pub returns : goal.returns
returns c =
    let marks = c.args.marks.now in
    let index = c.count_below-index.result in
    let number = c.args.number.0 in
    let none : Mark = record { number = record { 0 = 0 }; place = record { offset = 0; gravity = Left } } in
    sym (get-marks_of marks number c.requires
    ∙ find_none marks index number c.requires c.count_below-index.ensures.below
    (elim c.else-index-marks.branch [
      | else-index-marks-via-then-index-marks+else-marks-index w ↦
          let mark = get_or marks index none in
          above_other marks index number mark (get_or_default marks index none mark w.if-index-marks.true)
          w.if-marks-index.false c.count_below-index.ensures.above
      | else-index-marks-via-else-index-marks w ↦ above_end marks index number (omega (arith, w.if-index-marks.false))
    ]))
