use Rattle.documents.proofs.Common.{◌≤◌, ◌∙◌, ◌++◌, List, ℕ, length, map, arith, ap, sym, chars, take_all, texts_of}
use Rattle.documents.proofs.Common.{length-map, Named, window_names, parts_of, gone}
use Rattle.name_list.specs.Names.{names_of}
use Rattle.documents.proofs.DroppedMarksLaws.{dropped-more, dropped-past, going}
use Rattle.documents.proofs.MarkReportLaws.{own_listed}
use Rattle.documents.proofs.WellFormedLaws.{windows-kept}
use Rattle.documents.proofs.documents.Document.list_dropped.Goals.{then-is_among+in_ok-push_gone_marks, else-is_among}
use Rattle.documents.proofs.documents.Document.list_dropped.Goals as goal

pub loop-seat-preserved : goal.loop-seat-preserved
loop-seat-preserved g c =
    let document = c.args.self.now in
    let names = texts_of c.args.names.now in
    let own = names_of c.self.inside.seats.entries in
    let name = chars c.name-name.result.now in
    elim c.if-is_among.branch [
      | then-is_among+in_ok-push_gone_marks w ↦
          w.marks-is
          ∙ dropped-more document names own c.loop-seat.seat name c.args.marks.now c.loop-seat.marks
          w.push_gone_marks.new.marks c.name-name.ensures (sym c.is_among.ensures ∙ w.if-is_among.true)
          c.loop-seat.invariant w.in_ok-push_gone_marks.ensures
      | else-is_among w ↦
          w.marks-is
          ∙ dropped-past document names own c.loop-seat.seat name c.args.marks.now c.loop-seat.marks
          c.name-name.ensures (sym c.is_among.ensures ∙ w.if-is_among.false) c.loop-seat.invariant
    ]

pub returns : goal.returns
returns g c =
    let document = c.args.self.now in
    let names = texts_of c.args.names.now in
    let seats = c.self.inside.seats.entries in
    let past : length (names_of seats) ≤ c.loop-seat.seat = omega (
      arith,
      length-map seats (λ (seat : Named). seat.name),
      c.len-seat-end.ensures.value,
      c.loop-seat-test.false,
    ) in
    c.loop-seat.invariant
    ∙ ap (λ (own : List (List ℕ)). c.args.marks.now ++ map (gone document) (own_listed (going names own)))
    (take_all c.loop-seat.seat (names_of seats) past ∙ sym (windows-kept (parts_of g.S.TextStore.content c.self.inside)) ∙ ap window_names c.self.view_is)
