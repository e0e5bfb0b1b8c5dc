use Rattle.documents.proofs.Common.{◌≤◌, ◌++◌, ◌∙◌, ℕ, List, arith, ap, sym, map, length, take_all, append-nil}
use Rattle.documents.proofs.Common.{length-map, chars, Named, Mark, watched, MarkKey}
use Rattle.name_list.specs.Names.{names_of}
use Rattle.mark_table.specs.SharedMarks.{names_of as mark_names}
use Rattle.documents.proofs.ListedMarksLaws.{keys-kept, own-more, shared-more, shared_listed}
use Rattle.documents.proofs.MarkReportLaws.{own_listed}
use Rattle.documents.proofs.PartsLaws.{stand}
use Rattle.documents.proofs.documents.Document.list_marks.Goals as goal

pub loop-seat-preserved : goal.loop-seat-preserved
loop-seat-preserved g c =
    own-more c.args.self.now (names_of c.self.inside.seats.entries) c.loop-seat.seat (chars c.name.result.now)
    c.loop-seat.marks c.push_own_marks.new.marks c.name.ensures c.loop-seat.invariant c.in_ok-push_own_marks.ensures

pub loop-mark-init : goal.loop-mark-init
loop-mark-init g c =
    let seats = c.self.inside.seats.entries in
    let past : length (names_of seats) ≤ c.loop-seat.seat = omega (
      arith,
      length-map seats (λ (seat : Named). seat.name),
      c.len-seat-end.ensures.value,
      c.loop-seat-test.false,
    ) in
    c.loop-seat.invariant
    ∙ ap (λ (keys : List MarkKey). map (watched c.args.self.now) keys)
    (ap own_listed (take_all c.loop-seat.seat (names_of seats) past) ∙ sym (append-nil (own_listed (names_of seats))))

pub loop-mark-preserved : goal.loop-mark-preserved
loop-mark-preserved g c =
    shared-more c.args.self.now (own_listed (names_of c.self.inside.seats.entries)) (mark_names c.self.inside.marks.marks)
    c.loop-mark.mark (chars c.name-in-loop-mark.result.now) c.loop-mark.marks c.push_mark.new.marks
    c.name-in-loop-mark.ensures c.loop-mark.invariant c.in_ok-push_mark.ensures

pub returns : goal.returns
returns g c =
    let names = mark_names c.self.inside.marks.marks in
    let past : length names ≤ c.loop-mark.mark = omega (
      arith,
      length-map c.self.inside.marks.marks (λ (mark : Mark). mark.name),
      c.len-mark-end.ensures.value,
      c.loop-mark-test.false,
    ) in
    c.loop-mark.invariant
    ∙ ap (map (watched c.args.self.now))
    (ap (λ (ns : List (List ℕ)). own_listed (names_of c.self.inside.seats.entries) ++ shared_listed ns)
    (take_all c.loop-mark.mark names past) ∙ keys-kept (stand c.self.invariant c.self.view_is))
