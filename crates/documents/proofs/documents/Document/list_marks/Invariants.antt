use Rattle.documents.proofs.Common.{◌≡◌, ◌++◌, map, take, watched}
use Rattle.name_list.specs.Names.{names_of}
use Rattle.mark_table.specs.SharedMarks.{names_of as mark_names}
use Rattle.documents.proofs.ListedMarksLaws.{shared_listed}
use Rattle.documents.proofs.MarkReportLaws.{own_listed}
use Rattle.documents.proofs.documents.Document.list_marks.Given as goal

abbrev pub invariant-loop-seat : goal.invariant-loop-seat
invariant-loop-seat g l =
    l.marks ≡ map (watched l.self) (own_listed (take l.seat (names_of l.self-inside.seats.entries)))

abbrev pub invariant-loop-mark : goal.invariant-loop-mark
invariant-loop-mark g l =
    l.marks ≡ map (watched l.self) (own_listed (names_of l.self-inside.seats.entries)
    ++ shared_listed (take l.mark (mark_names l.self-inside.marks.marks)))
