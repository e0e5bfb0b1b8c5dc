use Rattle.documents.proofs.Common.{◌≡◌, ◌++◌, map, take, texts_of, gone}
use Rattle.name_list.specs.Names.{names_of}
use Rattle.documents.proofs.DroppedMarksLaws.{going}
use Rattle.documents.proofs.MarkReportLaws.{own_listed}
use Rattle.documents.proofs.documents.Document.list_dropped.Given as goal

abbrev pub invariant-loop-seat : goal.invariant-loop-seat
invariant-loop-seat g l =
    l.marks ≡ l.initial.marks
    ++ map (gone l.self) (own_listed (going (texts_of l.names) (take l.seat (names_of l.self-inside.seats.entries))))
