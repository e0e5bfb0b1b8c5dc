use Rattle.documents.proofs.Common.{take, contains, nat_cmp, texts_of, AreListed}
use Rattle.documents.proofs.documents.Document.list_shared_marks.Given as goal

abbrev pub invariant-loop-name : goal.invariant-loop-name
invariant-loop-name g l =
    AreListed l.self (texts_of (take l.name-index l.names)) (contains nat_cmp l.seen) l.marks
