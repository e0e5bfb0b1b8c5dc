use Rattle.documents.proofs.Common.{string_bytes, Goes, take}
use Rattle.mark_table.specs.SharedMarks.{names_of}
use Rattle.documents.proofs.listing.push_shared_names.Given as goal

abbrev pub invariant-loop-place : goal.invariant-loop-place
invariant-loop-place l = Goes (string_bytes l.fn.list) (string_bytes l.list) (take l.place (names_of l.marks.marks))
