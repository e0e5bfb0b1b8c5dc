use Rattle.documents.proofs.Common.{is_same, Goes, chars, filter, not, string_bytes, take}
use Rattle.name_list.specs.Names.{names_of}
use Rattle.documents.proofs.seats.push_other_seats.Given as goal

abbrev pub invariant-loop-place : goal.invariant-loop-place
invariant-loop-place l = Goes (string_bytes l.fn.list) (string_bytes l.list)
    (filter (λ other. not (is_same other (chars l.name))) (take l.place (names_of l.seats.entries)))
