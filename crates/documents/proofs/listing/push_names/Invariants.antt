use Rattle.documents.proofs.Common.{string_bytes, names_of, Goes, take}
use Rattle.documents.proofs.listing.push_names.Given as goal

abbrev pub invariant-loop-place : goal.invariant-loop-place
invariant-loop-place l = Goes (string_bytes l.fn.list) (string_bytes l.list) (take l.place (names_of l.tags.tags))
