use Rattle.std.specs.FinSet as set
use Rattle.documents.proofs.Common.{string_bytes, filter, Tag, names_of, Goes, own_slot, take}
use Rattle.documents.proofs.listing.push_names_in.Given as goal

abbrev pub invariant-loop-place : goal.invariant-loop-place
invariant-loop-place l = Goes (string_bytes l.fn.list) (string_bytes l.list)
    (names_of (filter (λ (tag : Tag). set.contains l.slots (own_slot l.own.0 tag.slot)) (take l.place l.tags.tags)))
