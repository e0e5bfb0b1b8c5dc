use Rattle.peers.proofs.Common.{◌≡◌, ◌++◌, ◌-◌, drop, filter, length, take, texts_of, keeps_some}
use Rattle.peers.proofs.document_list.drop_empty.Given as goal

abbrev pub invariant-loop-place : goal.invariant-loop-place
invariant-loop-place g l =
    take l.place l.documents.items ++ filter (keeps_some (texts_of l.names)) (drop l.place l.documents.items)
    ≡ filter (keeps_some (texts_of l.names)) l.fn.documents.items

abbrev pub decreases-loop-place : goal.decreases-loop-place
decreases-loop-place g l = length l.documents.items - l.place
