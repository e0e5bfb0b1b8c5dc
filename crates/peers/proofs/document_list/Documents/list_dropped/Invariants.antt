use Rattle.peers.proofs.Common.{◌≡◌, flat_map, take, texts_of, marks_dropped}
use Rattle.peers.proofs.document_list.Documents.list_dropped.Given as goal

abbrev pub invariant-loop-place : goal.invariant-loop-place
invariant-loop-place g l = l.marks ≡ flat_map (marks_dropped (texts_of l.names)) (take l.place l.self.list.items)
