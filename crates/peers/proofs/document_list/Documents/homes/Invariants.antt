use Rattle.peers.proofs.Common.{◌≡◌, homes_of, take}
use Rattle.peers.proofs.document_list.Documents.homes.Given as goal

abbrev pub invariant-loop-place : goal.invariant-loop-place
invariant-loop-place g l = l.homes ≡ homes_of (take l.place l.self.list.items)
