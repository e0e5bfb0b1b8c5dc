use Rattle.peers.proofs.Common.{AllByRecursion, chars, take}
use Rattle.peers.proofs.HomeLaws.{IsWithout}
use Rattle.peers.proofs.document_list.Documents.find.Given as goal

abbrev pub invariant-loop-place : goal.invariant-loop-place
invariant-loop-place g l = AllByRecursion (IsWithout (chars l.name)) (take l.place l.self.list.items)
