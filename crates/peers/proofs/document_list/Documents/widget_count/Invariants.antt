use Rattle.peers.proofs.Common.{◌≡◌, length, take, windows_of}
use Rattle.peers.proofs.document_list.Documents.widget_count.Given as goal

abbrev pub invariant-loop-place : goal.invariant-loop-place
invariant-loop-place g l = l.count ≡ length (windows_of (take l.place l.self.list.items))
