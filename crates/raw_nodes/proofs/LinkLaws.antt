-- A link to a node is the name of the node.
use Rattle.raw_nodes.proofs.Common.{◌≡◌, sym, ap, ◌∙◌, subst, Some, name_at, NodePtr}
use denote.RawPtr.{Ptr, block_ptr, null_ptr, count_of, InBlock}
use Rattle.raw_nodes.proofs.PlaceLaws.{name_is}

pub named_at : (p : NodePtr) (a : Ptr) (start : count_of a ≡ 0) → p.at ≡ a → name_at a start ≡ Some p
named_at p (block_ptr b o) start e = ap (λ (q : NodePtr). Some q) (name_is _ p (sym e))
named_at p null_ptr start e = absurd (subst InBlock (sym p.start ∙ e) tt)
