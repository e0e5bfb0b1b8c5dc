-- What stands at a name after one record was made or changed.
use Rattle.std.proofs.Common.{◌≡◌, refl, sym, ap, ◌∙◌, subst}
use Rattle.std.specs.Prelude.{IfSome, IsSome, None, Some, option_map}
use Rattle.std.specs.FinMap.{get, insert}
use Rattle.raw_nodes.specs.Records.{Record, Records, blank, update, with_sum}
use Rattle.raw_nodes.specs.declared.names.NodePtr.{NodePtr}
use Rattle.raw_nodes.proofs.MapLaws.{get_inserted}
use Rattle.raw_nodes.proofs.UpdateLaws.{get-update}
use Rattle.toggle_sums.specs.Counts.{Count}

pub get-made : (m n : Records) (p : NodePtr) (r : Record) → n ≡ insert m p r → get n p ≡ Some r
get-made m n p r is = ap (λ (k : Records). get k p) is ∙ get_inserted m p r

pub get-updated : (m n : Records) (p : NodePtr) (f : Record → Record) (r : Record) → n ≡ update m p f →
    get m p ≡ Some r → get n p ≡ Some (f r)
get-updated m n p f r is there =
    ap (λ (k : Records). get k p) is ∙ get-update m p f ∙ ap (option_map f) there

-- an inner node that was made, and got a sum
pub get-summed : (m n q : Records) (p : NodePtr) (sum : Count) → n ≡ insert m p (blank None) →
    q ≡ update n p (λ r. with_sum r sum) → get q p ≡ Some (with_sum (blank None) sum)
get-summed m n q p sum made summed =
    get-updated n q p (λ r. with_sum r sum) (blank None) summed (get-made m n p (blank None) made)

pub named : (n : Records) (p : NodePtr) (r : Record) → get n p ≡ Some r → IsSome (get n p)
named n p r there = subst (λ o. IsSome o) (sym there) refl

pub inner : (n : Records) (p : NodePtr) (r : Record) → get n p ≡ Some r → r.line ≡ None →
    IsSome (get n p) × IfSome (get n p) (λ (r : Record). r.line ≡ None)
inner n p r there none = (named n p r there, subst (λ o. IfSome o (λ (r : Record). r.line ≡ None)) (sym there) none)

pub at : (n : Records) (p : NodePtr) (r : Record) (P : Record → Type 0) → get n p ≡ Some r → P r → IfSome (get n p) P
at n p r P there holds = subst (λ o. IfSome o P) (sym there) holds

-- where no record changed
pub still-same : (m n : Records) (p : NodePtr) → n ≡ m → IsSome (get m p) → IsSome (get n p)
still-same m n p is s = subst (λ (k : Records). IsSome (get k p)) (sym is) s
