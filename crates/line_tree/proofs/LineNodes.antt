-- A line by its name.
use Rattle.line_tree.proofs.Common.{◌≡◌, ℕ, zero, suc, List, refl, sym, ap, ◌∙◌, subst, IsSome, slice_get, Option, None}
use Rattle.line_tree.proofs.Common.{Some, option_map, none-some, same_Some, IsTree, line_of, lines_in, LineContent}
use Rattle.line_tree.proofs.Common.{Named, lines, NodePtr, Record, Records, kids, IsLineAt}
use Rattle.line_tree.proofs.PlaceLaws.{named_line, through}
use Rattle.line_tree.proofs.TreeLaws.{child-tree}
use Rattle.std.specs.FinMap as finite

-- line k has this name, and stands in this record
pub record StandsAt (m : Records) (ls : List Named) (k : ℕ) (p : NodePtr) : Type 0 where
  pub line : LineContent
  pub found : Record
  pub is : finite.get m p ≡ Some found
  pub held : found.line ≡ Some line
  pub at : slice_get ls k ≡ Some (p, line)

record_of : (o : Option Record) (l : LineContent) → line_of o ≡ Some l →
    (found : Record) × (o ≡ Some found) × (found.line ≡ Some l)
record_of None l is = absurd (none-some l is)
record_of (Some r) l is = (r, refl, is)

alone : (r p : NodePtr) (o : Option LineContent) (k : ℕ) → IsLineAt (lines zero (r, o)) k p →
    (l : LineContent) × (o ≡ Some l) × (slice_get (lines zero (r, o)) k ≡ Some (p, l)) × (r ≡ p)
alone r p None k at = absurd (none-some p at)
alone r p (Some l) zero at = let same = same_Some r p at in (l, refl, ap (λ q. Some (q, l)) same, same)
alone r p (Some l) (suc k) at = absurd (none-some p at)

pub stands-at : (m : Records) (h : ℕ) (r p : NodePtr) (k : ℕ) → IsTree m h r → IsLineAt (lines_in m h r) k p →
    StandsAt m (lines_in m h r) k p
stands-at m zero r p k tree at =
    let one = alone r p (line_of (finite.get m r)) k at in
    let found = record_of (finite.get m p) one.0 (ap (λ q. line_of (finite.get m q)) (sym one.3) ∙ one.1) in
    record { line = one.0; found = found.0; is = found.1; held = found.2; at = one.2 }
stands-at m (suc h) r p k tree at =
    let l = named_line (lines_in m (suc h) r) k p at in
    let t = through m h (kids m r) k l.0 tree.2 l.1 in
    let down = stands-at m h t.child p t.rest (child-tree m h (kids m r) t.slot t.child tree.2 t.at)
    (ap (option_map (λ x. x.0)) t.line ∙ ap (λ x. Some x) l.2) in
    record { line = down.line; found = down.found; is = down.is; held = down.held; at = l.1 ∙ sym t.line ∙ down.at }

pub named-line : (m : Records) (ls : List Named) (k : ℕ) (p : NodePtr) → StandsAt m ls k p → IsSome (finite.get m p)
named-line m ls k p s = subst (λ o. IsSome o) (sym s.is) refl

-- what is lent is there, and is that line
pub lent-some : {A B : Type 0} (f : A → B) (o : Option A) (y : B) → option_map f o ≡ Some y → IsSome o
lent-some f None y is = absurd (none-some y is)
lent-some f (Some x) y is = refl

pub lent-same : {A B : Type 0} (f : A → B) (o : Option A) (x : A) (y : B) → option_map f o ≡ Some y → o ≡ Some x →
    y ≡ f x
lent-same f o x y is some = same_Some y (f x) (sym is ∙ ap (option_map f) some)
