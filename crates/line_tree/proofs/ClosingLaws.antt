-- One child less for a node: each behind its slot goes one slot back.
use Rattle.line_tree.proofs.Common.{◌≡◌, ℕ, suc, ◌+◌, ◌-◌, ◌<◌, ◌≤◌, List, ◌∷◌, length, get_or, drop, replicate, sym}
use Rattle.line_tree.proofs.Common.{ap, ◌∙◌, subst, arith, length-set, ◌≢◌, IfSome, IsSome, slice_get, Option, None}
use Rattle.line_tree.proofs.Common.{Some, remove, option_map, at_drop_more, get_or-set_other, length-remove}
use Rattle.line_tree.proofs.Common.{slice_get-get_or, slice_get_past, slice_get_within, Among, CanFill, link_one}
use Rattle.line_tree.proofs.Common.{relinked, Links, NodePtr, Record, Records, update, with_child, with_parent, kids}
use Rattle.line_tree.proofs.Common.{row, at_some, get_or-row, length-row, get-update, get-update-other, HasRow}
use Rattle.line_tree.proofs.AmongLaws.{get-among}
use Rattle.line_tree.proofs.EvenLaws.{kept-remove, remove-above}
use Rattle.line_tree.proofs.KeptLaws.{drop-front, empty-same}
use Rattle.line_tree.proofs.RowLaws.{past}
use Rattle.line_tree.proofs.UpdateLaws.{InnerIn, inner-link_one, inner-row, named-link_one}
use Rattle.std.specs.FinMap as finite

-- those before a slot are written; behind it stand the children of before
pub record Closing (m n : Records) (p : NodePtr) (slot at : ℕ) : Type 0 where
  pub low : slot ≤ at
  pub high : at < length (kids m p)
  pub rest : relinked n p at (drop at (row (remove (kids m p) slot))) ≡ relinked m p 0 (row (remove (kids m p) slot))
  pub node : Record
  pub is : finite.get n p ≡ Some node
  pub long : length node.children ≡ 12
  pub behind : (j : ℕ) → at < j → get_or node.children j None ≡ slice_get (kids m p) j
  pub names : (q : NodePtr) → IsSome (finite.get m q) → IsSome (finite.get n q)
  pub inner : InnerIn n p

module _ (m : Records) (p : NodePtr) (slot : ℕ) (has : HasRow m p) (links : Links m p 0 (kids m p))
    (within : slot < length (kids m p)) (fill : CanFill m p (remove (kids m p) slot)) where
  abbrev left : List NodePtr
  left = remove (kids m p) slot

  long-left : length left + 1 ≡ length (kids m p)
  long-left = let n = length-remove (kids m p) slot within in omega arith

  row-long : length (row left) ≡ 12
  row-long = length-row left fill.few

  pub close-first : Closing m m p slot slot
  close-first = record {
    low = omega arith;
    high = within;
    rest = sym (kept-remove m p slot has links within);
    node = has.found;
    is = has.is;
    long = ap length has.children ∙ length-row (kids m p) has.few;
    behind = λ j above. ap (λ cs. get_or cs j None) has.children ∙ get_or-row (kids m p) j;
    names = λ q named. named;
    inner = inner-row m p has;
  }

  module _ (n : Records) (at : ℕ) (s : Closing m n p slot at) where
    pub close-within : at < 12
    close-within = let h = s.high in let few = has.few in omega arith

    -- the child that a look behind the slot gives
    pub close-read : (o : Option NodePtr) → IfSome (finite.get n p) (λ r. o ≡ get_or r.children (at + 1) None) →
        o ≡ slice_get (kids m p) (suc at)
    close-read o says = let e : at + 1 ≡ suc at = omega arith in
        at_some (finite.get n p) (λ r. o ≡ get_or r.children (at + 1) None) s.node says s.is
        ∙ s.behind (at + 1) (omega arith) ∙ ap (slice_get (kids m p)) e

    module _ (c : NodePtr) (hand : Some c ≡ slice_get (kids m p) (suc at)) where
      more : suc at < length (kids m p)
      more = slice_get_within (kids m p) (suc at) c (sym hand)

      at-left : slice_get left at ≡ Some c
      at-left = let e : at + 1 ≡ suc at = omega arith in
          remove-above (kids m p) slot at within s.low ∙ ap (slice_get (kids m p)) e ∙ sym hand

      other : p ≢ c
      other e = fill.apart (subst (λ q. Among q left) (sym e) (get-among left at c at-left))

      pub close-next : Closing m (link_one n p at (Some c)) p slot (at + 1)
      close-next = let i = more in let low = s.low in let room = close-within in let l = row-long in
          let f : at + 1 ≡ suc at = omega arith in let put : Record → Record = λ r. with_child r at (Some c) in
          let os = row left in record {
            low = omega arith;
            high = omega arith;
            rest = ap (λ k. relinked (link_one n p at (Some c)) p k (drop (at + 1) os)) f
                ∙ ap (λ z. relinked (link_one n p at z) p (suc at) (drop (at + 1) os)) (sym (get_or-row left at ∙ at-left))
                ∙ sym (at_drop_more (relinked n p at) os at None (omega arith)) ∙ s.rest;
            node = put s.node;
            is = get-update-other (update n p put) c (λ r. with_parent r (Some p) at) p other ∙ get-update n p put
                ∙ ap (option_map put) s.is;
            long = length-set s.node.children at (Some c) ∙ s.long;
            behind = λ j above.
                get_or-set_other s.node.children at j (Some c) None (omega arith) ∙ s.behind j (omega arith);
            names = λ q named. named-link_one n p at (Some c) q (s.names q named);
            inner = inner-link_one n p at (Some c) p s.inner;
          }

    pub close-last : None ≡ slice_get (kids m p) (suc at) → link_one n p at None ≡ relinked m p 0 (row left)
    close-last none =
        let end = past (kids m p) (suc at) (sym none) in let high = s.high in let a = long-left in
        let room = close-within in let long = s.long in
        let e : at ≡ length left = omega arith in let f : 12 - length left ≡ suc (11 - at) = omega arith in
        let empty : drop at (row left) ≡ None ∷ replicate {A = Option NodePtr} (11 - at) None =
        ap (λ k. drop k (row left)) e ∙ drop-front left (replicate {A = Option NodePtr} (12 - length left) None)
        ∙ ap (λ k. replicate {A = Option NodePtr} k None) f in
        let off : Record → Record = λ r. with_child r at None in
        sym (ap (relinked n p at) empty
        ∙ empty-same (link_one n p at None) p (off s.node) (get-update n p off ∙ ap (option_map off) s.is) (suc at)
        (11 - at) (λ j less.
        slice_get-get_or (off s.node).children (suc at + j) None
        (let k = length-set {A = Option NodePtr} s.node.children at None in omega arith)
        ∙ ap (λ o. Some o) (get_or-set_other s.node.children at (suc at + j) None None (omega arith)
        ∙ s.behind (suc at + j) (omega arith) ∙ slice_get_past (kids m p) (suc at + j) (omega arith))))
        ∙ s.rest
