-- One more child for a node with room: each from its slot on goes one slot on.
use Rattle.line_tree.proofs.Common.{◌≡◌, ℕ, zero, suc, ◌+◌, ◌-◌, ◌<◌, ◌≤◌, List, [], ◌∷◌, length, get_or, drop}
use Rattle.line_tree.proofs.Common.{replicate, false, refl, sym, ap, ◌∙◌, subst, arith, length-set, ◌≢◌, IfSome, IsSome}
use Rattle.line_tree.proofs.Common.{is_some, slice_get, Option, None, Some, insert, option_map, at_drop_more}
use Rattle.line_tree.proofs.Common.{get_or-set_other, length-insert, slice_get-get_or, slice_get_past, slice_get_within}
use Rattle.line_tree.proofs.Common.{Count, plus, NodePtr, Record, Records, update, with_child, with_parent, kids, row}
use Rattle.line_tree.proofs.Common.{at_some, some_of, get_or-row, length-row, get-update, get-update-other, Among}
use Rattle.line_tree.proofs.Common.{CanFill, CanPut, Fills, FitsSum, link_one, relinked, resummed, sum_all, sums}
use Rattle.line_tree.proofs.Common.{HasRow, sum_at}
use mathlib.Core.Bool.{false≢true}
use Rattle.line_tree.proofs.AmongLaws.{get-among}
use Rattle.line_tree.proofs.FillLaws.{insert-above, relinked-has_row, relinked-sums, sum-relinked}
use Rattle.line_tree.proofs.KeptLaws.{drop-front, empty-same}
use Rattle.line_tree.proofs.PutLaws.{fill-room, kept-put, long, named-all}
use Rattle.line_tree.proofs.RowLaws.{child_is, past}
use Rattle.line_tree.proofs.UpdateLaws.{InnerIn, inner-link_one, inner-row, named-link_one}
use Rattle.std.specs.FinMap as finite

-- those before a slot are written, and o is the child that gets the slot
pub record Shifting (m n : Records) (p : NodePtr) (at : ℕ) (x : NodePtr) (slot : ℕ) (o : Option NodePtr) : Type 0 where
  pub low : at ≤ slot
  pub high : slot ≤ length (insert (kids m p) at x)
  pub hand : o ≡ slice_get (insert (kids m p) at x) slot
  pub rest :
      relinked n p slot (drop slot (row (insert (kids m p) at x))) ≡ relinked m p 0 (row (insert (kids m p) at x))
  pub node : Record
  pub is : finite.get n p ≡ Some node
  pub long : length node.children ≡ 12
  pub behind : (j : ℕ) → slot ≤ j → get_or node.children j None ≡ slice_get (kids m p) j
  pub names : (q : NodePtr) → IsSome (finite.get m q) → IsSome (finite.get n q)
  pub inner : InnerIn n p

insert-here : (xs : List NodePtr) (at : ℕ) (y : NodePtr) → at ≤ length xs → Some y ≡ slice_get (insert xs at y) at
insert-here xs zero y h = refl
insert-here [] (suc at) y h = absurd (omega arith)
insert-here (x ∷ xs) (suc at) y h = insert-here xs at y (omega arith)

module _ (m : Records) (p : NodePtr) (at : ℕ) (x : NodePtr) (can : CanPut m p at x) (few : length (kids m p) < 12) where
  abbrev all : List NodePtr
  all = insert (kids m p) at x

  long-all : length all ≡ length (kids m p) + 1
  long-all = let n = length-insert (kids m p) at x can.place in omega arith

  row-long : length (row all) ≡ 12
  row-long = let n = long-all in length-row all (omega arith)

  pub shift-first : Shifting m m p at x at (Some x)
  shift-first = let n = long-all in let place = can.place in record {
    low = omega arith;
    high = omega arith;
    hand = insert-here (kids m p) at x can.place;
    rest = sym (kept-put m p at x can);
    node = can.row.found;
    is = can.row.is;
    long = long m p at x can;
    behind = λ j above. ap (λ cs. get_or cs j None) can.row.children ∙ get_or-row (kids m p) j;
    names = λ q named. named;
    inner = inner-row m p can.row;
  }

  module _ (n : Records) (slot : ℕ) (c : NodePtr) (s : Shifting m n p at x slot (Some c)) where
    within : slot < length all
    within = slice_get_within all slot c (sym s.hand)

    pub shift-within : slot < 12
    shift-within = let i = within in let a = long-all in omega arith

    pub shift-named : IsSome (finite.get n c)
    shift-named = s.names c (named-all m p at x can c (get-among all slot c (sym s.hand)))

    other : p ≢ c
    other e = can.apart (subst (λ q. Among q all) (sym e) (get-among all slot c (sym s.hand)))

    pub shift-child : (o : Option NodePtr) → IfSome (finite.get n p) (λ r. o ≡ get_or r.children slot None) →
        o ≡ slice_get (kids m p) slot
    shift-child o says =
        at_some (finite.get n p) (λ r. o ≡ get_or r.children slot None) s.node says s.is ∙ s.behind slot (omega arith)

    pub shift-next : (o : Option NodePtr) → o ≡ slice_get (kids m p) slot →
        Shifting m (link_one n p slot (Some c)) p at x (slot + 1) o
    shift-next o is = let i = within in let low = s.low in let room = shift-within in let l = row-long in
        let e : slot + 1 - 1 ≡ slot = omega arith in let f : slot + 1 ≡ suc slot = omega arith in
        let put : Record → Record = λ r. with_child r slot (Some c) in
        let os = row all in record {
          low = omega arith;
          high = omega arith;
          hand = is ∙ ap (slice_get (kids m p)) (sym e)
              ∙ sym (insert-above (kids m p) at (slot + 1) x can.place (omega arith));
          rest = ap (λ k. relinked (link_one n p slot (Some c)) p k (drop (slot + 1) os)) f
              ∙ ap (λ z. relinked (link_one n p slot z) p (suc slot) (drop (slot + 1) os)) (s.hand
              ∙ sym (get_or-row all slot))
              ∙ sym (at_drop_more (relinked n p slot) os slot None (omega arith)) ∙ s.rest;
          node = put s.node;
          is = get-update-other (update n p put) c (λ r. with_parent r (Some p) slot) p other ∙ get-update n p put
              ∙ ap (option_map put) s.is;
          long = length-set s.node.children slot (Some c) ∙ s.long;
          behind = λ j above.
              get_or-set_other s.node.children slot j (Some c) None (omega arith) ∙ s.behind j (omega arith);
          names = λ q named. named-link_one n p slot (Some c) q (s.names q named);
          inner = inner-link_one n p slot (Some c) p s.inner;
        }

  pub shift-last : (n : Records) (slot : ℕ) → Shifting m n p at x slot None → n ≡ relinked m p 0 (row all)
  shift-last n slot s =
      let none = replicate {A = Option NodePtr} (12 - length all) None in let a = long-all in
      let end = past all slot (sym s.hand) in let high = s.high in let long = s.long in
      let e : slot ≡ length all = omega arith in
      let same = ap (λ k. drop k (row all)) e ∙ drop-front all none in
      sym (ap (relinked n p slot) same
      ∙ empty-same n p s.node s.is slot (12 - length all) (λ j less.
      slice_get-get_or s.node.children (slot + j) None (omega arith)
      ∙ ap (λ o. Some o) (s.behind (slot + j) (omega arith) ∙ slice_get_past (kids m p) (slot + j) (omega arith))))
      ∙ s.rest

  -- the node's sum, and what it has then
  module _ (n : Records) (is : n ≡ relinked m p 0 (row all)) where
    can-fill : CanFill m p all
    can-fill = let a = long-all in fill-room m p at x can (omega arith)

    pub shifted-row : HasRow n p
    shifted-row = subst (λ z. HasRow z p) (sym is) (relinked-has_row m p all can-fill).0

    shifted-kids : kids n p ≡ all
    shifted-kids = ap (λ z. kids z p) is ∙ (relinked-has_row m p all can-fill).1

    shifted-sums : sums n (row (kids n p)) ≡ sum_all m all
    shifted-sums = ap (λ cs. sums n (row cs)) shifted-kids ∙ ap (λ z. sums z (row all)) is ∙ relinked-sums m p all

    pub shifted-sum : (more : Count) → plus (sum_at m p) more ≡ sum_all m all →
        plus (sum_at n p) more ≡ sums n (row (kids n p))
    shifted-sum more sum = ap (λ s. plus s more) (ap (λ z. sum_at z p) is ∙ sum-relinked m p 0 (row all) p) ∙ sum
        ∙ sym shifted-sums

    pub shifted-fits : FitsSum (sums n (row (kids n p)))
    shifted-fits = subst FitsSum (sym shifted-sums) can.fits

    pub shifted-fills : (u : Records) → u ≡ resummed n p (row (kids n p)) → Fills m u p all
    shifted-fills u same = let a = long-all in record {
      few = omega arith;
      same = same ∙ ap (λ cs. resummed n p (row cs)) shifted-kids ∙ ap (λ z. resummed z p (row all)) is;
    }

-- ---- whether there is room
pub has-room : (m : Records) (p : NodePtr) → HasRow m p → (o : Option NodePtr) →
    IfSome (finite.get m p) (λ r. o ≡ get_or r.children 11 None) → is_some o ≡ false → length (kids m p) < 12
has-room m p has None says none = let e = past (kids m p) 11 (sym (child_is m p has None 11 says)) in omega arith
has-room m p has (Some c) says none = absurd (false≢true (sym none))

pub has-none : (m : Records) (p : NodePtr) → HasRow m p → (o : Option NodePtr) →
    IfSome (finite.get m p) (λ r. o ≡ get_or r.children 11 None) → IsSome o → 12 ≤ length (kids m p)
has-none m p has o says some = let c = some_of o some in
    let e = slice_get_within (kids m p) 11 c.0 (sym (child_is m p has o 11 says) ∙ c.1) in omega arith
