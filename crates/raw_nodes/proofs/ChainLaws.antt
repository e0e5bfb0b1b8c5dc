-- What a change of one node does to the spares and to the counts.
use Rattle.raw_nodes.proofs.Common.{◌≡◌, ℕ, ◌<◌, ◌≤◌, ◌+◌, Bool, true, false, List, [], ◌∷◌, ◌++◌, length, get_or, set}
use Rattle.raw_nodes.proofs.Common.{map, drop, refl, sym, ap, ◌∙◌, subst, arith, length-append, IsSome, ◌≢◌, Option}
use Rattle.raw_nodes.proofs.Common.{None, Some, is_some, unwrap_or, sum_by, get_or-set_same, get_or-set_other, map-set}
use Rattle.raw_nodes.proofs.Common.{map-append, length-map, get_or-map, get_or_append_left, set-get_or, sum_by-set}
use Rattle.raw_nodes.proofs.Common.{sum_by-cons, sum_by_push, IsPlace, NotIn, ats, number_in, after_of, afters_of}
use Rattle.raw_nodes.proofs.Common.{before_of, befores_of, behind, if_spare, if_free, flag_of, mark_of, marks_of}
use Rattle.raw_nodes.proofs.Common.{next_of, nexts_of, room_of, IsChain, Record, record_of, if_used, is_used, cell_of}
use Rattle.raw_nodes.proofs.Common.{cells_of, slot_in, NodePtr, Node}
use Prim.Native.Nat.{zero, suc, ◌-◌}
use lib.ListN.{length-set}
use mathlib.Core.Bool.{false≢true}
use mathlib.Core.Logic.{∥∥₁_map, ∥∥₁_elim}
use base.Stored.{Coded-set, coded_ℕ}
use Rattle.std.proofs.Math.Bridge.{le_prop}
use Rattle.raw_nodes.proofs.HeapSteps.{unsnoc}
use Rattle.raw_nodes.proofs.PlaceLaws.{number_new, number_stays}

used_flag : (y : Bool) (r : Record) → IsSome (if_used y r) → y ≡ true
used_flag true r s = refl
used_flag false r s = s

-- the node of a name is in use
pub is_used_at : (xs : List Node) (i : ℕ) (x : Node) → i < length xs → x ≡ get_or xs i x →
    IsSome (get_or (cells_of xs) i None) → is_used x.held ≡ true
is_used_at xs i x h e s = used_flag (is_used x.held) (record_of x)
    (subst (λ o. IsSome o) (get_or-map cell_of xs i x None h ∙ ap cell_of (sym e)) s)

used_cell : (x : Node) → is_used x.held ≡ true → cell_of x ≡ Some (record_of x)
used_cell x e = ap (λ y. if_used y (record_of x)) e

used_mark : (x : Node) → is_used x.held ≡ true → mark_of x ≡ 0
used_mark x e = ap (λ y. if_spare y (slot_in x.held)) e

pub cell_is : (xs : List Node) (i : ℕ) (x : Node) → i < length xs → x ≡ get_or xs i x → is_used x.held ≡ true →
    get_or (cells_of xs) i None ≡ Some (record_of x)
cell_is xs i x h e u = get_or-map cell_of xs i x None h ∙ ap cell_of (sym e) ∙ used_cell x u

pub mark_is : (xs : List Node) (i : ℕ) (x : Node) → i < length xs → x ≡ get_or xs i x → is_used x.held ≡ true →
    get_or (marks_of xs) i 0 ≡ 0
mark_is xs i x h e u = get_or-map mark_of xs i x 0 h ∙ ap mark_of (sym e) ∙ used_mark x u

-- the spares after a change of a node that is none of them
pub chain_set : (ps : List NodePtr) (ms : List ℕ) (ns : List (Option NodePtr)) (n : ℕ) (o : Option NodePtr) (i m : ℕ)
    (t : Option NodePtr)
    → ((k : ℕ) → k < n → get_or ms i 0 ≢ suc k) → IsChain ps ms ns n o → IsChain ps (set ms i m) (set ns i t) n o
chain_set ps ms ns zero None i m t h c = c
chain_set ps ms ns zero (Some p) i m t h c = c
chain_set ps ms ns (suc n) None i m t h c = c
chain_set ps ms ns (suc n) (Some p) i m t h c =
    let other : (number_in ps p) ≢ i = λ e. h n (omega arith) (ap (λ j. get_or ms j 0) (sym e) ∙ c.1) in (
      c.0,
      get_or-set_other ms i (number_in ps p) m 0 other ∙ c.1,
      subst (λ o. IsChain ps (set ms i m) (set ns i t) n o) (sym (get_or-set_other ns i (number_in ps p) t None other))
          (chain_set ps ms ns n (get_or ns (number_in ps p) None) i m t (λ k l. h k (omega arith)) c.2),
    )

pub chain_changed : (ps : List NodePtr) (xs : List Node) (n : ℕ) (o : Option NodePtr) (i : ℕ) (w : Node)
    → ((k : ℕ) → k < n → get_or (marks_of xs) i 0 ≢ suc k) → IsChain ps (marks_of xs) (nexts_of xs) n o →
    IsChain ps (marks_of (set xs i w)) (nexts_of (set xs i w)) n o
chain_changed ps xs n o i w h c =
    subst (λ (ls : List ℕ × List (Option NodePtr)). IsChain ps ls.0 ls.1 n o) (λ j.
    (sym (map-set mark_of xs i w) j, sym (map-set next_of xs i w) j))
    (chain_set ps (marks_of xs) (nexts_of xs) n o i (mark_of w) (next_of w) h c)

pub used_chain : (ps : List NodePtr) (xs : List Node) (n : ℕ) (o : Option NodePtr) (i : ℕ) (x w : Node) →
    i < length xs → x ≡ get_or xs i x → is_used x.held ≡ true
    → ∥ IsChain ps (marks_of xs) (nexts_of xs) n o ∥₁ →
    ∥ IsChain ps (marks_of (set xs i w)) (nexts_of (set xs i w)) n o ∥₁
used_chain ps xs n o i x w h e u c =
    ∥∥₁_map c (chain_changed ps xs n o i w (λ k l z. absurd (omega (arith, sym (mark_is xs i x h e u) ∙ z))))

used_flag_of : (x : Node) → is_used x.held ≡ true → flag_of x ≡ 0
used_flag_of x e = ap if_free e

pub used_count : (xs : List Node) (i : ℕ) (x w : Node) (n : ℕ) → i < length xs → x ≡ get_or xs i x →
    is_used x.held ≡ true → is_used w.held ≡ true → n ≡ sum_by flag_of xs → n ≡ sum_by flag_of (set xs i w)
used_count xs i x w n h e u v s =
    let moved = sum_by-set flag_of xs i w x h in let before = ap flag_of (sym e) ∙ used_flag_of x u in
    let after = used_flag_of w v in omega arith

if_free-le : (y : Bool) → if_free y ≤ 1
if_free-le true = omega arith
if_free-le false = omega arith

-- no more spares than nodes
pub count-le : (xs : List Node) → sum_by flag_of xs ≤ length xs
count-le [] = omega arith
count-le (x ∷ xs) = let one = if_free-le (is_used x.held) in let rest = count-le xs in
    let cut = sum_by-cons flag_of x xs in omega arith

pub IsPlace-prop : (ps : List NodePtr) (p : NodePtr) → IsProp (IsPlace ps p)
IsPlace-prop ps p = λ a b. le_prop a b

IsChain-prop : (ps : List NodePtr) (ms : List ℕ) (ns : List (Option NodePtr)) (n : ℕ) (o : Option NodePtr) →
    IsProp (IsChain ps ms ns n o)
IsChain-prop ps ms ns zero None = λ a b. refl
IsChain-prop ps ms ns zero (Some p) = λ a b. absurd a
IsChain-prop ps ms ns (suc n) None = λ a b. absurd a
IsChain-prop ps ms ns (suc n) (Some p) = λ a b j. (
  IsPlace-prop ps p a.0 b.0 j,
  Coded-set coded_ℕ (get_or ms (number_in ps p) 0) (suc n) a.1 b.1 j,
  IsChain-prop ps ms ns n (get_or ns (number_in ps p) None) a.2 b.2 j,
)

pub chain_had : (ps : List NodePtr) (ms : List ℕ) (ns : List (Option NodePtr)) (n : ℕ) (o : Option NodePtr) →
    ∥ IsChain ps ms ns n o ∥₁ → IsChain ps ms ns n o
chain_had ps ms ns n o c = ∥∥₁_elim c (IsChain-prop ps ms ns n o) (λ x. x)

-- the first spare, and those after it
pub record Head (ps : List NodePtr) (ms : List ℕ) (ns : List (Option NodePtr)) (n : ℕ) (p : NodePtr) : Type 0 where
  pub place : IsPlace ps p
  pub mark : get_or ms (number_in ps p) 0 ≡ n
  pub rest : IsChain ps ms ns (n - 1) (get_or ns (number_in ps p) None)

head_at : (ps : List NodePtr) (ms : List ℕ) (ns : List (Option NodePtr)) (n : ℕ) (p : NodePtr) →
    IsChain ps ms ns n (Some p) → Head ps ms ns n p
head_at ps ms ns zero p c = absurd c
head_at ps ms ns (suc n) p c = let less : n ≡ suc n - 1 = omega arith in
    record {
      place = c.0;
      mark = c.1;
      rest = subst (λ k. IsChain ps ms ns k (get_or ns (number_in ps p) None)) less c.2;
    }

pub chain_head : (ps : List NodePtr) (xs : List Node) (n : ℕ) (o : Option NodePtr) (p : NodePtr) → o ≡ Some p →
    ∥ IsChain ps (marks_of xs) (nexts_of xs) n o ∥₁ → Head ps (marks_of xs) (nexts_of xs) n p
chain_head ps xs n o p e c = head_at ps (marks_of xs) (nexts_of xs) n p
    (subst (λ q. IsChain ps (marks_of xs) (nexts_of xs) n q) e (chain_had ps (marks_of xs) (nexts_of xs) n o c))

-- a node becomes the first spare
pub given_chain : (ps : List NodePtr) (xs : List Node) (n : ℕ) (o : Option NodePtr) (p : NodePtr) (x w : Node) →
    IsPlace ps p → length ps ≡ length xs → x ≡ get_or xs (number_in ps p) x → is_used x.held ≡ true
    → is_used w.held ≡ false → slot_in w.held ≡ n → next_of w ≡ o → ∥ IsChain ps (marks_of xs) (nexts_of xs) n o ∥₁ →
    ∥ IsChain ps (marks_of (set xs (number_in ps p) w)) (nexts_of (set xs (number_in ps p) w)) (n + 1) (Some p) ∥₁
given_chain ps xs n o p x w at paired e u v s t c =
    let i = number_in ps p in let here : i < length xs = omega (arith, at) in let ys = set xs i w in
    let there : i < length ys = subst (λ k. i < k) (sym (length-set xs i w)) here in
    let same = get_or-set_same xs i w x here in
    let mark : get_or (marks_of ys) i 0 ≡ suc n = get_or-map mark_of ys i x 0 there ∙ ap mark_of same
    ∙ (λ j. if_spare (v j) (s j)) in
    let next : get_or (nexts_of ys) i None ≡ o = get_or-map next_of ys i x None there ∙ ap next_of same ∙ t in
    let more : suc n ≡ n + 1 = omega arith in
    ∥∥₁_map (used_chain ps xs n o i x w here e u c) (λ d.
    subst (λ k. IsChain ps (marks_of ys) (nexts_of ys) k (Some p)) more (
      at,
      mark,
      subst (λ q. IsChain ps (marks_of ys) (nexts_of ys) n q) (sym next) d,
    ))

pub given_count : (xs : List Node) (i : ℕ) (x w : Node) (n : ℕ) → i < length xs → x ≡ get_or xs i x →
    is_used x.held ≡ true → is_used w.held ≡ false → n ≡ sum_by flag_of xs → n + 1 ≡ sum_by flag_of (set xs i w)
given_count xs i x w n h e u v s =
    let moved = sum_by-set flag_of xs i w x h in let before = ap flag_of (sym e) ∙ used_flag_of x u in
    let after = ap if_free v in omega arith

pub given_cells : (xs : List Node) (i : ℕ) (w : Node) → is_used w.held ≡ false →
    cells_of (set xs i w) ≡ set (cells_of xs) i None
given_cells xs i w v = map-set cell_of xs i w ∙ ap (set (cells_of xs) i) (ap (λ y. if_used y (record_of w)) v)

-- the first spare becomes a node
spare_flag : (y : Bool) (k n : ℕ) → if_spare y k ≡ suc n → y ≡ false
spare_flag true k n e = absurd (omega (arith, e))
spare_flag false k n e = refl

pub is_spare : (xs : List Node) (i : ℕ) (x : Node) (n : ℕ) → i < length xs → x ≡ get_or xs i x → 0 < n →
    get_or (marks_of xs) i 0 ≡ n → is_used x.held ≡ false
is_spare xs i x n h e z m = let more : n ≡ suc (n - 1) = omega arith in
    spare_flag (is_used x.held) (slot_in x.held) (n - 1) (ap mark_of e ∙ sym (get_or-map mark_of xs i x 0 h) ∙ m ∙ more)

pub next_is : (xs : List Node) (i : ℕ) (x : Node) → i < length xs → x ≡ get_or xs i x →
    get_or (nexts_of xs) i None ≡ next_of x
next_is xs i x h e = get_or-map next_of xs i x None h ∙ ap next_of (sym e)

pub made_chain : (ps : List NodePtr) (xs : List Node) (n : ℕ) (p : NodePtr) (x w : Node) →
    (number_in ps p) < length xs → x ≡ get_or xs (number_in ps p) x → 0 < n → Head ps (marks_of xs) (nexts_of xs) n p
    → ∥ IsChain ps (marks_of (set xs (number_in ps p) w)) (nexts_of (set xs (number_in ps p) w)) (n - 1) (next_of x) ∥₁
made_chain ps xs n p x w h e z c = ∣ chain_changed ps xs (n - 1) (next_of x) (number_in ps p) w (λ k l y.
    let m = c.mark in absurd (omega (arith, y, m, l)))
    (subst (λ o. IsChain ps (marks_of xs) (nexts_of xs) (n - 1) o) (next_is xs (number_in ps p) x h e) c.rest) ∣₁

pub made_count : (xs : List Node) (i : ℕ) (x w : Node) (n : ℕ) → i < length xs → x ≡ get_or xs i x →
    is_used x.held ≡ false → is_used w.held ≡ true → n ≡ sum_by flag_of xs → n - 1 ≡ sum_by flag_of (set xs i w)
made_count xs i x w n h e u v s =
    let moved = sum_by-set flag_of xs i w x h in let before = ap flag_of (sym e) ∙ ap if_free u in
    let after = used_flag_of w v in omega arith

pub made_cells : (xs : List Node) (i : ℕ) (w : Node) → is_used w.held ≡ true →
    cells_of (set xs i w) ≡ set (cells_of xs) i (Some (record_of w))
made_cells xs i w v = map-set cell_of xs i w ∙ ap (set (cells_of xs) i) (used_cell w v)

-- one more node
pub place_stays : (ps : List NodePtr) (q p : NodePtr) → IsPlace ps p → IsPlace (ps ++ q ∷ []) p
place_stays ps q p c = let long = length-append ps (q ∷ []) in let same = number_stays ps q p c in
    omega (arith, c, same, long)

chain_append : (ps : List NodePtr) (ms : List ℕ) (ns : List (Option NodePtr)) (n : ℕ) (o : Option NodePtr) (q : NodePtr)
    (m : ℕ) (t : Option NodePtr) → length ps ≡ length ms → length ps ≡ length ns
    → IsChain ps ms ns n o → IsChain (ps ++ q ∷ []) (ms ++ m ∷ []) (ns ++ t ∷ []) n o
chain_append ps ms ns zero None q m t e f c = c
chain_append ps ms ns zero (Some p) q m t e f c = c
chain_append ps ms ns (suc n) None q m t e f c = c
chain_append ps ms ns (suc n) (Some p) q m t e f c =
    let place = c.0 in let same = number_stays ps q p place in (
      place_stays ps q p place,
      ap (λ k. get_or (ms ++ m ∷ []) k 0) same
          ∙ get_or_append_left ms (m ∷ []) 0 (number_in ps p) (omega (arith, place, e)) ∙ c.1,
      subst (λ o. IsChain (ps ++ q ∷ []) (ms ++ m ∷ []) (ns ++ t ∷ []) n o)
          (sym (ap (λ k. get_or (ns ++ t ∷ []) k None) same
          ∙ get_or_append_left ns (t ∷ []) None (number_in ps p) (omega (arith, place, f))))
          (chain_append ps ms ns n (get_or ns (number_in ps p) None) q m t e f c.2),
    )

pub last_at : {X : Type 0} (xs : List X) (x d : X) (i : ℕ) → i ≡ length xs → get_or (xs ++ x ∷ []) i d ≡ x
last_at [] x d zero e = refl
last_at [] x d (suc i) e = absurd (omega arith)
last_at (y ∷ xs) x d zero e = absurd (omega arith)
last_at (y ∷ xs) x d (suc i) e = last_at xs x d i (omega arith)

pub grown_chain : (ps : List NodePtr) (xs : List Node) (n : ℕ) (o : Option NodePtr) (p : NodePtr) (w : Node) →
    NotIn (ats ps) p.at → length ps ≡ length xs → is_used w.held ≡ false → slot_in w.held ≡ n → next_of w ≡ o
    → ∥ IsChain ps (marks_of xs) (nexts_of xs) n o ∥₁ →
    ∥ IsChain (ps ++ p ∷ []) (marks_of (xs ++ w ∷ [])) (nexts_of (xs ++ w ∷ [])) (n + 1) (Some p) ∥₁
grown_chain ps xs n o p w fresh paired v s t c =
    let qs = ps ++ p ∷ [] in let ms = marks_of xs ++ mark_of w ∷ [] in let ns = nexts_of xs ++ next_of w ∷ [] in
    let many = length-map xs mark_of in let all = length-map xs next_of in let long = length-append ps (p ∷ []) in
    let number = number_new ps p fresh in let i = number_in qs p in
    let at : IsPlace qs p = omega (arith, number, long) in
    let mark : get_or ms i 0 ≡ suc n = last_at (marks_of xs) (mark_of w) 0 i (omega (arith, number, many, paired))
    ∙ (λ j. if_spare (v j) (s j)) in
    let next : get_or ns i None ≡ o = last_at (nexts_of xs) (next_of w) None i (omega (arith, number, all, paired))
    ∙ t in
    let more : suc n ≡ n + 1 = omega arith in
    ∥∥₁_map c (λ d. subst (λ (ls : List ℕ × List (Option NodePtr)). IsChain qs ls.0 ls.1 (n + 1) (Some p)) (λ j.
    (sym (map-append mark_of xs (w ∷ [])) j, sym (map-append next_of xs (w ∷ [])) j))
    (subst (λ k. IsChain qs ms ns k (Some p)) more (
      at,
      mark,
      subst (λ q. IsChain qs ms ns n q) (sym next)
          (chain_append ps (marks_of xs) (nexts_of xs) n o p (mark_of w) (next_of w) (omega (arith, many, paired))
          (omega (arith, all, paired)) d),
    )))

pub grown_count : (xs : List Node) (w : Node) (n : ℕ) → is_used w.held ≡ false → n ≡ sum_by flag_of xs →
    n + 1 ≡ sum_by flag_of (xs ++ w ∷ [])
grown_count xs w n v s = let more = sum_by_push flag_of xs w in let one = ap if_free v in omega arith

-- ---- the rooms of the nodes
pub room_moved : (xs : List Node) (i : ℕ) (x w : Node) → i < length xs → x ≡ get_or xs i x →
    sum_by room_of (set xs i w) + room_of x ≡ sum_by room_of xs + room_of w
room_moved xs i x w h e = let moved = sum_by-set room_of xs i w x h in let before = ap room_of e in
    omega (arith, moved, before)

pub room_grown : (xs : List Node) (w : Node) → room_of w ≡ 0 → sum_by room_of (xs ++ w ∷ []) ≡ sum_by room_of xs
room_grown xs w none = let more = sum_by_push room_of xs w in omega (arith, more, none)

-- ---- the nodes one before the other
-- what is read of a node that stays is read of all that stay
pub same_at : {Y : Type 0} (f : Node → Y) (xs : List Node) (i : ℕ) (x w : Node) → x ≡ get_or xs i x → f w ≡ f x →
    map f (set xs i w) ≡ map f xs
same_at f xs i x w e n =
    map-set f xs i w ∙ ap (set (map f xs) i) n ∙ sym (map-set f xs i x) ∙ ap (map f) (ap (set xs i) e ∙ set-get_or xs i x)

pub listed_set : (ps : List NodePtr) (xs : List Node) (i : ℕ) (x w : Node) (last : Option NodePtr) → x ≡ get_or xs i x →
    before_of w ≡ before_of x
    → befores_of xs ++ last ∷ [] ≡ None ∷ map Some ps → befores_of (set xs i w) ++ last ∷ [] ≡ None ∷ map Some ps
listed_set ps xs i x w last e n h = ap (λ bs. bs ++ last ∷ []) (same_at before_of xs i x w e n) ∙ h

pub followed_set : (ps : List NodePtr) (xs : List Node) (i : ℕ) (x w : Node) → x ≡ get_or xs i x →
    after_of w ≡ after_of x → afters_of xs ≡ behind ps → afters_of (set xs i w) ≡ behind ps
followed_set ps xs i x w e n h = same_at after_of xs i x w e n ∙ h

pub listed_grown : (ps : List NodePtr) (xs : List Node) (w : Node) (p : NodePtr) (last : Option NodePtr) →
    before_of w ≡ last
    → befores_of xs ++ last ∷ [] ≡ None ∷ map Some ps → befores_of (xs ++ w ∷ []) ++ Some p ∷ []
    ≡ None ∷ map Some (ps ++ p ∷ [])
listed_grown ps xs w p last n h =
    ap (λ bs. bs ++ Some p ∷ []) (map-append before_of xs (w ∷ []) ∙ ap (λ o. befores_of xs ++ o ∷ []) n ∙ h)
    ∙ ap (λ os. None ∷ os) (sym (map-append (λ q. Some q) ps (p ∷ [])))

snoc : {X : Type 0} (xs ys : List X) (x y : X) → xs ++ x ∷ [] ≡ ys ++ y ∷ [] → (xs ≡ ys) × (x ≡ y)
snoc [] [] x y e = (refl, ap (λ l. get_or l 0 x) e)
snoc [] (z ∷ ys) x y e = let long = ap length e in let more = length-append ys (y ∷ []) in
    absurd (omega (arith, long, more))
snoc (z ∷ xs) [] x y e = let long = ap length e in let more = length-append xs (x ∷ []) in
    absurd (omega (arith, long, more))
snoc (z ∷ xs) (v ∷ ys) x y e =
    let rest = snoc xs ys x y (ap (drop 1) e) in let head : z ≡ v = ap (λ l. get_or l 0 z) e in
    ((λ j. head j ∷ rest.0 j), rest.1)

pub some_same : (p q : NodePtr) → Some p ≡ Some q → p ≡ q
some_same p q e = ap (λ (o : Option NodePtr). unwrap_or o p) e

-- where there is no last node there is none
pub listed_none : (bs : List (Option NodePtr)) (ps : List NodePtr) → bs ++ None ∷ [] ≡ None ∷ map Some ps → ps ≡ []
listed_none bs [] h = refl
listed_none bs (q ∷ ps) h =
    let end = unsnoc (q ∷ ps) (omega arith) in
    let both = snoc bs (None ∷ map Some end.0) None (Some end.1) (h ∙ ap (λ l. None ∷ map Some l) end.2
    ∙ ap (λ os. None ∷ os) (map-append (λ q. Some q) end.0 (end.1 ∷ []))) in
    absurd (false≢true (ap is_some both.1))
