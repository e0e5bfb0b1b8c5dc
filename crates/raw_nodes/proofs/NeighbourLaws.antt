-- The row of all nodes, when one leaves it or comes to its end.
--     number_at           where the place of a number stands: no place stands twice
--     chain_without       the spares after one that is none of them has left
--     before_number       a link back leads to the place before, and one that is none stands at the row's beginning
--     relinked_less, listed_less   the links once a node has left whose neighbours were linked to each other
--     content_ .., same_ ..        what doesn't follow the links in the row
--     left_ ..            all that is kept of the nodes, once such a node has left
use Rattle.raw_nodes.proofs.Common.{◌≡◌, ℕ, ◌<◌, ◌≤◌, ◌+◌, Bool, true, false, cond, List, [], ◌∷◌, ◌++◌, length, get_or}
use Rattle.raw_nodes.proofs.Common.{set, map, refl, sym, ap, ◌∙◌, subst, arith, IfSome, ◌≢◌, Option, None, Some}
use Rattle.raw_nodes.proofs.Common.{is_some, sum, sum_by, get_or-map, get_or_append_left, length-map, map-append}
use Rattle.raw_nodes.proofs.Common.{set-append_left, sum-map, AreApart, IsPlace, NotIn, ats, name_cmp, node_at}
use Rattle.raw_nodes.proofs.Common.{number_in, put_at, without, IsChain, after_of, afters_of, before_of, befores_of}
use Rattle.raw_nodes.proofs.Common.{behind, content_of, contents_of, flag_of, if_free, if_spare, last_left, mark_of}
use Rattle.raw_nodes.proofs.Common.{marks_of, next_of, nexts_of, room_in, room_of, link_name, if_used, is_used}
use Rattle.raw_nodes.proofs.Common.{record_in, records_in, records_of, slot_in, Link, NodePtr, Held, Node, eq_by_cmp}
use Prim.Native.Nat.{zero, suc, ◌-◌}
use lib.ListN.{length-set}
use mathlib.Core.Bool.{false≢true}
use mathlib.Core.HLevel.{×_prop, ¬_prop}
use mathlib.Core.Logic.{∥∥₁_elim}
use Rattle.std.proofs.lemmas.Simd.{map-map}
use denote.RawPtr.{Ptr}
use Rattle.raw_nodes.proofs.ChainLaws.{Head, last_at, listed_none, next_is, place_stays, some_same}
use Rattle.raw_nodes.proofs.NameLaws.{fewer_records, spare_room}
use Rattle.raw_nodes.proofs.WithoutLaws.{length-without, map-without, sum_by-without}
use Rattle.raw_nodes.proofs.PlaceLaws.{apart, number_stays, tied}

-- ---- a list but for one element
without-append : {X : Type 0} (xs ys : List X) (i : ℕ) → i < length xs → without xs i ++ ys ≡ without (xs ++ ys) i
without-append [] ys i h = absurd (omega arith)
without-append (x ∷ xs) ys zero h = refl
without-append (x ∷ xs) ys (suc i) h = ap (λ l. x ∷ l) (without-append xs ys i (omega arith))

-- an element that is put over the next one takes its place there
without-set : {X : Type 0} (xs : List X) (i : ℕ) (d : X) → suc i < length xs →
    without (set xs (suc i) (get_or xs i d)) i ≡ without xs (suc i)
without-set [] i d h = absurd (omega arith)
without-set (x ∷ []) zero d h = absurd (omega arith)
without-set (x ∷ y ∷ xs) zero d h = refl
without-set (x ∷ xs) (suc i) d h = ap (λ l. x ∷ l) (without-set xs i d (omega arith))

set-last : {X : Type 0} (xs : List X) (x y : X) (i : ℕ) → i ≡ length xs → set (xs ++ x ∷ []) i y ≡ xs ++ y ∷ []
set-last [] x y zero e = refl
set-last [] x y (suc i) e = absurd (omega arith)
set-last (z ∷ xs) x y zero e = absurd (omega arith)
set-last (z ∷ xs) x y (suc i) e = ap (λ l. z ∷ l) (set-last xs x y i (omega arith))

-- ---- where the other names stand once one has left
first_off : (b : Bool) (m : ℕ) → (cond b 0 (suc m) ≡ 0 → ⊥) → b ≡ false
first_off true m n = absurd (n refl)
first_off false m n = refl

rest_within : (b : Bool) (m l : ℕ) → b ≡ false → cond b 0 (suc m) < suc l → m < l
rest_within true m l e h = absurd (false≢true (sym e))
rest_within false m l e h = omega arith

place_step : (b : Bool) (k l : ℕ) → (b ≡ false → k < l) → cond b 0 (suc k) < suc l
place_step true k l h = omega arith
place_step false k l h = let rest = h refl in omega (arith, rest)

skip_step : {Y : Type 0} (b : Bool) (y : Y) (ys zs : List Y) (m k : ℕ) (d : Y) →
    (b ≡ false → get_or zs k d ≡ get_or ys m d) → get_or (y ∷ zs) (cond b 0 (suc k)) d ≡ get_or (y ∷ ys) (cond b 0 (suc m)) d
skip_step true y ys zs m k d h = refl
skip_step false y ys zs m k d h = h refl

pub place_skips : (ps : List NodePtr) (i : ℕ) (q : NodePtr) → (number_in ps q ≡ i → ⊥) → IsPlace ps q →
    IsPlace (without ps i) q
place_skips [] i q n h = absurd (omega arith)
place_skips (p ∷ ps) zero q n h =
    let b = eq_by_cmp name_cmp q p in rest_within b (number_in ps q) (length ps) (first_off b (number_in ps q) n) h
place_skips (p ∷ ps) (suc i) q n h =
    let b = eq_by_cmp name_cmp q p in
    place_step b (number_in (without ps i) q) (length (without ps i)) (λ is.
    place_skips ps i q (λ s. n (ap (λ c. cond c 0 (suc (number_in ps q))) is ∙ ap suc s))
    (rest_within b (number_in ps q) (length ps) is h))

pub skips : {Y : Type 0} (ps : List NodePtr) (ys : List Y) (i : ℕ) (q : NodePtr) (d : Y) →
    (number_in ps q ≡ i → ⊥) → IsPlace ps q → length ps ≡ length ys
    → get_or (without ys i) (number_in (without ps i) q) d ≡ get_or ys (number_in ps q) d
skips [] ys i q d n h e = absurd (omega arith)
skips (p ∷ ps) [] i q d n h e = absurd (omega arith)
skips (p ∷ ps) (y ∷ ys) zero q d n h e =
    sym (ap (λ b. get_or (y ∷ ys) (cond b 0 (suc (number_in ps q))) d)
    (first_off (eq_by_cmp name_cmp q p) (number_in ps q) n))
skips (p ∷ ps) (y ∷ ys) (suc i) q d n h e =
    let b = eq_by_cmp name_cmp q p in
    skip_step b y ys (without ys i) (number_in ps q) (number_in (without ps i) q) d (λ is.
    skips ps ys i q d (λ s. n (ap (λ c. cond c 0 (suc (number_in ps q))) is ∙ ap suc s))
    (rest_within b (number_in ps q) (length ps) is h) (omega arith))

-- the spares after a node has left that is none of them
pub chain_without : (ps : List NodePtr) (ms : List ℕ) (ns : List (Option NodePtr)) (n : ℕ) (o : Option NodePtr) (i : ℕ)
    → ((k : ℕ) → k < n → get_or ms i 0 ≢ suc k) → length ps ≡ length ms → length ps ≡ length ns →
    IsChain ps ms ns n o → IsChain (without ps i) (without ms i) (without ns i) n o
chain_without ps ms ns zero None i h e f c = c
chain_without ps ms ns zero (Some p) i h e f c = c
chain_without ps ms ns (suc n) None i h e f c = c
chain_without ps ms ns (suc n) (Some p) i h e f c =
    let other : (number_in ps p ≡ i → ⊥) = λ s. h n (omega arith) (ap (λ j. get_or ms j 0) (sym s) ∙ c.1) in (
      place_skips ps i p other c.0,
      skips ps ms i p 0 other c.0 e ∙ c.1,
      subst (λ o. IsChain (without ps i) (without ms i) (without ns i) n o) (sym (skips ps ns i p None other c.0 f))
          (chain_without ps ms ns n (get_or ns (number_in ps p) None) i (λ k l. h k (omega arith)) e f c.2),
    )

-- ---- no place stands twice
NotIn-prop : (ps : List Ptr) (p : Ptr) → IsProp (NotIn ps p)
NotIn-prop [] p = λ a b. refl
NotIn-prop (q ∷ ps) p = ×_prop ¬_prop (NotIn-prop ps p)

AreApart-prop : (ps : List Ptr) → IsProp (AreApart ps)
AreApart-prop [] = λ a b. refl
AreApart-prop (p ∷ ps) = ×_prop (NotIn-prop ps p) (AreApart-prop ps)

pub apart_had : (ps : List Ptr) → ∥ AreApart ps ∥₁ → AreApart ps
apart_had ps a = ∥∥₁_elim a (AreApart-prop ps) (λ x. x)

notin_at : (ps : List NodePtr) (p : Ptr) (j : ℕ) (d : NodePtr) → NotIn (ats ps) p → j < length ps →
    ((get_or ps j d).at ≡ p → ⊥)
notin_at [] p j d n h = absurd (omega arith)
notin_at (q ∷ ps) p zero d n h = n.0
notin_at (q ∷ ps) p (suc j) d n h = notin_at ps p j d n.1 (omega arith)

pub number_at : (ps : List NodePtr) (j : ℕ) (d : NodePtr) → AreApart (ats ps) → j < length ps →
    number_in ps (get_or ps j d) ≡ j
number_at [] j d a h = absurd (omega arith)
number_at (q ∷ ps) zero d a h = ap (λ b. cond b 0 (suc (number_in ps q))) (tied q q refl)
number_at (q ∷ ps) (suc j) d a h =
    let r = get_or ps j d in
    ap (λ b. cond b 0 (suc (number_in ps r)))
    (apart r q (λ e. notin_at ps q.at j d a.0 (omega arith) (ap (λ (s : NodePtr). s.at) e)))
    ∙ ap suc (number_at ps j d a.1 (omega arith))

notin_without : (ps : List Ptr) (p : Ptr) (i : ℕ) → NotIn ps p → NotIn (without ps i) p
notin_without [] p i n = n
notin_without (q ∷ ps) p zero n = n.1
notin_without (q ∷ ps) p (suc i) n = (n.0, notin_without ps p i n.1)

fewer_apart : (ps : List Ptr) (i : ℕ) → AreApart ps → AreApart (without ps i)
fewer_apart [] i a = a
fewer_apart (p ∷ ps) zero a = a.1
fewer_apart (p ∷ ps) (suc i) a = (notin_without ps p i a.0, fewer_apart ps i a.1)

pub apart_without : (ps : List NodePtr) (i : ℕ) → AreApart (ats ps) → AreApart (ats (without ps i))
apart_without ps i a = subst AreApart (sym (map-without (λ (p : NodePtr). p.at) ps i)) (fewer_apart (ats ps) i a)

notin_more : (ps : List Ptr) (p q : Ptr) → NotIn ps q → (p ≡ q → ⊥) → NotIn (ps ++ p ∷ []) q
notin_more [] p q n o = (o, tt)
notin_more (r ∷ ps) p q n o = (n.0, notin_more ps p q n.1 o)

more_apart : (ps : List Ptr) (p : Ptr) → AreApart ps → NotIn ps p → AreApart (ps ++ p ∷ [])
more_apart [] p a n = (tt, tt)
more_apart (q ∷ ps) p a n = (notin_more ps p q a.0 (λ e. n.0 (sym e)), more_apart ps p a.1 n.1)

pub apart_grown : (ps : List NodePtr) (p : NodePtr) → AreApart (ats ps) → NotIn (ats ps) p.at →
    AreApart (ats (ps ++ p ∷ []))
apart_grown ps p a n =
    subst AreApart (sym (map-append (λ (q : NodePtr). q.at) ps (p ∷ []))) (more_apart (ats ps) p.at a n)

-- ---- the links back
some_at : (ps : List NodePtr) (j : ℕ) (p : NodePtr) → get_or (map Some ps) j None ≡ Some p →
    (j < length ps) × (get_or ps j p ≡ p)
some_at [] j p e = absurd (false≢true (ap is_some e))
some_at (q ∷ ps) zero p e = (omega arith, some_same q p e)
some_at (q ∷ ps) (suc j) p e = let rest = some_at ps j p e in (omega (arith, rest.0), rest.1)

none_past : (ps : List NodePtr) (j : ℕ) → get_or (map Some ps) j None ≡ None → j < length ps → ⊥
none_past [] j e h = omega arith
none_past (q ∷ ps) zero e h = false≢true (sym (ap is_some e))
none_past (q ∷ ps) (suc j) e h = none_past ps j e (omega arith)

number_of_some : (ps : List NodePtr) (i : ℕ) (p : NodePtr) → AreApart (ats ps) →
    get_or (None ∷ map Some ps) i None ≡ Some p → IsPlace ps p × (suc (number_in ps p) ≡ i)
number_of_some ps zero p a e = absurd (false≢true (ap is_some e))
number_of_some ps (suc j) p a e =
    let found = some_at ps j p e in
    let number : number_in ps p ≡ j = ap (number_in ps) (sym found.1) ∙ number_at ps j p a found.0 in
    (let within = found.0 in omega (arith, within, number), ap suc number)

number_of_none : (ps : List NodePtr) (i : ℕ) → i ≤ length ps → get_or (None ∷ map Some ps) i None ≡ None → i ≡ 0
number_of_none ps zero h e = refl
number_of_none ps (suc j) h e = absurd (none_past ps j e (omega arith))

-- the last node stands at the end
pub last_number : (ps : List NodePtr) (bs : List (Option NodePtr)) (p : NodePtr) → AreApart (ats ps) →
    length bs ≡ length ps → bs ++ Some p ∷ [] ≡ None ∷ map Some ps → IsPlace ps p × (suc (number_in ps p) ≡ length ps)
last_number ps bs p a long h =
    number_of_some ps (length ps) p a
    (ap (λ l. get_or l (length ps) None) (sym h) ∙ last_at bs (Some p) None (length ps) (sym long))

module _ (ps : List NodePtr) (xs : List Node) (last : Option NodePtr) (p : NodePtr) (x : Node) (paired : length ps
    ≡ length xs) (place : IsPlace ps p) (e : x ≡ node_at ps xs p x) (all_apart : AreApart (ats ps)) (listed : befores_of xs
    ++ last ∷ [] ≡ None ∷ map Some ps) where
  abbrev i : ℕ
  i = number_in ps p

  pub befores_long : length (befores_of xs) ≡ length ps
  befores_long = length-map xs before_of ∙ sym paired

  here : i < length xs
  here = omega (arith, paired, place)

  before_is : before_of x ≡ get_or (befores_of xs) i None
  before_is = ap before_of e ∙ sym (get_or-map before_of xs i x None here)

  before_there : get_or (None ∷ map Some ps) i None ≡ before_of x
  before_there =
      sym (sym (get_or_append_left (befores_of xs) (last ∷ []) None i (let long = befores_long in
      omega (arith, long, place))) ∙ ap (λ l. get_or l i None) listed) ∙ sym before_is

  pub before_number : (b : NodePtr) → before_of x ≡ Some b → IsPlace ps b × (suc (number_in ps b) ≡ i)
  before_number b is = number_of_some ps i b all_apart (before_there ∙ is)

  pub before_first : before_of x ≡ None → i ≡ 0
  before_first is = number_of_none ps i (omega (arith, place)) (before_there ∙ is)

  place_before : (o : Option NodePtr) → before_of x ≡ o → IfSome o (IsPlace ps)
  place_before None is = tt
  place_before (Some b) is = (before_number b is).0

  pub before_place : IfSome (before_of x) (IsPlace ps)
  before_place = place_before (before_of x) refl

-- ---- the links on
pub length-behind : (ps : List NodePtr) → length (behind ps) ≡ length ps
length-behind [] = refl
length-behind (p ∷ ps) = ap suc (length-behind ps)

next_some : (ps : List NodePtr) (i : ℕ) (p : NodePtr) → get_or (behind ps) i None ≡ Some p →
    (suc i < length ps) × (get_or ps (suc i) p ≡ p)
next_some [] i p e = absurd (false≢true (ap is_some e))
next_some (q ∷ []) zero p e = absurd (false≢true (ap is_some e))
next_some (q ∷ []) (suc i) p e = absurd (false≢true (ap is_some e))
next_some (q ∷ r ∷ ps) zero p e = (omega arith, some_same r p e)
next_some (q ∷ r ∷ ps) (suc i) p e = let rest = next_some (r ∷ ps) i p e in (omega (arith, rest.0), rest.1)

next_none : (ps : List NodePtr) (i : ℕ) → i < length ps → get_or (behind ps) i None ≡ None → suc i ≡ length ps
next_none [] i h e = absurd (omega arith)
next_none (q ∷ []) zero h e = refl
next_none (q ∷ []) (suc i) h e = absurd (omega arith)
next_none (q ∷ r ∷ ps) zero h e = absurd (false≢true (sym (ap is_some e)))
next_none (q ∷ r ∷ ps) (suc i) h e = ap suc (next_none (r ∷ ps) i (omega arith) e)

number_behind : (ps : List NodePtr) (i : ℕ) (p : NodePtr) → AreApart (ats ps) → get_or (behind ps) i None ≡ Some p →
    IsPlace ps p × (number_in ps p ≡ suc i)
number_behind ps i p a e =
    let found = next_some ps i p e in
    let number : number_in ps p ≡ suc i = ap (number_in ps) (sym found.1) ∙ number_at ps (suc i) p a found.0 in
    (let within = found.0 in omega (arith, within, number), number)

module _ (ps : List NodePtr) (xs : List Node) (p : NodePtr) (x : Node) (paired : length ps ≡ length xs) (place : IsPlace
    ps p) (e : x ≡ node_at ps xs p x) (all_apart : AreApart (ats ps)) (followed : afters_of xs ≡ behind ps) where
  after_is : after_of x ≡ get_or (behind ps) (number_in ps p) None
  after_is =
      ap after_of e ∙ sym (get_or-map after_of xs (number_in ps p) x None (omega (arith, paired, place)))
      ∙ ap (λ l. get_or l (number_in ps p) None) followed

  place_after : (o : Option NodePtr) → after_of x ≡ o → IfSome o (IsPlace ps)
  place_after None is = tt
  place_after (Some a) is = (number_behind ps (number_in ps p) a all_apart (sym after_is ∙ is)).0

  pub after_place : IfSome (after_of x) (IsPlace ps)
  after_place = place_after (after_of x) refl

-- the link over an element is put over the one before it
abbrev relinked : List (Option NodePtr) → ℕ → List (Option NodePtr)
relinked ls zero = ls
relinked ls (suc j) = set ls j (get_or ls (suc j) None)

relinked_less : (ps : List NodePtr) (i : ℕ) → i < length ps → without (relinked (behind ps) i) i ≡ behind (without ps i)
relinked_less [] i h = absurd (omega arith)
relinked_less (p ∷ ps) zero h = refl
relinked_less (p ∷ []) (suc i) h = absurd (omega arith)
relinked_less (p ∷ q ∷ ps) (suc zero) h = refl
relinked_less (p ∷ q ∷ ps) (suc (suc j)) h =
    ap (λ l. Some q ∷ l) (relinked_less (q ∷ ps) (suc j) (omega arith))

-- ---- a node leaves whose neighbours were linked to each other
relinked_at : (ls : List (Option NodePtr)) (i j : ℕ) → suc j ≡ i → set ls j (get_or ls i None) ≡ relinked ls i
relinked_at ls i j e = subst (λ k. set ls j (get_or ls k None) ≡ relinked ls k) e refl

behind_put : (ps : List NodePtr) (i : ℕ) (before v : Option NodePtr) → v ≡ get_or (behind ps) i None →
    (before ≡ None → i ≡ 0) → ((b : NodePtr) → before ≡ Some b → suc (number_in ps b) ≡ i)
    → put_at ps (behind ps) before v ≡ relinked (behind ps) i
behind_put ps i None v is first prior = ap (relinked (behind ps)) (sym (first refl))
behind_put ps i (Some b) v is first prior =
    ap (set (behind ps) (number_in ps b)) is ∙ relinked_at (behind ps) i (number_in ps b) (prior b refl)

listed_from : (ls : List (Option NodePtr)) (ps : List NodePtr) (i : ℕ) → suc i < length ls → ls ≡ None ∷ map Some ps →
    without (set ls (suc i) (get_or ls i None)) i ≡ None ∷ map Some (without ps i)
listed_from ls ps i h e =
    without-set ls i None h ∙ ap (λ l. without l (suc i)) e ∙ ap (λ l. None ∷ l) (sym (map-without (λ q. Some q) ps i))

module _ (ps : List NodePtr) (bs : List (Option NodePtr)) (last : Option NodePtr) (i : ℕ) (before : Option NodePtr)
    (long : length bs ≡ length ps) (within : i < length ps) (is : before ≡ get_or bs i None) (listed : bs ++ last ∷ []
    ≡ None ∷ map Some ps) where
  longer : length (bs ++ last ∷ []) ≡ suc (length ps)
  longer = ap length listed ∙ ap suc (length-map ps (λ q. Some q))

  from_all : without (set (bs ++ last ∷ []) (suc i) before) i ≡ None ∷ map Some (without ps i)
  from_all =
      ap (λ o. without (set (bs ++ last ∷ []) (suc i) o) i) (is
      ∙ sym (get_or_append_left bs (last ∷ []) None i (omega (arith, long, within))))
      ∙ listed_from (bs ++ last ∷ []) ps i (let l = longer in omega (arith, l, within)) listed

  -- the last node leaves
  pub listed_end : suc i ≡ length ps → without bs i ++ before ∷ [] ≡ None ∷ map Some (without ps i)
  listed_end end =
      without-append bs (before ∷ []) i (omega (arith, long, within))
      ∙ ap (λ l. without l i) (sym (set-last bs last before (suc i) (end ∙ sym long)))
      ∙ from_all

  listed_set_over : (k : ℕ) → k ≡ suc i → suc i < length ps →
      without (set bs k before) i ++ last ∷ [] ≡ None ∷ map Some (without ps i)
  listed_set_over k at on =
      ap (λ j. without (set bs j before) i ++ last ∷ []) at
      ∙ without-append (set bs (suc i) before) (last ∷ []) i
      (let l = length-set bs (suc i) before in omega (arith, l, long, within))
      ∙ ap (λ l. without l i) (sym (set-append_left bs (last ∷ []) (suc i) before (omega (arith, long, on))))
      ∙ from_all

  pub listed_less : (after : Option NodePtr) → (after ≡ None → suc i ≡ length ps)
      → ((a : NodePtr) → after ≡ Some a → (number_in ps a ≡ suc i) × (suc i < length ps)) →
      without (put_at ps bs after before) i ++ last_left last before after ∷ [] ≡ None ∷ map Some (without ps i)
  listed_less None end on = listed_end (end refl)
  listed_less (Some a) end on = let at = on a refl in listed_set_over (number_in ps a) at.0 at.1

-- the last node leaves
pub end_left : (ps : List NodePtr) (xs : List Node) (p : NodePtr) (x : Node) → length ps ≡ length xs →
    AreApart (ats ps) → befores_of xs ++ Some p ∷ [] ≡ None ∷ map Some ps → x ≡ node_at ps xs p x
    → befores_of (without xs (number_in ps p)) ++ before_of x ∷ [] ≡ None ∷ map Some (without ps (number_in ps p))
end_left ps xs p x paired a listed e =
    let long : length (befores_of xs) ≡ length ps = length-map xs before_of ∙ sym paired in
    let end = last_number ps (befores_of xs) p a long listed in
    ap (λ l. l ++ before_of x ∷ []) (map-without before_of xs (number_in ps p))
    ∙ listed_end ps (befores_of xs) (Some p) (number_in ps p) (before_of x) long end.0
    (before_is ps xs (Some p) p x paired end.0 e a listed) listed end.1

-- ---- what doesn't follow the links
module _ (xs ys : List Node) (same : contents_of xs ≡ contents_of ys) where
  pub content_map : {Y : Type 0} (f : Link × Held → Y) → map (λ (x : Node). f (content_of x)) xs
      ≡ map (λ (x : Node). f (content_of x)) ys
  content_map f = sym (map-map f content_of xs) ∙ ap (map f) same ∙ map-map f content_of ys

  pub content_sum : (f : Link × Held → ℕ) → sum_by (λ (x : Node). f (content_of x)) xs
      ≡ sum_by (λ (x : Node). f (content_of x)) ys
  content_sum f =
      sym (sum-map (λ (x : Node). f (content_of x)) xs) ∙ ap sum (content_map f) ∙ sum-map (λ (x : Node). f (content_of x)) ys

  pub content_long : length xs ≡ length ys
  content_long = sym (length-map xs content_of) ∙ ap length same ∙ length-map ys content_of

-- ---- the row without a node whose neighbours were linked to each other
module _ (xs ys : List Node) (same : contents_of xs ≡ contents_of ys) where
  pub same_chain : (ps : List NodePtr) (n : ℕ) (o : Option NodePtr) → ∥ IsChain ps (marks_of xs) (nexts_of xs) n o ∥₁ →
      ∥ IsChain ps (marks_of ys) (nexts_of ys) n o ∥₁
  same_chain ps n o c =
      subst (λ (ls : List ℕ × List (Option NodePtr)). ∥ IsChain ps ls.0 ls.1 n o ∥₁) (λ j. (
        content_map xs ys same (λ (h : Link × Held). if_spare (is_used h.1) (slot_in h.1)) j,
        content_map xs ys same (λ (h : Link × Held). link_name h.0) j,
      )) c

  pub same_count : sum_by flag_of xs ≡ sum_by flag_of ys
  same_count = content_sum xs ys same (λ (h : Link × Held). if_free (is_used h.1))

  pub same_rooms : sum_by room_of xs ≡ sum_by room_of ys
  same_rooms = content_sum xs ys same (λ (h : Link × Held). room_in h.1)

  pub same_records : (ps : List NodePtr) → records_in ps xs ≡ records_in ps ys
  same_records ps = ap (records_of ps)
      (content_map xs ys same (λ (h : Link × Held). if_used (is_used h.1) (record_in h.1 (link_name h.0))))

  -- what a node is stays
  pub content_at : (i : ℕ) (x y : Node) → i < length xs → x ≡ get_or xs i x → y ≡ get_or ys i y →
      content_of y ≡ content_of x
  content_at i x y h e f =
      let long = content_long xs ys same in
      ap content_of f ∙ sym (get_or-map content_of ys i y (content_of x) (omega (arith, h, long)))
      ∙ ap (λ l. get_or l i (content_of x)) (sym same) ∙ get_or-map content_of xs i x (content_of x) h
      ∙ ap content_of (sym e)

-- zs are the nodes xs with the neighbours of x linked to each other
pub record Relinked (ps : List NodePtr) (xs zs : List Node) (x : Node) : Type 0 where
  pub contents : contents_of zs ≡ contents_of xs
  pub befores : befores_of zs ≡ put_at ps (befores_of xs) (after_of x) (before_of x)
  pub afters : afters_of zs ≡ put_at ps (afters_of xs) (before_of x) (after_of x)

module _ (ps : List NodePtr) (xs zs : List Node) (last : Option NodePtr) (p : NodePtr) (x : Node) (paired : length ps
    ≡ length xs) (place : IsPlace ps p) (e : x ≡ node_at ps xs p x) (all_apart : AreApart (ats ps)) (listed : befores_of xs
    ++ last ∷ [] ≡ None ∷ map Some ps) (followed : afters_of xs ≡ behind ps) (r : Relinked ps xs zs x) where
  abbrev at : ℕ
  at = number_in ps p

  within : at < length xs
  within = omega (arith, paired, place)

  next : after_of x ≡ get_or (behind ps) at None
  next = after_is ps xs p x paired place e all_apart followed

  pub left_listed : befores_of (without zs at) ++ last_left last (before_of x) (after_of x) ∷ []
      ≡ None ∷ map Some (without ps at)
  left_listed =
      ap (λ l. l ++ last_left last (before_of x) (after_of x) ∷ []) (map-without before_of zs at
      ∙ ap (λ l. without l at) r.befores)
      ∙ listed_less ps (befores_of xs) last at (before_of x) (befores_long ps xs last p x paired place e all_apart listed)
      place (before_is ps xs last p x paired place e all_apart listed) listed (after_of x) (λ none.
      next_none ps at place (sym next ∙ none)) (λ a is. (
        (number_behind ps at a all_apart (sym next ∙ is)).1,
        (next_some ps at a (sym next ∙ is)).0,
      ))

  pub left_followed : afters_of (without zs at) ≡ behind (without ps at)
  left_followed =
      map-without after_of zs at
      ∙ ap (λ l. without l at) (r.afters ∙ ap (λ l. put_at ps l (before_of x) (after_of x)) followed
      ∙ behind_put ps at (before_of x) (after_of x) next (before_first ps xs last p x paired place e all_apart listed)
      (λ b is. (before_number ps xs last p x paired place e all_apart listed b is).1))
      ∙ relinked_less ps at place

  left_same : contents_of (without xs at) ≡ contents_of (without zs at)
  left_same = map-without content_of xs at ∙ ap (λ l. without l at) (sym r.contents) ∙ sym (map-without content_of zs at)

  pub left_long : length (without zs at) + 1 ≡ length xs
  left_long = let long = content_long (without xs at) (without zs at) left_same in
      let less = length-without xs at within in omega (arith, long, less)

  pub left_chain : (n : ℕ) → Head ps (marks_of xs) (nexts_of xs) n p →
      ∥ IsChain (without ps at) (marks_of (without zs at)) (nexts_of (without zs at)) (n - 1) (next_of x) ∥₁
  left_chain n head = same_chain (without xs at) (without zs at) left_same (without ps at) (n - 1) (next_of x)
      ∣ subst (λ (ls : List ℕ × List (Option NodePtr)). IsChain (without ps at) ls.0 ls.1 (n - 1) (next_of x)) (λ j.
      (sym (map-without mark_of xs at) j, sym (map-without next_of xs at) j))
      (chain_without ps (marks_of xs) (nexts_of xs) (n - 1) (next_of x) at (λ k l y.
      let m = head.mark in absurd (omega (arith, y, m, l))) (paired ∙ sym (length-map xs mark_of))
      (paired ∙ sym (length-map xs next_of))
      (subst (λ o. IsChain ps (marks_of xs) (nexts_of xs) (n - 1) o) (next_is xs at x within e) head.rest)) ∣₁

  pub left_count : (n : ℕ) → is_used x.held ≡ false → n ≡ sum_by flag_of xs → n - 1 ≡ sum_by flag_of (without zs at)
  left_count n free h =
      let less = sum_by-without flag_of xs at x within in let one = ap flag_of (sym e) ∙ ap if_free free in
      let same = same_count (without xs at) (without zs at) left_same in omega (arith, less, one, same, h)

  pub left_rooms : is_used x.held ≡ false → sum_by room_of (without zs at) ≡ sum_by room_of xs
  left_rooms free =
      let less = sum_by-without room_of xs at x within in let none = ap room_of (sym e) ∙ spare_room x.held free in
      let same = same_rooms (without xs at) (without zs at) left_same in omega (arith, less, none, same)

  pub left_records : is_used x.held ≡ false → records_in (without ps at) (without zs at) ≡ records_in ps xs
  left_records free =
      sym (same_records (without xs at) (without zs at) left_same (without ps at))
      ∙ fewer_records ps xs at x paired all_apart within e free

-- ---- one more node at the end
behind_more : (ps : List NodePtr) (p : NodePtr) (k : ℕ) → suc k ≡ length ps →
    set (behind ps) k (Some p) ++ None ∷ [] ≡ behind (ps ++ p ∷ [])
behind_more [] p k e = absurd (omega arith)
behind_more (q ∷ []) p zero e = refl
behind_more (q ∷ []) p (suc k) e = absurd (omega arith)
behind_more (q ∷ r ∷ ps) p zero e = absurd (omega arith)
behind_more (q ∷ r ∷ ps) p (suc k) e = ap (λ l. Some r ∷ l) (behind_more (r ∷ ps) p k (omega arith))

-- the last node, if there is one, is linked on to the new one
pub behind_grown : (ps : List NodePtr) (bs : List (Option NodePtr)) (last : Option NodePtr) (p : NodePtr) →
    AreApart (ats ps) → length bs ≡ length ps → bs ++ last ∷ [] ≡ None ∷ map Some ps →
    put_at (ps ++ p ∷ []) (behind ps ++ None ∷ []) last (Some p) ≡ behind (ps ++ p ∷ [])
behind_grown ps bs None p a long h =
    subst (λ (qs : List NodePtr). behind qs ++ None ∷ [] ≡ behind (qs ++ p ∷ [])) (sym (listed_none bs ps h)) refl
behind_grown ps bs (Some q) p a long h =
    let end = last_number ps bs q a long h in let at = end.1 in let wide = length-behind ps in
    ap (λ k. set (behind ps ++ None ∷ []) k (Some p)) (number_stays ps p q end.0)
    ∙ set-append_left (behind ps) (None ∷ []) (number_in ps q) (Some p) (omega (arith, at, wide))
    ∙ behind_more ps p (number_in ps q) at

pub last_place : (ps : List NodePtr) (bs : List (Option NodePtr)) (last : Option NodePtr) → AreApart (ats ps) →
    length bs ≡ length ps → bs ++ last ∷ [] ≡ None ∷ map Some ps → IfSome last (IsPlace ps)
last_place ps bs None a long h = tt
last_place ps bs (Some q) a long h = (last_number ps bs q a long h).0

pub followed_grown : (ps : List NodePtr) (xs : List Node) (last : Option NodePtr) (p : NodePtr) (w : Node) →
    AreApart (ats ps) → length ps ≡ length xs → befores_of xs ++ last ∷ [] ≡ None ∷ map Some ps
    → afters_of xs ≡ behind ps → after_of w ≡ None →
    put_at (ps ++ p ∷ []) (afters_of (xs ++ w ∷ [])) last (Some p) ≡ behind (ps ++ p ∷ [])
followed_grown ps xs last p w a paired listed followed none =
    ap (λ l. put_at (ps ++ p ∷ []) l last (Some p)) (map-append after_of xs (w ∷ [])
    ∙ (λ j. followed j ++ none j ∷ []))
    ∙ behind_grown ps (befores_of xs) last p a (length-map xs before_of ∙ sym paired) listed

place_more : (ps : List NodePtr) (p : NodePtr) (o : Option NodePtr) → IfSome o (IsPlace ps) →
    IfSome o (IsPlace (ps ++ p ∷ []))
place_more ps p None h = h
place_more ps p (Some q) h = place_stays ps p q h

pub last_place_grown : (ps : List NodePtr) (xs : List Node) (last : Option NodePtr) (p : NodePtr) → AreApart (ats ps) →
    length ps ≡ length xs → befores_of xs ++ last ∷ [] ≡ None ∷ map Some ps → IfSome last (IsPlace (ps ++ p ∷ []))
last_place_grown ps xs last p a paired listed =
    place_more ps p last (last_place ps (befores_of xs) last a (length-map xs before_of ∙ sym paired) listed)
