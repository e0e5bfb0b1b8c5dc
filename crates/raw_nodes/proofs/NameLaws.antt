-- What a name says of the node that it leads to, and what a change of the node does.
use Rattle.raw_nodes.proofs.Common.{◌≡◌, ℕ, ◌<◌, ◌+◌, true, false, List, [], ◌∷◌, ◌++◌, length, get_or, set, map, refl}
use Rattle.raw_nodes.proofs.Common.{sym, ap, ap₂, ◌∙◌, subst, arith, IfSome, IsSome, Option, None, Some, is_some, Count}
use Rattle.raw_nodes.proofs.Common.{IsBare, get, insert, remove, sum_by, map-append, map-set, length-map, get_or-map}
use Rattle.raw_nodes.proofs.Common.{AreApart, IsPlace, ats, node_at, number_in, without, IsChain, after_of, afters_of}
use Rattle.raw_nodes.proofs.Common.{before_of, befores_of, behind, flag_of, marks_of, nexts_of, room_in, room_of}
use Rattle.raw_nodes.proofs.Common.{link_name, Record, cell_of, cells_of, if_used, inner_record, is_used, nones}
use Rattle.raw_nodes.proofs.Common.{line_in, record_in, record_of, records_in, records_of, updated, with_child, slot_in}
use Rattle.raw_nodes.proofs.Common.{with_line, with_parent, with_slot, with_sum, branch_sum, Link, NodePtr, Held, Node}
use Rattle.raw_nodes.proofs.Common.{Room, IsLine, IsRoom, Spare, Line, Inner}
use lib.ListN.{length-set}
use mathlib.Core.Bool.{false≢true}
use Rattle.segments.specs.Columns.{LineContent}
use Rattle.toggle_sums.specs.ToggleSets.{AreBare, ToggleSets}
use Rattle.raw_nodes.specs.Records.{update}
use Rattle.raw_nodes.specs.declared.branch.Branch.{Branch}
use Rattle.raw_nodes.proofs.ChainLaws.{cell_is, followed_set, given_cells, made_cells, is_used_at, listed_set}
use Rattle.raw_nodes.proofs.ChainLaws.{room_moved, used_chain, used_count}
use Rattle.raw_nodes.proofs.HeapSteps.{any_default}
use Rattle.raw_nodes.proofs.RowLaws.{get_or-nones}
use Rattle.raw_nodes.proofs.MapLaws.{get_record, place_of_name, records_fewer, records_grown, records_set}
use Rattle.raw_nodes.proofs.MapLaws.{records_unset}
use Rattle.raw_nodes.proofs.WithoutLaws.{map-without}

-- the name is that of a node in use
abbrev pub IsNamed : List NodePtr → List Node → NodePtr → Type 0
IsNamed ps xs p = IsSome (get (records_in ps xs) p)

cells_long : (ps : List NodePtr) (xs : List Node) → length ps ≡ length xs → length ps ≡ length (cells_of xs)
cells_long ps xs paired = paired ∙ sym (length-map xs cell_of)

pub name_place : (ps : List NodePtr) (xs : List Node) (p : NodePtr) → length ps ≡ length xs → IsNamed ps xs p →
    IsPlace ps p
name_place ps xs p paired named = place_of_name ps (cells_of xs) p (cells_long ps xs paired) named

pub place_within : (ps : List NodePtr) (xs : List Node) (p : NodePtr) → length ps ≡ length xs → IsPlace ps p →
    number_in ps p < length xs
place_within ps xs p paired place = omega (arith, paired, place)

module _ (ps : List NodePtr) (xs : List Node) (p : NodePtr) (x : Node) (paired : length ps
    ≡ length xs) (named : IsNamed ps xs p) (e : x ≡ node_at ps xs p x) where
  abbrev i : ℕ
  i = number_in ps p

  pub name_within : i < length xs
  name_within = place_within ps xs p paired (name_place ps xs p paired named)

  pub in_use : is_used x.held ≡ true
  in_use = is_used_at xs i x name_within e (subst (λ o. IsSome o)
      (get_record ps (cells_of xs) p (cells_long ps xs paired)) named)

  pub entry_is : get (records_in ps xs) p ≡ Some (record_of x)
  entry_is = get_record ps (cells_of xs) p (cells_long ps xs paired) ∙ cell_is xs i x name_within e in_use

  -- what the node says, the entry says
  pub read_entry : (P : Record → Type 0) → P (record_of x) → IfSome (get (records_in ps xs) p) P
  read_entry P h = subst (λ o. IfSome o P) (sym entry_is) h

  -- what the entry says, the node says
  pub told_entry : (P : Record → Type 0) → IfSome (get (records_in ps xs) p) P → P (record_of x)
  told_entry P h = subst (λ o. IfSome o P) entry_is h

module _ (ps : List NodePtr) (xs : List Node) (p : NodePtr) (w : Node) (paired : length ps
    ≡ length xs) (place : IsPlace ps p) where
  -- the map after a node was written that is in use
  pub written_records : is_used w.held ≡ true → records_in ps (set xs (number_in ps p) w)
      ≡ insert (records_in ps xs) p (record_of w)
  written_records v = ap (records_of ps) (made_cells xs (number_in ps p) w v)
      ∙ records_set ps (cells_of xs) p place (cells_long ps xs paired) (record_of w)

  -- after one that is not
  pub removed_records : is_used w.held ≡ false → records_in ps (set xs (number_in ps p) w) ≡ remove (records_in ps xs) p
  removed_records v = ap (records_of ps) (given_cells xs (number_in ps p) w v)
      ∙ records_unset ps (cells_of xs) p place (cells_long ps xs paired)

pub spare_cell : (w : Node) → is_used w.held ≡ false → cell_of w ≡ None
spare_cell w v = ap (λ y. if_used y (record_of w)) v

-- after one more that is not
pub grown_records : (ps : List NodePtr) (xs : List Node) (b : NodePtr) (w : Node) → length ps ≡ length xs →
    is_used w.held ≡ false → records_in (ps ++ b ∷ []) (xs ++ w ∷ []) ≡ records_in ps xs
grown_records ps xs b w paired v =
    ap (records_of (ps ++ b ∷ [])) (map-append cell_of xs (w ∷ []) ∙ ap (λ o. cells_of xs ++ o ∷ []) (spare_cell w v))
    ∙ records_grown ps (cells_of xs) b (cells_long ps xs paired)

-- after one has left that is not
pub fewer_records : (ps : List NodePtr) (xs : List Node) (i : ℕ) (x : Node) → length ps ≡ length xs →
    AreApart (ats ps) → i < length xs → x ≡ get_or xs i x → is_used x.held ≡ false
    → records_in (without ps i) (without xs i) ≡ records_in ps xs
fewer_records ps xs i x paired a h e v =
    ap (records_of (without ps i)) (map-without cell_of xs i)
    ∙ records_fewer ps (cells_of xs) i (cells_long ps xs paired) a (omega (arith, paired, h))
    (get_or-map cell_of xs i x None h ∙ ap cell_of (sym e) ∙ spare_cell x v)

-- a spare has no record
pub entry_none : (ps : List NodePtr) (xs : List Node) (p : NodePtr) (x : Node) → length ps ≡ length xs →
    number_in ps p < length xs → x ≡ node_at ps xs p x → is_used x.held ≡ false → get (records_in ps xs) p ≡ None
entry_none ps xs p x paired h e v =
    get_record ps (cells_of xs) p (cells_long ps xs paired) ∙ get_or-map cell_of xs (number_in ps p) x None h
    ∙ ap cell_of (sym e) ∙ spare_cell x v

-- ---- a node in use is written
module _ (ps : List NodePtr) (xs : List Node) (p : NodePtr) (x w : Node) (paired : length ps
    ≡ length xs) (named : IsNamed ps xs p) (e : x ≡ node_at ps xs p x) (v : is_used w.held ≡ true) where
  abbrev j : ℕ
  j = number_in ps p

  pub rewritten : (f : Record → Record) → record_of w ≡ f (record_of x) →
      records_in ps (set xs j w) ≡ update (records_in ps xs) p f
  unfolding update
  rewritten f s =
      let m = records_in ps xs in
      written_records ps xs p w paired (name_place ps xs p paired named) v ∙ ap (insert m p) s
      ∙ sym (ap (updated m p f) (entry_is ps xs p x paired named e))

  pub chain_kept : (n : ℕ) (o : Option NodePtr) → ∥ IsChain ps (marks_of xs) (nexts_of xs) n o ∥₁ →
      ∥ IsChain ps (marks_of (set xs j w)) (nexts_of (set xs j w)) n o ∥₁
  chain_kept n o c =
      used_chain ps xs n o j x w (name_within ps xs p x paired named e) e (in_use ps xs p x paired named e) c

  pub count_kept : (n : ℕ) → n ≡ sum_by flag_of xs → n ≡ sum_by flag_of (set xs j w)
  count_kept n h = used_count xs j x w n (name_within ps xs p x paired named e) e (in_use ps xs p x paired named e) v h

  pub listed_kept : (last : Option NodePtr) → before_of w ≡ before_of x →
      befores_of xs ++ last ∷ [] ≡ None ∷ map Some ps → befores_of (set xs j w) ++ last ∷ [] ≡ None ∷ map Some ps
  listed_kept last same h = listed_set ps xs j x w last e same h

  pub whole_kept : (n : ℕ) → n ≡ length xs → n ≡ length (set xs j w)
  whole_kept n h = h ∙ sym (length-set xs j w)

  pub followed_kept : after_of w ≡ after_of x → afters_of xs ≡ behind ps → afters_of (set xs j w) ≡ behind ps
  followed_kept same h = followed_set ps xs j x w e same h

  pub rooms_kept : (k c : ℕ) → room_in w.held ≡ room_in x.held → k + sum_by room_of xs ≡ c →
      k + sum_by room_of (set xs j w) ≡ c
  rooms_kept k c same h = let moved = room_moved xs j x w (name_within ps xs p x paired named e) e in
      omega (arith, moved, same, h)

-- ---- what the setters write
pub used_slot : (h : Held) (n : ℕ) → is_used (with_slot h n) ≡ is_used h
used_slot (Spare m) n = refl
used_slot (Line slot line) n = refl
used_slot (Inner slot room) n = refl

pub room_slot : (h : Held) (n : ℕ) → room_in (with_slot h n) ≡ room_in h
room_slot (Spare m) n = refl
room_slot (Line slot line) n = refl
room_slot (Inner slot room) n = refl

pub parented : (h : Held) (parent new : Option NodePtr) (n : ℕ) → is_used h ≡ true →
    record_in (with_slot h n) new ≡ with_parent (record_in h parent) new n
parented (Spare m) parent new n u = absurd (false≢true u)
parented (Line slot line) parent new n u = refl
parented (Inner slot room) parent new n u = refl

-- the record of a branch by its children and its sum
said : Option NodePtr → ℕ → List Link → Count → Record
said parent slot children sum = inner_record parent slot (map link_name children) sum

pub summed : (h : Held) (old new : Branch) (parent : Option NodePtr) (sum : Count) → h ≡ Inner (slot_in h) old →
    new.room.value.children ≡ old.room.value.children → branch_sum new ≡ sum
    → record_in (Inner (slot_in h) new) parent ≡ with_sum (record_in h parent) sum
unfolding said
summed h old new parent sum e kept is =
    ap₂ (said parent (slot_in h)) kept is ∙ ap (λ k. with_sum (record_in k parent) sum) (sym e)

-- the sum becomes what is made of it
pub recounted : (h : Held) (old new : Branch) (parent : Option NodePtr) (f : Count → Count) →
    h ≡ Inner (slot_in h) old → new.room.value.children ≡ old.room.value.children → branch_sum new ≡ f (branch_sum old)
    → record_in (Inner (slot_in h) new) parent ≡ with_sum (record_in h parent) (f (record_in h parent).sum)
unfolding said
recounted h old new parent f e kept is =
    ap₂ (said parent (slot_in h)) kept is
    ∙ ap (λ k. with_sum (record_in k parent) (f (record_in k parent).sum)) (sym e)

pub lodged : (h : Held) (old new : Branch) (parent : Option NodePtr) (i : ℕ) (link : Link) (child : Option NodePtr)
    → h ≡ Inner (slot_in h) old → new.room.value.children ≡ set old.room.value.children i link
    → branch_sum new ≡ branch_sum old → link_name link ≡ child
    → record_in (Inner (slot_in h) new) parent ≡ with_child (record_in h parent) i child
unfolding said
lodged h old new parent i link child e written kept n =
    ap₂ (said parent (slot_in h)) written kept
    ∙ ap (λ cs. inner_record parent (slot_in h) cs (branch_sum old)) (map-set link_name old.room.value.children i link
    ∙ ap (set (map link_name old.room.value.children) i) n)
    ∙ ap (λ k. with_child (record_in k parent) i child) (sym e)

pub lined : (h : Held) (line w : LineContent) (parent : Option NodePtr) → h ≡ Line (slot_in h) line →
    record_in (Line (slot_in h) w) parent ≡ with_line (record_in h parent) w
lined h line w parent e = ap (λ k. with_line (record_in k parent) w) (sym e)

-- ---- what a node is
pub line_said : (h : Held) (parent : Option NodePtr) → is_used h ≡ true →
    (record_in h parent).line ≡ line_in h
line_said (Spare m) parent u = absurd (false≢true u)
line_said (Line slot line) parent u = refl
line_said (Inner slot room) parent u = refl

pub room_if : (h : Held) (parent : Option NodePtr) → is_used h ≡ true →
    (record_in h parent).line ≡ None → IsRoom h
room_if (Spare m) parent u n = absurd (false≢true u)
room_if (Line slot line) parent u n = absurd (false≢true (sym (ap is_some n)))
room_if (Inner slot room) parent u n = tt

pub line_if : (h : Held) → is_some (line_in h) ≡ true → IsLine h
line_if (Spare m) s = absurd (false≢true s)
line_if (Line slot line) s = tt
line_if (Inner slot room) s = absurd (false≢true s)

pub no_line : (h : Held) → is_some (line_in h) ≡ false → line_in h ≡ None
no_line (Spare m) s = refl
no_line (Line slot line) s = absurd (false≢true (sym s))
no_line (Inner slot room) s = refl

-- ---- two names
pub same_node : (ps : List NodePtr) (xs : List Node) (p : NodePtr) (x y : Node) → number_in ps p < length xs →
    x ≡ node_at ps xs p x → y ≡ node_at ps xs p y → x ≡ y
same_node ps xs p x y h e d = e ∙ any_default xs (number_in ps p) x y h ∙ sym d

pub line_off : (h : Held) → ((slot : ℕ) (line : LineContent) → h ≡ Line slot line → ⊥) → line_in h ≡ None
line_off (Spare m) n = refl
line_off (Line slot line) n = absurd (n slot line refl)
line_off (Inner slot room) n = refl

-- a node that has no room has no children
pub childless : (h : Held) (parent : Option NodePtr) → is_used h ≡ true →
    ((slot : ℕ) (room : Branch) → h ≡ Inner slot room → ⊥) → (record_in h parent).children ≡ nones
childless (Spare m) parent u n = refl
childless (Line slot line) parent u n = refl
childless (Inner slot room) parent u n = absurd (n slot room refl)

pub none_at : (cs : List (Option NodePtr)) (i : ℕ) → cs ≡ nones → None ≡ get_or cs i None
none_at cs i e = sym (ap (λ ds. get_or ds i None) e ∙ get_or-nones 12 i)

pub slot_said : (h : Held) (parent : Option NodePtr) → is_used h ≡ true → slot_in h ≡ (record_in h parent).slot
slot_said (Spare m) parent u = absurd (false≢true u)
slot_said (Line slot line) parent u = refl
slot_said (Inner slot room) parent u = refl

pub parent_said : (h : Held) (parent : Option NodePtr) → is_used h ≡ true →
    parent ≡ (record_in h parent).parent
parent_said (Spare m) parent u = absurd (false≢true u)
parent_said (Line slot line) parent u = refl
parent_said (Inner slot room) parent u = refl

pub spare_room : (h : Held) → is_used h ≡ false → room_in h ≡ 0
spare_room (Spare m) u = refl
spare_room (Line slot line) u = absurd (false≢true (sym u))
spare_room (Inner slot room) u = absurd (false≢true (sym u))

-- ---- the toggles of a branch are those of its room
pub bare_branch : (branch : Branch) (room : Room) → room ≡ branch.room.value → AreBare room.toggles →
    IsBare (branch_sum branch)
bare_branch branch room is bare =
    let same = ap (λ (z : Room). z.toggles) is in
    record {
      parity = ap (λ (t : ToggleSets). t.parity) (sym same) ∙ bare.parity;
      presence = ap (λ (t : ToggleSets). t.presence) (sym same) ∙ bare.presence;
    }

pub bare_room : (branch : Branch) (room : Room) → room ≡ branch.room.value → IsBare (branch_sum branch) →
    AreBare room.toggles
bare_room branch room is bare =
    let same = ap (λ (z : Room). z.toggles) is in
    record {
      parity = ap (λ (t : ToggleSets). t.parity) same ∙ bare.parity;
      presence = ap (λ (t : ToggleSets). t.presence) same ∙ bare.presence;
    }
