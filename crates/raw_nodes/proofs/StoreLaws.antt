-- A store and one of its nodes: what the node says its entry says, and what holds after a change of the node.
use Rattle.raw_nodes.proofs.Common.{◌≡◌, ℕ, ◌<◌, ◌≤◌, ◌+◌, ◌^◌, true, List, [], ◌∷◌, ◌++◌, length, set, map, sym, ap}
use Rattle.raw_nodes.proofs.Common.{◌∙◌, IfSome, None, Some, sum_by, AreApart, IsPlace, ats, node_at, number_in}
use Rattle.raw_nodes.proofs.Common.{IsChain, after_of, afters_of, before_of, befores_of, behind, flag_of, marks_of}
use Rattle.raw_nodes.proofs.Common.{nexts_of, room_in, room_of, link_name, Record, is_used, record_in, record_of}
use Rattle.raw_nodes.proofs.Common.{records_in, NodePtr, Held, Node, vec_capacity, IsRoom, IsName, entry, update, Spare}
use mathlib.Core.Bool.{false≢true}
use Rattle.raw_nodes.specs.Names.{records}
use Rattle.raw_nodes.specs.declared.store.NodeStore.{NodeStore}
use Rattle.raw_nodes.specs.declared.ticks.Ticks.{Ghosts}
use Rattle.raw_nodes.proofs.NameLaws.{chain_kept, count_kept, followed_kept, in_use, listed_kept, name_place}
use Rattle.raw_nodes.proofs.NameLaws.{read_entry, rewritten, room_if, rooms_kept, told_entry, whole_kept}

module _ {C : Type 0} {G : Ghosts C} (s : NodeStore C G) (p : NodePtr) (named : IsName s p) where
  abbrev ps : List NodePtr
  ps = s.heap.places

  abbrev xs : List Node
  xs = s.heap.values

  pub place_of : IsPlace ps p
  unfolding records
  place_of = name_place ps xs p s.heap.paired named

  module _ {x : Node} (is : x ≡ node_at ps xs p x) where
    pub used : is_used x.held ≡ true
    unfolding records
    used = in_use ps xs p x s.heap.paired named is

    pub never_spare : {n : ℕ} → x.held ≡ Spare n → ⊥
    never_spare spare = false≢true (sym (ap is_used spare) ∙ used)

    pub read : (P : Record → Type 0) → P (record_of x) → IfSome (entry s p) P
    unfolding records
    read = read_entry ps xs p x s.heap.paired named is

    -- by what the node holds
    pub says : {A : Type 0} (f : Record → A) {held : Held} {v : A} → x.held ≡ held →
        v ≡ f (record_in held (link_name x.parent)) → IfSome (entry s p) (λ r. v ≡ f r)
    says f {v = v} holds same =
        read (λ r. v ≡ f r) (same ∙ sym (ap (λ held. f (record_in held (link_name x.parent))) holds))

    pub told : (P : Record → Type 0) → IfSome (entry s p) P → P (record_of x)
    unfolding records
    told = told_entry ps xs p x s.heap.paired named is

    pub has_room : IfSome (entry s p) (λ r. r.line ≡ None) → IsRoom x.held
    has_room inner = room_if x.held (link_name x.parent) used (told (λ r. r.line ≡ None) inner)

    module _ (w : Node) (stays : is_used w.held ≡ true) where
      abbrev ys : List Node
      ys = set xs (number_in ps p) w

      pub changed : (f : Record → Record) → record_of w ≡ f (record_of x) → records_in ps ys ≡ update (records s) p f
      unfolding records
      changed f same = rewritten ps xs p x w s.heap.paired named is stays f same

      -- the links and the counts of a store, which a change of what one node says leaves
      pub kept : before_of w ≡ before_of x → after_of w ≡ after_of x → room_in w.held ≡ room_in x.held → record {
        listed : befores_of ys ++ s.last ∷ [] ≡ None ∷ map Some ps;
        whole : s.count ≡ length ys;
        small : s.count < 2 ^ 32;
        chained : ∥ IsChain ps (marks_of ys) (nexts_of ys) s.spares s.first_spare ∥₁;
        counted : s.spares ≡ sum_by flag_of ys;
        followed : afters_of ys ≡ behind ps;
        apart : ∥ AreApart (ats ps) ∥₁;
        roomed : length s.rooms.items + sum_by room_of ys ≡ s.room_count;
        fitting : s.room_count ≤ vec_capacity s.rooms;
      }
      unfolding records
      kept before after room =
          let paired = s.heap.paired in record {
            listed = listed_kept ps xs p x w paired named is stays s.last before s.listed;
            whole = whole_kept ps xs p x w paired named is stays s.count s.whole;
            small = s.small;
            chained = chain_kept ps xs p x w paired named is stays s.spares s.first_spare s.chained;
            counted = count_kept ps xs p x w paired named is stays s.spares s.counted;
            followed = followed_kept ps xs p x w paired named is stays after s.followed;
            apart = s.apart;
            roomed = rooms_kept ps xs p x w paired named is stays _ s.room_count room s.roomed;
            fitting = s.fitting;
          }
