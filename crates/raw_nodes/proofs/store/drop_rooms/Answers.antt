use Rattle.raw_nodes.proofs.Common.{◌≡◌, ◌∙◌, ◌<◌, ◌++◌, ◌∷◌, [], ℕ, suc, List, Option, None, Some, IfSome, IsPlace, ap}
use Rattle.raw_nodes.proofs.Common.{sym, subst, refl, arith, map, number_in, befores_of, AreApart, ats, before_of}
use Rattle.raw_nodes.proofs.Common.{length-map, NodePtr}
use Rattle.raw_nodes.proofs.NeighbourLaws.{apart_had, before_number, before_place, last_place}
use Rattle.raw_nodes.proofs.store.drop_rooms.Invariants.{left}
use Rattle.raw_nodes.proofs.store.drop_rooms.Goals.{In-Some}
use Rattle.raw_nodes.proofs.store.drop_rooms.Goals as goal

pub loop-next-init : goal.loop-next-init
loop-next-init c =
    let h = c.args.heap.now in record {
      places = refl;
      befores = refl;
      next = last_place h.places (befores_of h.values) c.args.last (apart_had (ats h.places) c.requires.apart)
          (length-map h.values before_of ∙ sym h.paired) c.requires.listed;
    }

here : (c : In-Some) → IsPlace c.loop-next.heap.places c.in-Some.name
here c = subst (λ o. IfSome o (IsPlace c.loop-next.heap.places)) c.in-Some.is c.loop-next.invariant.next

-- the row of all nodes, as it is still
listed : (c : In-Some) → befores_of c.loop-next.heap.values ++ c.args.last ∷ []
    ≡ None ∷ map Some c.loop-next.heap.places
listed c =
    ap (λ bs. bs ++ c.args.last ∷ []) c.loop-next.invariant.befores ∙ c.requires.listed
    ∙ ap (λ ps. None ∷ map Some ps) (sym c.loop-next.invariant.places)

apart : (c : In-Some) → AreApart (ats c.loop-next.heap.places)
apart c =
    subst (λ ps. AreApart (ats ps)) (sym c.loop-next.invariant.places)
    (apart_had (ats c.args.heap.now.places) c.requires.apart)

pub loop-next-preserved : goal.loop-next-preserved
loop-next-preserved c =
    let h = c.loop-next.heap in let told = c.drop_room.ensures in
    let at = (goal.at.loop-next-preserved c).In-Some in
    record {
      places = told.places ∙ c.loop-next.invariant.places;
      befores = told.befores ∙ c.loop-next.invariant.befores;
      next = subst (λ ps. IfSome c.name-next.result (IsPlace ps)) (sym told.places)
          (subst (λ o. IfSome o (IsPlace h.places)) (sym c.name-next.ensures) (before_place h.places h.values c.args.last
          c.in-Some.name c.node.result.now h.paired (here at) c.node.ensures (apart at) (listed at)));
    }

less : (places : List NodePtr) (i : ℕ) (o : Option NodePtr)
    → ((b : NodePtr) → o ≡ Some b → suc (number_in places b) ≡ i) → left places o < suc i
less places i None before = omega arith
less places i (Some b) before = let is = before b refl in omega (arith, is)

pub loop-next-smaller : goal.loop-next-smaller
loop-next-smaller c =
    let h = c.loop-next.heap in
    let at = (goal.at.loop-next-smaller c).In-Some in
    let same = c.loop-next.invariant.places in
    subst (λ ps. left ps c.name-next.result < left ps c.loop-next.next) same
    (subst (λ o. left h.places c.name-next.result < left h.places o) (sym c.in-Some.is)
    (less h.places (number_in h.places c.in-Some.name) c.name-next.result
    (λ b is. (before_number h.places h.values c.args.last c.in-Some.name c.node.result.now h.paired (here at)
    c.node.ensures (apart at) (listed at) b (sym c.name-next.ensures ∙ is)).1)))

pub node-requires : goal.node-requires
node-requires c = here (goal.at.node-requires c).In-Some

pub drop_room-requires : goal.drop_room-requires
drop_room-requires c = here (goal.at.drop_room-requires c).In-Some
