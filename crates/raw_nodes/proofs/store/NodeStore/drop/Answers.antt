use Rattle.raw_nodes.proofs.Common.{◌∙◌, List, [], ◌∷◌, ◌++◌, ap, arith, length, map, subst, sym, length-map, None}
use Rattle.raw_nodes.proofs.Common.{Some, AreApart, ats, before_of, befores_of, NodePtr, Node}
use Rattle.raw_nodes.proofs.ChainLaws.{listed_none}
use Rattle.raw_nodes.proofs.NeighbourLaws.{apart_had, apart_without, end_left, last_number}
use Rattle.raw_nodes.proofs.WithoutLaws.{length-without}
use Rattle.raw_nodes.proofs.store.NodeStore.drop.Goals as goal

pub release-requires : goal.release-requires
release-requires g c =
    let h = c.loop-last.heap in
    (last_number h.places (befores_of h.values) c.in-Some.name (apart_had (ats h.places) c.loop-last.invariant.apart)
    (length-map h.values before_of ∙ sym h.paired)
    (ap (λ o. befores_of h.values ++ o ∷ []) (sym c.in-Some.is) ∙ c.loop-last.invariant.listed)).0

pub loop-last-preserved : goal.loop-last-preserved
loop-last-preserved g c =
    let h = c.loop-last.heap in let k = c.release.new.self in let p = c.in-Some.name in
    let w = c.release.result.value in let told = c.release.ensures in
    let apart = apart_had (ats h.places) c.loop-last.invariant.apart in
    record {
      listed =
          ap (λ o. befores_of k.values ++ o ∷ [])
          (c.name-last.ensures ∙ ap (λ (x : Node). before_of x) (c.deref.ensures ∙ c.into_box-node.ensures))
          ∙ (λ j. befores_of (told.values j) ++ before_of w ∷ [])
          ∙ end_left h.places h.values p w h.paired apart
          (ap (λ o. befores_of h.values ++ o ∷ []) (sym c.in-Some.is) ∙ c.loop-last.invariant.listed) told.value
          ∙ ap (λ (qs : List NodePtr). None ∷ map Some qs) (sym told.places);
      apart = ∣ subst (λ (qs : List NodePtr). AreApart (ats qs)) (sym told.places) (apart_without h.places _ apart) ∣₁;
    }

pub loop-last-smaller : goal.loop-last-smaller
loop-last-smaller g c =
    let h = c.loop-last.heap in let told = c.release.ensures in
    let place = (last_number h.places (befores_of h.values) c.in-Some.name (apart_had (ats h.places) c.loop-last.invariant.apart)
    (length-map h.values before_of ∙ sym h.paired)
    (ap (λ o. befores_of h.values ++ o ∷ []) (sym c.in-Some.is) ∙ c.loop-last.invariant.listed)).0 in
    let less = length-without h.places _ place in let same = ap length told.places in
    omega (arith, less, same)

pub finish-requires : goal.finish-requires
finish-requires g c =
    let h = c.loop-last.heap in
    listed_none (befores_of h.values) h.places (ap (λ o. befores_of h.values ++ o ∷ []) (sym c.in_default.is)
    ∙ c.loop-last.invariant.listed)
