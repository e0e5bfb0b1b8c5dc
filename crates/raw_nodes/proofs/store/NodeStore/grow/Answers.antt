use Rattle.raw_nodes.proofs.Common.{◌≡◌, ◌+◌, ◌^◌, ◌<◌, false, List, [], ◌∷◌, ◌++◌, ap, arith, length-append, map, sym}
use Rattle.raw_nodes.proofs.Common.{subst, ◌∙◌, refl, nat_tests, IfSome, None, Some, AreApart, IsPlace, ats, put_at}
use Rattle.raw_nodes.proofs.Common.{IsChain, after_of, afters_of, before_of, befores_of, behind, contents_of, marks_of}
use Rattle.raw_nodes.proofs.Common.{next_of, nexts_of, room_of, is_used, records_in, slot_in, NodePtr, Node}
use Rattle.raw_nodes.specs.Names.{records}
use Rattle.raw_nodes.proofs.ChainLaws.{count-le, grown_chain, grown_count, listed_grown, room_grown}
use Rattle.raw_nodes.proofs.NameLaws.{grown_records}
use Rattle.raw_nodes.proofs.NeighbourLaws.{apart_grown, apart_had, content_long, followed_grown, last_place_grown}
use Rattle.raw_nodes.proofs.NeighbourLaws.{same_chain, same_count, same_records, same_rooms}
use Rattle.raw_nodes.proofs.store.NodeStore.grow.Goals as goal

pub overflow_add-self : goal.overflow_add-self
overflow_add-self g c = let small = c.args.self.now.small in let full = c.if-self.false in
    record { fits = grind (arith, nat_tests, small, full) }

pub overflow_add-self-2 : goal.overflow_add-self-2
overflow_add-self-2 g c =
    let a = c.args.self.now in let few = count-le a.heap.values in let counted = a.counted in let whole = a.whole in
    let small = a.small in let full = c.if-self.false in
    let less : a.count + 1 < 2 ^ 32 = grind (arith, nat_tests, small, full) in
    record { fits = omega (arith, few, counted, whole, less) }

pub link_after-requires : goal.link_after-requires
link_after-requires g c =
    let a = c.args.self.now in let h = a.heap in let p = c.adopt-name.result in let told = c.adopt-name.ensures in
    subst (λ (qs : List NodePtr). IfSome a.last (IsPlace qs)) (sym told.places)
    (last_place_grown h.places h.values a.last p (apart_had (ats h.places) a.apart) h.paired a.listed)

pub invariant_of-self : goal.invariant_of-self
unfolding records
invariant_of-self g c =
    let a = c.args.self.now in let h = a.heap in let p = c.adopt-name.result in let w = c.of-3.result.value in
    let told = c.adopt-name.ensures in let linked = c.link_after.ensures in let zs = c.link_after.new.self.values in
    let qs = c.link_after.new.self.places in
    let ps = h.places ++ p ∷ [] in let xs = h.values ++ w ∷ [] in
    let made = c.of-3.ensures ∙ c.in_ok-place.ensures.ok in
    let free : is_used w.held ≡ false = ap (λ (y : Node). is_used y.held) made in
    let places : qs ≡ ps = linked.places ∙ told.places in
    let same : contents_of xs ≡ contents_of zs = sym (linked.contents ∙ ap contents_of told.values) in
    let long = content_long xs zs same in let longer = length-append h.values (w ∷ []) in
    let rooms = same_rooms xs zs same in let more = room_grown h.values w (ap room_of made) in
    let roomed = a.roomed in let whole = a.whole in let apart = apart_had (ats h.places) a.apart in
    record {
      listed =
          ap (λ bs. bs ++ Some p ∷ []) (linked.befores ∙ ap befores_of told.values)
          ∙ listed_grown h.places h.values w p a.last (ap before_of made ∙ c.of-2.ensures) a.listed
          ∙ ap (λ (k : List NodePtr). None ∷ map Some k) (sym places);
      whole = omega (arith, long, longer, whole);
      small = (let small = a.small in let full = c.if-self.false in grind (arith, nat_tests, small, full));
      chained = subst (λ (k : List NodePtr). ∥ IsChain k (marks_of zs) (nexts_of zs) (a.spares + 1) (Some p) ∥₁)
          (sym places) (same_chain xs zs same ps (a.spares + 1) (Some p)
          (grown_chain h.places h.values a.spares a.first_spare p w told.fresh h.paired free
          (ap (λ (y : Node). slot_in y.held) made) (ap next_of made ∙ c.of.ensures) a.chained));
      counted = grown_count h.values w a.spares free a.counted ∙ same_count xs zs same;
      followed =
          linked.afters
          ∙ (λ j. put_at (told.places j) (afters_of (told.values j)) a.last (c.of-4.ensures j))
          ∙ followed_grown h.places h.values a.last p w apart h.paired a.listed a.followed
          (ap after_of made ∙ c.none.ensures)
          ∙ ap behind (sym places);
      apart = ∣ subst (λ (k : List NodePtr). AreApart (ats k)) (sym places) (apart_grown h.places p apart told.fresh) ∣₁;
      roomed = omega (arith, rooms, more, roomed);
      fitting = a.fitting;
    }

pub returns-clause-records : goal.returns-clause-records
unfolding records
returns-clause-records g c =
    let a = c.args.self.now in let h = a.heap in let p = c.adopt-name.result in let w = c.of-3.result.value in
    let told = c.adopt-name.ensures in let linked = c.link_after.ensures in let zs = c.link_after.new.self.values in
    let ps = h.places ++ p ∷ [] in let xs = h.values ++ w ∷ [] in
    let made = c.of-3.ensures ∙ c.in_ok-place.ensures.ok in
    let free : is_used w.held ≡ false = ap (λ (y : Node). is_used y.held) made in
    let same : contents_of xs ≡ contents_of zs = sym (linked.contents ∙ ap contents_of told.values) in
    ap (λ (k : List NodePtr). records_in k zs) (linked.places ∙ told.places)
    ∙ sym (same_records xs zs same ps)
    ∙ grown_records h.places h.values p w h.paired free

pub returns-then-self-clause-records : goal.returns-then-self-clause-records
unfolding records
returns-then-self-clause-records g c = refl

pub returns-in_err-place-clause-records : goal.returns-in_err-place-clause-records
unfolding records
returns-in_err-place-clause-records g c = refl
