use Rattle.raw_nodes.proofs.Common.{◌≡◌, ◌∙◌, ◌-◌, List, [], ◌∷◌, ◌++◌, ap, arith, get_or, length, map, subst, sym}
use Rattle.raw_nodes.proofs.Common.{sum_by, IfSome, None, Some, AreApart, IsPlace, ats, number_in, put_at, without}
use Rattle.raw_nodes.proofs.Common.{IsChain, after_of, afters_of, before_of, befores_of, behind, flag_of, last_left}
use Rattle.raw_nodes.proofs.Common.{marks_of, next_of, nexts_of, room_of, link_name, records_in, Link, NodePtr, Held}
use Rattle.raw_nodes.proofs.Common.{Node, Option}
use Rattle.raw_nodes.specs.Names.{records}
use Rattle.raw_nodes.proofs.ChainLaws.{chain_head, is_spare}
use Rattle.raw_nodes.proofs.NameLaws.{place_within}
use Rattle.raw_nodes.proofs.NeighbourLaws.{Relinked, after_place, apart_had, apart_without, before_place, content_at}
use Rattle.raw_nodes.proofs.NeighbourLaws.{left_chain, left_count, left_followed, left_listed, left_long, left_records}
use Rattle.raw_nodes.proofs.NeighbourLaws.{left_rooms}
use Rattle.raw_nodes.proofs.store.NodeStore.free_spare.Goals as goal

pub node-spare-requires : goal.node-spare-requires
node-spare-requires g c =
    let a = c.args.self.now in let h = a.heap in
    (chain_head h.places h.values a.spares a.first_spare c.unwrap-name.result c.unwrap-name.ensures a.chained).place

pub link_after-requires : goal.link_after-requires
link_after-requires g c =
    let a = c.args.self.now in let h = a.heap in let p = c.unwrap-name.result in let x = c.node-spare.result.now in
    let head = chain_head h.places h.values a.spares a.first_spare p c.unwrap-name.ensures a.chained in
    subst (λ o. IfSome o (IsPlace h.places)) (sym c.name-previous.ensures)
    (before_place h.places h.values a.last p x h.paired head.place c.node-spare.ensures (apart_had (ats h.places) a.apart)
    a.listed)

pub link_before-requires : goal.link_before-requires
link_before-requires g c =
    let a = c.args.self.now in let h = a.heap in let p = c.unwrap-name.result in let x = c.node-spare.result.now in
    let head = chain_head h.places h.values a.spares a.first_spare p c.unwrap-name.ensures a.chained in
    subst (λ (k : List NodePtr × Option NodePtr). IfSome k.1 (IsPlace k.0)) (λ j. (
      sym c.link_after.ensures.places j,
      sym c.name-next.ensures j,
    ))
    (after_place h.places h.values p x h.paired head.place c.node-spare.ensures (apart_had (ats h.places) a.apart)
    a.followed)

pub release-requires : goal.release-requires
release-requires g c =
    let a = c.args.self.now in let h = a.heap in let p = c.unwrap-name.result in
    let head = chain_head h.places h.values a.spares a.first_spare p c.unwrap-name.ensures a.chained in
    subst (λ (k : List NodePtr). IsPlace k p) (sym (c.link_before.ensures.places ∙ c.link_after.ensures.places)) head.place

pub invariant_of-self : goal.invariant_of-self
invariant_of-self g c =
    let a = c.args.self.now in let h = a.heap in let p = c.unwrap-name.result in let x = c.node-spare.result.now in
    let e = c.node-spare.ensures in let one = c.link_after.ensures in let two = c.link_before.ensures in
    let zs = c.link_before.new.self.values in let told = c.release.ensures in let y = c.release.result.value in
    let head = chain_head h.places h.values a.spares a.first_spare p c.unwrap-name.ensures a.chained in
    let apart = apart_had (ats h.places) a.apart in let i = number_in h.places p in
    let within = place_within h.places h.values p h.paired head.place in
    let free = is_spare h.values i x a.spares within e c.requires head.mark in
    let places : c.link_before.new.self.places ≡ h.places = two.places ∙ one.places in
    let r : Relinked h.places h.values zs x = record {
      contents = two.contents ∙ one.contents;
      befores = two.befores ∙ (λ j. put_at (one.places j) (one.befores j) (c.name-next.ensures j) (before_of x));
      afters = two.afters ∙ one.afters
          ∙ ap (λ o. put_at h.places (afters_of h.values) o (after_of x)) c.name-previous.ensures;
    } in
    let at : c.release.new.self.places ≡ without h.places i = told.places
    ∙ ap (λ (k : List NodePtr). without k (number_in k p)) places in
    let ws : c.release.new.self.values ≡ without zs i = told.values
    ∙ ap (λ (k : List NodePtr). without zs (number_in k p)) places in
    let there = told.value ∙ ap (λ (k : List NodePtr). get_or zs (number_in k p) y) places in
    let first : c.name-self.result ≡ next_of x = c.name-self.ensures
    ∙ ap (λ (n : Node). next_of n) (c.deref.ensures ∙ c.into_box-spare.ensures)
    ∙ ap (λ (k : Link × Held). link_name k.0) (content_at h.values zs (sym r.contents) i x y within e there) in
    let long = left_long h.places h.values zs a.last p x h.paired head.place e apart a.listed a.followed r in
    let same = ap length ws in let whole = a.whole in let small = a.small in
    let rooms = left_rooms h.places h.values zs a.last p x h.paired head.place e apart a.listed a.followed r free in
    let kept = ap (sum_by room_of) ws in let roomed = a.roomed in
    record {
      listed = (λ j. befores_of (ws j) ++ (c.last_left-self.ensures ∙ (λ k.
          last_left a.last (c.name-previous.ensures k) (c.name-next.ensures k))) j ∷ [])
          ∙ left_listed h.places h.values zs a.last p x h.paired head.place e apart a.listed a.followed r
          ∙ ap (λ (k : List NodePtr). None ∷ map Some k) (sym at);
      whole = omega (arith, long, same, whole);
      small = omega (arith, small);
      chained = subst (λ (k : List NodePtr × List Node × Option NodePtr).
          ∥ IsChain k.0 (marks_of k.1) (nexts_of k.1) (a.spares - 1) k.2 ∥₁) (λ j. (sym at j, sym ws j, sym first j))
          (left_chain h.places h.values zs a.last p x h.paired head.place e apart a.listed a.followed r a.spares head);
      counted = left_count h.places h.values zs a.last p x h.paired head.place e apart a.listed a.followed r a.spares free
          a.counted ∙ ap (sum_by flag_of) (sym ws);
      followed = ap afters_of ws
          ∙ left_followed h.places h.values zs a.last p x h.paired head.place e apart a.listed a.followed r
          ∙ ap behind (sym at);
      apart = ∣ subst (λ (k : List NodePtr). AreApart (ats k)) (sym at) (apart_without h.places i apart) ∣₁;
      roomed = omega (arith, rooms, kept, roomed);
      fitting = a.fitting;
    }

pub returns-clause-records : goal.returns-clause-records
unfolding records
returns-clause-records g c =
    let a = c.args.self.now in let h = a.heap in let p = c.unwrap-name.result in let x = c.node-spare.result.now in
    let e = c.node-spare.ensures in let one = c.link_after.ensures in let two = c.link_before.ensures in
    let zs = c.link_before.new.self.values in let told = c.release.ensures in let y = c.release.result.value in
    let head = chain_head h.places h.values a.spares a.first_spare p c.unwrap-name.ensures a.chained in
    let apart = apart_had (ats h.places) a.apart in let i = number_in h.places p in
    let within = place_within h.places h.values p h.paired head.place in
    let free = is_spare h.values i x a.spares within e c.requires head.mark in
    let places : c.link_before.new.self.places ≡ h.places = two.places ∙ one.places in
    let r : Relinked h.places h.values zs x = record {
      contents = two.contents ∙ one.contents;
      befores = two.befores ∙ (λ j. put_at (one.places j) (one.befores j) (c.name-next.ensures j) (before_of x));
      afters = two.afters ∙ one.afters
          ∙ ap (λ o. put_at h.places (afters_of h.values) o (after_of x)) c.name-previous.ensures;
    } in
    let at : c.release.new.self.places ≡ without h.places i = told.places
    ∙ ap (λ (k : List NodePtr). without k (number_in k p)) places in
    let ws : c.release.new.self.values ≡ without zs i = told.values
    ∙ ap (λ (k : List NodePtr). without zs (number_in k p)) places in
    (λ j. records_in (at j) (ws j))
    ∙ left_records h.places h.values zs a.last p x h.paired head.place e apart a.listed a.followed r free
