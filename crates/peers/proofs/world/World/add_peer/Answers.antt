use Rattle.peers.proofs.Common.{◌≡◌, ◌<◌, false, length, sym, ap, subst, ◌∙◌, arith, chars, nat_le, nat_tests, is_among}
use Rattle.peers.proofs.Common.{TooManyWidgets, WindowExists, Change, changed, World, all_windows, document_at}
use Rattle.peers.proofs.Common.{windows_of}
use Rattle.peers.proofs.MakesLaws.{changed-refuses, makes-refused}
use Rattle.peers.proofs.WorldLaws.{formed-peer, peer-many, peer-new, peer-taken, with_all}
use Rattle.peers.proofs.world.World.add_peer.Goals as goal

pub returns-then-has_widget : goal.returns-then-has_widget
returns-then-has_widget g c =
    let world = c.args.self.now in let place = c.args.place in
    let change = peer-taken world.limits (all_windows world) (document_at world.documents place) c.args.position
    (chars c.args.name.now) c.args.settings (sym c.has_widget.ensures.value ∙ c.if-has_widget.true) in
    makes-refused world (WindowExists c.args.position) _ c.has_widget.ensures.well_formed
    (ap (changed world place) change ∙ changed-refuses world place (WindowExists c.args.position))

pub returns-then-is_full : goal.returns-then-is_full
returns-then-is_full g c =
    let world = c.args.self.now in let place = c.args.place in
    let change = peer-many world.limits (all_windows world) (document_at world.documents place) c.args.position
    (chars c.args.name.now) c.args.settings (sym c.has_widget.ensures.value ∙ c.if-has_widget.false)
    (sym c.is_full.ensures ∙ c.if-is_full.true) in
    makes-refused world TooManyWidgets _ c.has_widget.ensures.well_formed
    (ap (changed world place) change ∙ changed-refuses world place TooManyWidgets)

pub add_peer-requires-clause-new : goal.add_peer-requires-clause-new
add_peer-requires-clause-new g c =
    subst (λ (w : World). is_among (chars c.args.name.now) (all_windows w)
    ≡ false) (sym c.self.view_is) (sym c.has_widget.ensures.value ∙ c.if-has_widget.false)

pub add_peer-requires-clause-few : goal.add_peer-requires-clause-few
add_peer-requires-clause-few g c =
    let room : length (windows_of c.self.inside.documents.list.items) < c.self.inside.limits.widgets =
    subst (λ (w : World). length (all_windows w) < w.limits.widgets) (sym c.self.view_is)
    (let few = sym c.is_full.ensures ∙ c.if-is_full.false in grind (arith, nat_tests, few)) in
    omega (arith, room, c.self.invariant.limits.widgets)

pub invariant_of-self-2 : goal.invariant_of-self-2
invariant_of-self-2 g c =
    let documents = c.self.inside.documents.list.items in let limits = c.self.inside.limits in
    let new : is_among (chars c.args.name.now) (windows_of documents) ≡ false =
    subst (λ (w : World). is_among (chars c.args.name.now) (all_windows w) ≡ false) (sym c.self.view_is)
    (sym c.has_widget.ensures.value ∙ c.if-has_widget.false) in
    let few : nat_le limits.widgets (length (windows_of documents)) ≡ false =
    subst (λ (w : World). nat_le w.limits.widgets (length (all_windows w))
    ≡ false) (sym c.self.view_is) (sym c.is_full.ensures ∙ c.if-is_full.false) in
    let within : c.args.place < length documents = subst (λ (w : World). c.args.place
    < length w.documents) (sym c.self.view_is) c.requires.place in
    formed-peer limits (chars c.args.name.now) c.args.settings documents c.add_peer.new.self.list.items c.args.place
    c.add_peer.result c.self.invariant within new few c.add_peer.ensures.ok c.add_peer.ensures.err
    (c.add_peer.ensures.well_formed limits c.self.invariant.documents)

pub returns : goal.returns
returns g c =
    let world = c.args.self.now in let place = c.args.place in let name = chars c.args.name.now in
    let documents = c.self.inside.documents.list.items in let limits = c.self.inside.limits in
    let new : is_among name (windows_of documents) ≡ false =
    subst (λ (w : World). is_among name (all_windows w) ≡ false) (sym c.self.view_is) (sym c.has_widget.ensures.value
    ∙ c.if-has_widget.false) in
    let few : nat_le limits.widgets (length (windows_of documents)) ≡ false =
    subst (λ (w : World). nat_le w.limits.widgets (length (all_windows w))
    ≡ false) (sym c.self.view_is) (sym c.is_full.ensures ∙ c.if-is_full.false) in
    let within : place < length documents = subst (λ (w : World). place
    < length w.documents) (sym c.self.view_is) c.requires.place in
    let change = peer-new limits (windows_of documents) (document_at documents place) c.args.position name
    c.args.settings new few in
    record {
      reply = λ _. sym (ap (λ (x : Change). x.reply) (peer-new world.limits (all_windows world)
          (document_at world.documents place) c.args.position name c.args.settings
          (sym c.has_widget.ensures.value ∙ c.if-has_widget.false) (sym c.is_full.ensures ∙ c.if-is_full.false)));
      world = λ _. rw (← c.self.view_is) (ap (with_all limits) c.in_ok-add_peer.ensures.ok
          ∙ sym (ap (λ (x : Change). (changed (with_all limits documents) place x).world) change));
      refused = tt;
      well_formed = formed-peer limits name c.args.settings documents c.add_peer.new.self.list.items place
          c.add_peer.result c.self.invariant within new few c.add_peer.ensures.ok c.add_peer.ensures.err
          (c.add_peer.ensures.well_formed limits c.self.invariant.documents);
    }
