use Rattle.peers.proofs.Common.{◌≡◌, false, length, sym, ap, subst, ◌∙◌, chars, nat_le, is_among, TooManyWidgets}
use Rattle.peers.proofs.Common.{WindowExists, Outcome, World, all_windows, windows_of}
use Rattle.peers.proofs.MakesLaws.{makes-refused}
use Rattle.peers.proofs.WorldLaws.{formed-added, named-many, named-new, named-taken, with_all}
use Rattle.peers.proofs.world.World.create_named.Goals as goal

pub returns-then-has_widget : goal.returns-then-has_widget
returns-then-has_widget g c =
    makes-refused c.args.self.now (WindowExists 1) _ c.has_widget.ensures.well_formed
    (named-taken c.args.self.now (chars c.args.name.now) c.args.settings
    (sym c.has_widget.ensures.value ∙ c.if-has_widget.true))

pub returns-then-is_full : goal.returns-then-is_full
returns-then-is_full g c =
    makes-refused c.args.self.now TooManyWidgets _ c.has_widget.ensures.well_formed
    (named-many c.args.self.now (chars c.args.name.now) c.args.settings
    (sym c.has_widget.ensures.value ∙ c.if-has_widget.false) (sym c.is_full.ensures ∙ c.if-is_full.true))

pub invariant_of-self-2 : goal.invariant_of-self-2
invariant_of-self-2 g c =
    let documents = c.self.inside.documents.list.items in
    let new : is_among (chars c.args.name.now) (windows_of documents) ≡ false =
    subst (λ (w : World). is_among (chars c.args.name.now) (all_windows w) ≡ false) (sym c.self.view_is)
    (sym c.has_widget.ensures.value ∙ c.if-has_widget.false) in
    let few : nat_le c.self.inside.limits.widgets (length (windows_of documents)) ≡ false =
    subst (λ (w : World). nat_le w.limits.widgets (length (all_windows w))
    ≡ false) (sym c.self.view_is) (sym c.is_full.ensures ∙ c.if-is_full.false) in
    formed-added c.self.inside.limits (chars c.args.name.now) c.args.settings documents c.add.new.self.list.items
    c.add.result c.self.invariant new few c.add.ensures.ok c.add.ensures.err
    (c.add.ensures.well_formed c.self.inside.limits c.self.invariant.limits c.self.invariant.documents)

pub returns : goal.returns
returns g c =
    let name = chars c.args.name.now in
    let documents = c.self.inside.documents.list.items in
    let new : is_among name (windows_of documents) ≡ false =
    subst (λ (w : World). is_among name (all_windows w) ≡ false) (sym c.self.view_is) (sym c.has_widget.ensures.value
    ∙ c.if-has_widget.false) in
    let few : nat_le c.self.inside.limits.widgets (length (windows_of documents)) ≡ false =
    subst (λ (w : World). nat_le w.limits.widgets (length (all_windows w))
    ≡ false) (sym c.self.view_is) (sym c.is_full.ensures ∙ c.if-is_full.false) in
    let made = named-new (with_all c.self.inside.limits documents) name c.args.settings new few in
    record {
      reply = λ _. sym (ap (λ (o : Outcome). o.reply) (named-new c.args.self.now name c.args.settings
          (sym c.has_widget.ensures.value ∙ c.if-has_widget.false) (sym c.is_full.ensures ∙ c.if-is_full.false)));
      world = λ _. rw (← c.self.view_is) (ap (with_all c.self.inside.limits) c.in_ok-add.ensures.ok
          ∙ sym (ap (λ (o : Outcome). o.world) made));
      refused = tt;
      well_formed = formed-added c.self.inside.limits name c.args.settings documents c.add.new.self.list.items
          c.add.result c.self.invariant new few c.add.ensures.ok c.add.ensures.err
          (c.add.ensures.well_formed c.self.inside.limits c.self.invariant.limits
          c.self.invariant.documents);
    }
