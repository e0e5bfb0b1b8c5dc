use Rattle.peers.proofs.Common.{refl, ap, texts_of}
use Rattle.peers.proofs.WorldLaws.{formed-left, with_all}
use Rattle.peers.proofs.world.World.destroy.Goals as goal

pub invariant_of-self-2 : goal.invariant_of-self-2
invariant_of-self-2 g c =
    formed-left c.self.inside.limits (texts_of c.args.names.now) c.self.inside.documents.list.items
    c.drop_widgets.new.self.list.items c.drop_widgets.result c.self.invariant c.drop_widgets.ensures.ok
    c.drop_widgets.ensures.err (c.drop_widgets.ensures.well_formed c.self.inside.limits c.self.invariant.documents)

pub returns-clause-makes : goal.returns-clause-makes
returns-clause-makes g c = record {
  reply = λ _. refl;
  world = λ _. rw (← c.self.view_is) (ap (with_all c.self.inside.limits) c.in_ok-drop_widgets.ensures.ok);
  refused = tt;
  well_formed = formed-left c.self.inside.limits (texts_of c.args.names.now) c.self.inside.documents.list.items
      c.drop_widgets.new.self.list.items c.drop_widgets.result c.self.invariant c.drop_widgets.ensures.ok
      c.drop_widgets.ensures.err
      (c.drop_widgets.ensures.well_formed c.self.inside.limits c.self.invariant.documents);
}
