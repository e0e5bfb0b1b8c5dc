use Rattle.peers.proofs.Common.{sym, subst, IfOk, IfOk-weaker, texts_of, World, TellsDropped}
use Rattle.peers.proofs.DroppedLaws.{dropped-all}
use Rattle.peers.proofs.world.World.marks_dropped.Goals as goal

pub returns-then-marks-clause-told : goal.returns-then-marks-clause-told
returns-then-marks-clause-told g c = λ _.
    let names = texts_of c.args.names.now in
    let documents = c.self.inside.documents.list.items in
    subst (λ (w : World). IfOk c.list_dropped.result (λ marks. TellsDropped names w.documents marks)) c.self.view_is
    (IfOk-weaker c.list_dropped.result _ _ (λ marks is. subst (TellsDropped names documents) (sym is)
    (dropped-all c.self.inside.limits names documents c.self.invariant.documents)) c.list_dropped.ensures)
