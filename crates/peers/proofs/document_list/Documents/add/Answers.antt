use Rattle.peers.proofs.Common.{sym, subst, AllByRecursion, IsWellFormedDocument}
use Rattle.peers.proofs.WorldLaws.{all-added}
use Rattle.peers.proofs.document_list.Documents.add.Goals as goal

pub returns-clause-well_formed : goal.returns-clause-well_formed
returns-clause-well_formed g c = λ limits bounds all.
    subst (AllByRecursion (IsWellFormedDocument limits)) (sym c.in_ok-push.ensures.items)
    (all-added (IsWellFormedDocument limits) c.args.self.now.list.items c.in_ok-new.field-0 all
    (c.in_ok-new.ensures.well_formed limits bounds))
