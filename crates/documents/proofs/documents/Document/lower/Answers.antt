use Rattle.documents.proofs.Common.{lowered}
use Rattle.documents.proofs.ChangeLaws.{some_limits}
use Rattle.documents.proofs.PartsLaws.{stand}
use Rattle.documents.proofs.TagLaws.{leaves-moved}
use Rattle.documents.proofs.documents.Document.lower.Goals as goal

pub invariant_of-self : goal.invariant_of-self
invariant_of-self g c =
    (leaves-moved some_limits c.args.position lowered _ _ c.lower.result (stand c.self.invariant c.self.view_is)
    c.lower.ensures.ok c.lower.ensures.fault c.lower.ensures.err c.lower.ensures.limit c.lower.ensures.sound
    c.moved_answer.ensures).sound

pub returns : goal.returns
returns g c = λ limits.
    (leaves-moved limits c.args.position lowered _ _ c.lower.result (stand c.self.invariant c.self.view_is)
    c.lower.ensures.ok c.lower.ensures.fault c.lower.ensures.err c.lower.ensures.limit c.lower.ensures.sound
    c.moved_answer.ensures).does
