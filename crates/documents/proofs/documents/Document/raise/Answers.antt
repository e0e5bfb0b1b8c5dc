use Rattle.documents.proofs.Common.{raised}
use Rattle.documents.proofs.ChangeLaws.{some_limits}
use Rattle.documents.proofs.PartsLaws.{stand}
use Rattle.documents.proofs.TagLaws.{leaves-moved}
use Rattle.documents.proofs.documents.Document.raise.Goals as goal

pub invariant_of-self : goal.invariant_of-self
invariant_of-self g c =
    (leaves-moved some_limits c.args.position raised _ _ c.raise.result (stand c.self.invariant c.self.view_is)
    c.raise.ensures.ok c.raise.ensures.fault c.raise.ensures.err c.raise.ensures.limit c.raise.ensures.sound
    c.moved_answer.ensures).sound

pub returns : goal.returns
returns g c = λ limits.
    (leaves-moved limits c.args.position raised _ _ c.raise.result (stand c.self.invariant c.self.view_is)
    c.raise.ensures.ok c.raise.ensures.fault c.raise.ensures.err c.raise.ensures.limit c.raise.ensures.sound
    c.moved_answer.ensures).does
