use Rattle.peers.proofs.Common.{◌∙◌, chars}
use Rattle.peers.proofs.HomeLaws.{find-among}
use Rattle.peers.proofs.world.World.has_widget.Goals as goal

pub returns-clause-value : goal.returns-clause-value
returns-clause-value g c = rw (← c.self.view_is) (
    c.is_some.ensures ∙ find-among (chars c.args.name.now) c.self.inside.documents.list.items c.find.result
    c.find.ensures.none c.find.ensures.some)
