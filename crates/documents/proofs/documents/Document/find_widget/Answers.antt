use Rattle.documents.proofs.Common.{chars}
use Rattle.documents.proofs.FindLaws.{widget-among, widget-none, widget-some}
use Rattle.documents.proofs.PartsLaws.{stand}
use Rattle.documents.proofs.documents.Document.find_widget.Goals as goal

pub returns-clause-none : goal.returns-clause-none
returns-clause-none g c =
    widget-none (chars c.args.name.now) (stand c.self.invariant c.self.view_is) c.place.result c.place.ensures.value

pub returns-clause-some : goal.returns-clause-some
returns-clause-some g c =
    widget-some (chars c.args.name.now) (stand c.self.invariant c.self.view_is) c.place.result c.place.ensures.value

pub returns-clause-named : goal.returns-clause-named
returns-clause-named g c =
    widget-among (chars c.args.name.now) (stand c.self.invariant c.self.view_is) c.place.result c.place.ensures.value
