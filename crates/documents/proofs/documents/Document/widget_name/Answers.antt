use Rattle.documents.proofs.Common.{chars}
use Rattle.documents.proofs.PartsLaws.{stand}
use Rattle.documents.proofs.WidgetLaws.{own-name}
use Rattle.documents.proofs.documents.Document.widget_name.Goals as goal

pub returns : goal.returns
returns g c =
    own-name c.args.seat (chars c.name.result.now) (stand c.self.invariant c.self.view_is) c.name.ensures
