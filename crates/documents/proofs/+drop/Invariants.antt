use Rattle.documents.proofs.Common.{◌+◌, ◌*◌, length}
use Rattle.documents.proofs.+drop.Given as goal

abbrev pub decreases-documents::Document::drop_with : goal.decreases-documents::Document::drop_with
decreases-documents::Document::drop_with g l = 2 * length l.others.now + 1

abbrev pub decreases-widgets::drop_widgets : goal.decreases-widgets::drop_widgets
decreases-widgets::drop_widgets g l = 2 * length l.documents.now
