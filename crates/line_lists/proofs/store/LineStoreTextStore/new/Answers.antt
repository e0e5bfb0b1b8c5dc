use Rattle.line_lists.proofs.StoreLaws.{new-text}
use Rattle.line_lists.proofs.store.LineStoreTextStore.new.Goals as goal

pub returns : goal.returns
returns g c = new-text (g.L.LineList.lines c.in_ok-new.field-0) c.in_ok-new.ensures
