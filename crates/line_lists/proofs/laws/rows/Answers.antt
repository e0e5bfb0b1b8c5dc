use Rattle.line_lists.proofs.WholeLaws.{whole-between}
use Rattle.line_lists.proofs.laws.rows.Goals as goal

pub returns : goal.returns
returns c = whole-between
