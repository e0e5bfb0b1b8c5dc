use Rattle.handles.proofs.Common.{Bool, [], ap, sym, if◌then◌else◌}
use Rattle.std.specs.Str.{chars}
use Rattle.handles.proofs.report.tag_widget.Goals as goal

pub returns-else-change : goal.returns-else-change
unfolding chars
returns-else-change c = ap (λ (b : Bool). if b then c.args.change.now.key.name else []) (sym c.if-change.false)
