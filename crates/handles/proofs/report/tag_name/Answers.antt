use Rattle.handles.proofs.Common.{Bool, ap, sym, if◌then◌else◌}
use Rattle.std.specs.Str.{chars}
use Rattle.documents.specs.Documents.{sel}
use Rattle.handles.proofs.report.tag_name.Goals as goal

pub returns-then-change : goal.returns-then-change
unfolding chars
returns-then-change c = ap (λ (b : Bool). if b then sel else c.args.change.now.key.name) (sym c.if-change.true)
