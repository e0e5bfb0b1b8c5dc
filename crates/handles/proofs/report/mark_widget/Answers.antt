use Rattle.handles.proofs.Common.{ap, sym, widget_by}
use Rattle.std.specs.Str.{chars}
use Rattle.documents.specs.declared.mark_lists.MarkKind.{MarkKind}
use Rattle.handles.proofs.report.mark_widget.Goals as goal

pub returns-in-Shared : goal.returns-in-Shared
unfolding chars
returns-in-Shared c = ap (λ (kind : MarkKind). widget_by kind c.args.mark.now.key.name) (sym c.in-Shared.is)
