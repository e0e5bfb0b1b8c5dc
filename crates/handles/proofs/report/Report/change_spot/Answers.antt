use Rattle.handles.proofs.Common.{◌∙◌, spot_in}
use Rattle.handles.proofs.ReadLaws.{read-found, read-none}
use Rattle.handles.proofs.report.Report.change_spot.Goals as goal

pub returns-in-Some : goal.returns-in-Some
returns-in-Some c =
    let found = c.in-Some.ensures.lookup in
    c.spot_of.ensures ∙ read-found c.as_slice.result.now c.args.self.now.edit.changes c.args.index c.in-Some.change.now
    (λ change. spot_in change c.args.end) c.as_slice.ensures found.3.0 found.1

pub returns-in-None : goal.returns-in-None
returns-in-None c =
    read-none c.as_slice.result.now c.args.self.now.edit.changes c.args.index (λ change. spot_in change c.args.end)
    c.as_slice.ensures c.in-None.ensures.lookup.3
