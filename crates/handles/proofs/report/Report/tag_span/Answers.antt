use Rattle.handles.proofs.Common.{span_in}
use Rattle.handles.proofs.ReadLaws.{read-found, read-none}
use Rattle.handles.proofs.report.Report.tag_span.Goals as goal

pub returns-in-Some : goal.returns-in-Some
returns-in-Some c =
    let found = c.in-Some.ensures.lookup in
    read-found c.as_slice.result.now c.args.self.now.edit.tags c.args.index c.in-Some.change.now span_in
    c.as_slice.ensures found.3.0 found.1

pub returns-in-None : goal.returns-in-None
returns-in-None c =
    read-none c.as_slice.result.now c.args.self.now.edit.tags c.args.index span_in c.as_slice.ensures
    c.in-None.ensures.lookup.3
