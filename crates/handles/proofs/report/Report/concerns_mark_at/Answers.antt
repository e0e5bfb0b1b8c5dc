use Rattle.handles.proofs.Common.{◌∙◌, chars, mark_concerns}
use Rattle.handles.proofs.ReadLaws.{read-found, read-none}
use Rattle.handles.proofs.report.Report.concerns_mark_at.Goals as goal

pub returns-in-Some : goal.returns-in-Some
returns-in-Some c =
    let found = c.in-Some.ensures.lookup in
    c.mark_concerns.ensures ∙ read-found c.as_slice.result.now c.args.self.now.marks c.args.index c.in-Some.mark.now
    (λ mark. mark_concerns c.args.self.now.homes (chars c.args.name.now) mark) c.as_slice.ensures found.3.0 found.1

pub returns-in-None : goal.returns-in-None
returns-in-None c =
    read-none c.as_slice.result.now c.args.self.now.marks c.args.index
    (λ mark. mark_concerns c.args.self.now.homes (chars c.args.name.now) mark) c.as_slice.ensures
    c.in-None.ensures.lookup.3
