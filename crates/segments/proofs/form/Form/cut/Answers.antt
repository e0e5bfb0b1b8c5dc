use Rattle.segments.proofs.Common.{sym, ap, ◌∙◌, line_before, line_behind, plain_line, content}
use Rattle.segments.proofs.PlainLaws.{before-plain, behind-plain}
use Rattle.segments.proofs.form.Form.cut.Goals as goal

pub returns-in_ok-cut-in-Plain-clause-head : goal.returns-in_ok-cut-in-Plain-clause-head
returns-in_ok-cut-in-Plain-clause-head c = ap plain_line c.in_ok-cut-in-Plain.ensures.head
    ∙ before-plain c.args.column c.in-Plain.text ∙ ap (line_before c.args.column) (sym (ap content c.in-Plain.is))

pub returns-in_ok-cut-in-Plain-clause-tail : goal.returns-in_ok-cut-in-Plain-clause-tail
returns-in_ok-cut-in-Plain-clause-tail c = ap plain_line c.in_ok-cut-in-Plain.ensures.tail
    ∙ behind-plain c.args.column c.in-Plain.text ∙ ap (line_behind c.args.column) (sym (ap content c.in-Plain.is))
