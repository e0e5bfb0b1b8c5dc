use Rattle.segments.proofs.Common.{sym, ap, ap₂, ◌∙◌, on_ok_weaker, joined, plain_line, content}
use Rattle.segments.proofs.PlainLaws.{joined-plain}
use Rattle.segments.proofs.form.Form.join_copy.Goals as goal

pub returns-in-Plain-self-clause-new : goal.returns-in-Plain-self-clause-new
returns-in-Plain-self-clause-new c =
    on_ok_weaker c.join.result (λ new. ap plain_line new ∙ joined-plain c.in-Plain-self.front c.in-Plain.text
    ∙ sym (ap₂ joined (ap content c.in-Plain-self.is) (ap content c.in-Plain.is))) c.join.ensures.new
