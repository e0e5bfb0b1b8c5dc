use Rattle.segments.proofs.Common.{sym, ap, ◌∙◌, on_ok_weaker, after_removal, plain_line, content}
use Rattle.segments.proofs.PlainLaws.{removed-plain}
use Rattle.segments.proofs.form.Form.remove_range.Goals as goal

pub returns-in-Plain-clause-new : goal.returns-in-Plain-clause-new
returns-in-Plain-clause-new c =
    on_ok_weaker c.remove.result (λ is. ap plain_line is ∙ removed-plain c.args.from c.args.to c.in-Plain.text
    ∙ ap (after_removal c.args.from c.args.to) (sym (ap content c.in-Plain.is))) c.remove.ensures.new
