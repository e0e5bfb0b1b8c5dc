use Rattle.segments.proofs.Common.{sym, ap, ◌∙◌, chars, on_ok_weaker, after_text, plain_line, content}
use Rattle.segments.proofs.PlainLaws.{inserted-plain}
use Rattle.segments.proofs.form.Form.insert_text.Goals as goal

pub returns-in-Plain-clause-new : goal.returns-in-Plain-clause-new
returns-in-Plain-clause-new c =
    let new = chars c.args.text.now in
    on_ok_weaker c.insert.result (λ is. ap plain_line is ∙ inserted-plain c.args.column new c.in-Plain.characters
    ∙ ap (after_text c.args.column new) (sym (ap content c.in-Plain.is))) c.insert.ensures.new
