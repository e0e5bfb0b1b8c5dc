use Rattle.segments.proofs.Common.{sym, ap, ◌∙◌, LineContent, content}
use Rattle.segments.proofs.PlainLaws.{take-none}
use Rattle.std.specs.FinMap as finite
use Rattle.segments.proofs.form.Form.take_mark.Goals as goal

pub returns-in-Plain-clause-marks : goal.returns-in-Plain-clause-marks
returns-in-Plain-clause-marks c =
    let same = ap content c.in-Plain.is in
    ap (λ (line : LineContent). line.marks) same ∙ sym (take-none c.args.number.0)
    ∙ ap (λ (line : LineContent). finite.remove line.marks c.args.number.0) (sym same)
