use Rattle.segments.proofs.Common.{◌≤◌, false, length, sym, ap, ◌∙◌, arith, changed, LineContent, with_toggle, content}
use Rattle.segments.proofs.PlainLaws.{length-plain, cleared-plain}
use Rattle.segments.proofs.form.Form.clear.Goals as goal

pub returns-in-Plain-clause-columns : goal.returns-in-Plain-clause-columns
returns-in-Plain-clause-columns c =
    let text = c.in-Plain.field-0 in
    let same = ap content c.in-Plain.is in
    let long = ap (λ (line : LineContent). length line.columns) same in
    let within : c.args.to ≤ length text = omega (arith, c.requires.within, long, length-plain text) in
    ap (λ (line : LineContent). line.columns) same
    ∙ cleared-plain c.args.slot.0 c.args.from c.args.to text c.requires.ordered within
    ∙ ap (λ (line : LineContent). changed (with_toggle c.args.slot.0 false) c.args.from c.args.to line.columns)
    (sym same)
