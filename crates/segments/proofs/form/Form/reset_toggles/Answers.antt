use Rattle.segments.proofs.Common.{◌≤◌, false, length, sym, ap, ap₂, ◌∙◌, arith, LineContent, content, is_plain, reset}
use Rattle.segments.proofs.PlainLaws.{length-plain, cleared-plain}
use Rattle.segments.proofs.form.Form.reset_toggles.Goals as goal

pub returns-in-Plain-clause-columns : goal.returns-in-Plain-clause-columns
returns-in-Plain-clause-columns c =
    let text = c.in-Plain.field-0 in
    let same = ap content c.in-Plain.is in
    let long = ap (λ (line : LineContent). length line.columns) same in
    let plain = ap is_plain c.in-Plain.is in
    let within : c.args.to ≤ length text = omega (arith, c.requires.within, long, length-plain text) in
    let slot = c.args.slot.0 in
    let columns = (content c.args.self.now).columns in
    ap (λ (line : LineContent). line.columns) same
    ∙ cleared-plain slot c.args.from c.args.to text c.requires.ordered within
    ∙ ap (reset slot c.args.from c.args.to false false) (sym (ap (λ (line : LineContent). line.columns) same))
    ∙ ap₂ (λ first last. reset slot c.args.from c.args.to first last columns) (sym (c.requires.first plain))
    (sym (c.requires.last plain))
