use Rattle.segments.proofs.Common.{◌+◌, ◌<◌, length, sym, ap, ◌∙◌, arith, changed, LineContent, toggled_more, content}
use Rattle.segments.proofs.Common.{is_plain}
use Rattle.segments.proofs.PlainLaws.{length-plain, toggled-plain}
use Rattle.segments.proofs.form.Form.toggle.Goals as goal

pub returns-in-Plain-clause-columns : goal.returns-in-Plain-clause-columns
returns-in-Plain-clause-columns c =
    let text = c.in-Plain.field-0 in
    let same = ap content c.in-Plain.is in
    let long = ap (λ (line : LineContent). length line.columns) same in
    let within : c.args.column < length text = omega (arith, c.requires.within, long, length-plain text) in
    let none = c.requires.room (ap is_plain c.in-Plain.is) in
    ap (λ (line : LineContent). line.columns) same ∙ toggled-plain c.args.slots.now c.args.column text none within
    ∙ ap (λ (line : LineContent). changed (toggled_more c.args.slots.now) c.args.column (c.args.column + 1)
    line.columns) (sym same)
