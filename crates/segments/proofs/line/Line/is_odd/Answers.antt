use Rattle.segments.proofs.Common.{sym, ap, ◌∙◌, nat_cmp, Count, line_count, content}
use Rattle.segments.proofs.PlainLaws.{sum-plain}
use Rattle.std.specs.FinSet as set
use Rattle.segments.proofs.line.Line.is_odd.Goals as goal

pub returns-in-Plain : goal.returns-in-Plain
returns-in-Plain c =
    let slot = c.args.slot.0 in
    let has = λ (count : Count). set.contains count.parity slot in
    sym (set.contains-empty nat_cmp slot) ∙ ap has (sym (sum-plain c.in-Plain.field-0))
    ∙ ap (λ line. has (line_count line)) (ap content (sym c.in-Plain.is) ∙ c.self.view_is)
