use Rattle.segments.proofs.Common.{◌≡◌, ◌+◌, ◌++◌, length, sym, ap, ◌∙◌, arith, length-append, joined, joined_marks}
use Rattle.segments.proofs.Common.{plain_columns, plain_line, columns_from, marks_of, ◌*◌, WORDS}
use Rattle.segments.proofs.EntryLaws.{RiseIn-wide}
use Rattle.segments.proofs.MarkLaws.{joined_none}
use Rattle.segments.proofs.PartLaws.{joined_text}
use Rattle.std.specs.FinMap as finite
use Rattle.segments.proofs.rich.RichLine.join_text.Goals as goal

pub invariant_of-self-2 : goal.invariant_of-self-2
invariant_of-self-2 c =
    let text = c.self.inside.text in
    let kept = c.self.invariant.1 in
    let longer : length text + length c.args.other.now ≡ length c.join.new.self = sym (ap length c.in_ok-join.ensures.new
    ∙ length-append text c.args.other.now) in (
      RiseIn-wide (WORDS * 0) (WORDS * length text) (WORDS * length c.join.new.self) c.self.inside.toggles.items
          c.self.invariant.0 (omega (arith, longer)),
      record { rise = kept.rise; stand = kept.stand; within = let low = kept.within in omega (arith, low, longer) },
    )

pub returns-clause-new : goal.returns-clause-new
returns-clause-new c =
    let text = c.self.inside.text in
    let entries = c.self.inside.toggles.items in
    let marks = marks_of c.self.inside.marks.items in
    let columns : columns_from 0 c.join.new.self entries
    ≡ columns_from 0 text entries ++ plain_columns c.args.other.now =
    ap (λ text. columns_from 0 text entries) c.in_ok-join.ensures.new
    ∙ joined_text text c.args.other.now entries c.self.invariant.0 in
    let same : marks ≡ joined_marks (length (columns_from 0 text entries)) marks finite.empty =
    sym (joined_none (length (columns_from 0 text entries)) marks) in
    (λ i. record { columns = columns i; marks = same i })
    ∙ ap (λ line. joined line (plain_line c.args.other.now)) c.self.view_is
