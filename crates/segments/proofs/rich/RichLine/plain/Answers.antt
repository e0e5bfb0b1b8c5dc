use Rattle.segments.proofs.Common.{◌≡◌, ap, ◌∙◌, columns_from, marks_of}
use Rattle.segments.proofs.ColumnLaws.{columns-plain}
use Rattle.segments.proofs.MarkLaws.{marks_of-nil}
use Rattle.std.specs.FinMap as finite
use Rattle.segments.proofs.rich.RichLine.plain.Goals as goal

pub returns : goal.returns
returns c =
    let columns = ap (λ entries. columns_from 0 c.args.text entries) c.new.ensures.items
    ∙ columns-plain 0 c.args.text in
    let marks : marks_of c.new-2.result.items ≡ finite.empty = ap marks_of c.new-2.ensures.items ∙ marks_of-nil in
    λ i. record { columns = columns i; marks = marks i }
