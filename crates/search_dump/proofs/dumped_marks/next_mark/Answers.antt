use Rattle.search_dump.proofs.Common.{outlook, sym, ◌∙◌, none-some}
use Rattle.search_dump.proofs.MarkOrderLaws.{mark-is, mark-of}
use Rattle.search_dump.proofs.dumped_marks.next_mark.Goals as goal

pub returns-in_err-place : goal.returns-in_err-place
returns-in_err-place g c =
    let view = c.args.sight.now.view.now in
    let of = mark-of (outlook c.args.sight.now)
    c.args.origin c.in_ok-mark.mark view.whole_lines.ordered c.in_ok-mark.ensures in
    absurd (none-some _ (sym c.in_err-place.was ∙ c.place_of.ensures ∙ of.place))

pub returns : goal.returns
returns g c =
    let view = c.args.sight.now.view.now in
    let of = mark-of (outlook c.args.sight.now)
    c.args.origin c.in_ok-mark.mark view.whole_lines.ordered c.in_ok-mark.ensures in
    mark-is (outlook c.args.sight.now) c.args.origin
    c.in_ok-mark.mark c.in_ok-place.place of c.in_ok-place.ensures
