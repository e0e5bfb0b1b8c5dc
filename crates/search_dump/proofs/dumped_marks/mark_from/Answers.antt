use Rattle.search_dump.proofs.Common.{outlook, ◌+◌, sym, option_map, shown_of, usable_by}
use Rattle.search_dump.proofs.MarkOrderLaws.{mark-from}
use Rattle.search_dump.proofs.dumped_marks.mark_from.Goals as goal

pub returns : goal.returns
returns g c =
    let view = c.args.sight.now.view.now in
    mark-from (usable_by (outlook c.args.sight.now))
    (view.start + c.args.place) (option_map (shown_of view.start) c.next_mark.result) (sym c.next_mark.ensures)
