use Rattle.search_dump.proofs.Common.{outlook, refl, sym, option_map, shown_of, usable_by}
use Rattle.search_dump.proofs.MarkOrderLaws.{mark-behind, usable-rising}
use Rattle.search_dump.proofs.dumped_marks.Marked.next.Goals as goal

pub returns : goal.returns
returns g c =
    let view = c.args.sight.now.view.now in
    mark-behind (usable_by (outlook c.args.sight.now)) c.args.self.mark
    (shown_of view.start c.args.self) (option_map (shown_of view.start) c.next_mark.result)
    (usable-rising (outlook c.args.sight.now)) c.requires.usable refl
    (sym c.next_mark.ensures)
