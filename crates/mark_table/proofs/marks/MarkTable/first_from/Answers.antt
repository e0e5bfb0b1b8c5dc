use Rattle.mark_table.proofs.Common.{numbers_of}
use Rattle.mark_table.proofs.RankLaws.{IsFirst-usable}
use Rattle.mark_table.proofs.marks.MarkTable.first_from.Goals as goal

pub returns : goal.returns
returns g c =
    rw (c.first_of-2.ensures, c.first_of.ensures)
    (IsFirst-usable c.args.view (g.S.TextStore.content c.args.store.now).marks (numbers_of c.args.self.now.marks)
    c.args.bound c.own_mark.result c.own_mark-2.result c.from_bound-insert.result c.from_bound-current.result
    c.next_shared-shared.result
    c.own_mark.ensures c.own_mark-2.ensures c.from_bound-insert.ensures c.from_bound-current.ensures
    c.next_shared-shared.ensures)
