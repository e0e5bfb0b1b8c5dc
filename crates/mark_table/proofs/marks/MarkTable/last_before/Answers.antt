use Rattle.mark_table.proofs.Common.{numbers_of}
use Rattle.mark_table.proofs.RankLaws.{IsLast-usable}
use Rattle.mark_table.proofs.marks.MarkTable.last_before.Goals as goal

pub returns : goal.returns
returns g c =
    rw (c.last_of-2.ensures, c.last_of.ensures)
    (IsLast-usable c.args.view (g.S.TextStore.content c.args.store.now).marks (numbers_of c.args.self.now.marks)
    c.args.bound c.own_mark.result c.own_mark-2.result c.before_bound-insert.result c.before_bound-current.result
    c.previous_shared-shared.result
    c.own_mark.ensures c.own_mark-2.ensures c.before_bound-insert.ensures c.before_bound-current.ensures
    c.previous_shared-shared.ensures)
