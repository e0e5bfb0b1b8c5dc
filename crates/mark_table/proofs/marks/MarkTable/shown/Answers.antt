use Rattle.mark_table.proofs.Common.{ap, sym, ◌∙◌, shown_mark, usable, numbers_of}
use Rattle.mark_table.proofs.RankLaws.{shown_insert, shown_current, shown_shared}
use Rattle.mark_table.proofs.marks.MarkTable.shown.Goals as goal

pub returns-in-Insert-clause-mark : goal.returns-in-Insert-clause-mark
returns-in-Insert-clause-mark g c =
    let marks = (g.S.TextStore.content c.args.store.now).marks in
    let numbers = numbers_of c.args.self.now.marks in
    shown_insert c.args.view marks numbers c.own_mark.result c.own_mark.ensures
    ∙ ap (λ m. shown_mark m (usable c.args.view marks numbers)) (sym c.in-Insert.is)

pub returns-in-Current-clause-mark : goal.returns-in-Current-clause-mark
returns-in-Current-clause-mark g c =
    let marks = (g.S.TextStore.content c.args.store.now).marks in
    let numbers = numbers_of c.args.self.now.marks in
    shown_current c.args.view marks numbers c.own_mark-in-Current.result c.own_mark-in-Current.ensures
    ∙ ap (λ m. shown_mark m (usable c.args.view marks numbers)) (sym c.in-Current.is)

pub returns-in-Shared-clause-mark : goal.returns-in-Shared-clause-mark
returns-in-Shared-clause-mark g c =
    let marks = (g.S.TextStore.content c.args.store.now).marks in
    let numbers = numbers_of c.args.self.now.marks in
    shown_shared c.args.view marks numbers c.in-Shared.place c.shared_mark.result c.shared_mark.ensures.mark
    ∙ ap (λ m. shown_mark m (usable c.args.view marks numbers)) (sym c.in-Shared.is)
