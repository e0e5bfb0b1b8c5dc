use Rattle.documents.proofs.Common.{arith, next-shifted}
use Rattle.documents.proofs.MarkOrderLaws.{answer-found}
use Rattle.documents.proofs.PartsLaws.{anchors-there, stand}
use Rattle.mark_table.specs.Order as order
use Rattle.documents.proofs.documents.Document.next_mark.Goals as goal

pub mark_view_of-view-requires : goal.mark_view_of-view-requires
mark_view_of-view-requires g c =
    anchors-there c.args.seat (stand c.self.invariant c.self.view_is) c.number.ensures.value c.deref.ensures.value

pub returns : goal.returns
returns g c =
    answer-found c.args.seat 18446744073709551615 c.args.origin order.next_mark next-shifted
    (stand c.self.invariant c.self.view_is) c.number.ensures.value c.deref.ensures.value c.len.ensures
    c.mark_view_of-view.ensures c.origin_in.ensures (omega arith) c.next.ensures
