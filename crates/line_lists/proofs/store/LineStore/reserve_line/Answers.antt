use Rattle.line_lists.proofs.Common.{subst, sym, CanChange}
use Rattle.line_lists.proofs.StoreLaws.{below-line, on-both}
use Rattle.line_lists.proofs.store.LineStore.reserve_line.Goals as goal

pub returns-clause-ready : goal.returns-clause-ready
returns-clause-ready g c =
    let change = c.args.change.now in
    let list = c.reserve.new.self.list in
    on-both c.reserve.result (λ room numbers. record {
      can = subst (λ lines. CanChange lines change) (sym c.reserve.ensures.same) c.requires;
      below = below-line c.bound_with.result (g.L.LineList.mark_room list) numbers change.line
          c.bound_with.ensures.above;
    }) c.reserve.ensures.room c.reserve.ensures.numbers
