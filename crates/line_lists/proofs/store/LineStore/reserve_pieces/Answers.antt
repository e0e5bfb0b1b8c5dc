use Rattle.line_lists.proofs.Common.{◌<◌, subst, subst₂, sym, CanPlace, freed, named, numbers_in, piece_lines}
use Rattle.line_lists.proofs.StoreLaws.{all-names, below-lines, on-both}
use Rattle.line_lists.proofs.store.LineStore.reserve_pieces.Goals as goal

pub returns-clause-ready : goal.returns-clause-ready
returns-clause-ready g c =
    let change = c.args.change.now in
    let pieces = change.pieces.items in
    let list = c.reserve.new.self.list in
    let made = c.requires in
    on-both c.reserve.result (λ room numbers. record {
      can = subst (λ lines. CanPlace pieces (freed (named change.taken.items) lines)) (sym c.reserve.ensures.same)
          made.can;
      room = subst₂ (g.L.LineList.has_room list) made.lines made.rows room;
      below = below-lines change.bound (g.L.LineList.mark_room list) numbers (piece_lines pieces)
          (all-names (λ n. n < change.bound) (numbers_in (piece_lines pieces)) made.below);
    }) c.reserve.ensures.room c.reserve.ensures.numbers
