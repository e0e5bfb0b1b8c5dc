use Rattle.line_lists.proofs.Common.{refl, PieceChange}
use Rattle.line_lists.proofs.LineChangeLaws.{taken-can, taken-new}
use Rattle.line_lists.proofs.store.change_by_taking.Goals as goal

pub returns-clause-can : goal.returns-clause-can
returns-clause-can c lines =
    let change : PieceChange = record {
      taken = c.args.numbers;
      pieces = c.new.result;
      growth = record { lines = 0; rows = 0 };
      bound = 0;
    } in
    taken-can lines change c.new.ensures.items refl

pub returns-clause-new : goal.returns-clause-new
returns-clause-new c lines =
    let change : PieceChange = record {
      taken = c.args.numbers;
      pieces = c.new.result;
      growth = record { lines = 0; rows = 0 };
      bound = 0;
    } in
    taken-new lines change c.new.ensures.items
