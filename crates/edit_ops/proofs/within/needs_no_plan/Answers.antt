use Rattle.edit_ops.proofs.Common.{arith, leb-true, eqb-false, sym, ◌∙◌, length}
use Rattle.edit_ops.proofs.WithinLaws.{few-chars, some-chars}
use Rattle.edit_ops.proofs.within.needs_no_plan.Goals as goal

pub returns-clause-some : goal.returns-clause-some
returns-clause-some c = λ _.
    let none = eqb-false (length c.args.piece.now) 0 (sym c.is_empty.ensures ∙ c.if-is_empty.false) in
    some-chars c.args.piece.now c.utf8.piece (omega (arith, none))

pub returns-clause-fits : goal.returns-clause-fits
returns-clause-fits c = λ test.
    let short = leb-true c.saturating_add.result c.chars.result test in
    let few = few-chars c.args.piece.now c.utf8.piece in
    omega (arith, short, few, c.saturating_add.ensures, c.chars.ensures.value, c.chars.ensures.bounds)
