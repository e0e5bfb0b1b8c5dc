use Rattle.edit_ops.proofs.Common.{◌^◌, arith}
use Rattle.edit_ops.proofs.DeltaLaws.{counted}
use Rattle.edit_ops.proofs.RunLaws.{apart-wider}
use Rattle.edit_ops.proofs.deletions.run_before.Goals as goal

pub count_in-requires : goal.count_in-requires
count_in-requires g c = apart-wider c.args.end (2 ^ 64) c.args.runs.now c.requires.apart (omega (arith, c.ranges.end.fits))

pub overflow_sub-from : goal.overflow_sub-from
overflow_sub-from g c =
    let below = counted c.args.end c.args.runs.now c.requires.some c.requires.apart in
    omega (arith, below, c.count_in.ensures)

pub returns-clause-start : goal.returns-clause-start
returns-clause-start g c =
    let below = counted c.args.end c.args.runs.now c.requires.some c.requires.apart in
    omega (arith, below, c.count_in.ensures)
