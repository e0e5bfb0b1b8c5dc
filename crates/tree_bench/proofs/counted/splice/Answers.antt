use Rattle.std.proofs.Common.{◌≡◌, ◌+◌, ◌-◌, arith, length, min, subst}
use Rattle.toggle_sums.specs.Counts.{plus}
use Rattle.line_lists.specs.Lists.{count_of, more_lines, row_of}
use Rattle.line_tree.specs.Changes.{FitsSum}
use Rattle.line_tree.specs.Room.{HasRoom}
use Rattle.line_tree.specs.Trees.{total}
use Rattle.tree_bench.proofs.CountLaws.{spliced}
use Rattle.tree_bench.proofs.counted.splice.Goals as goal

pub overflow_add-counted : goal.overflow_add-counted
overflow_add-counted c =
    let old = c.args.counted.now in
    let lines = c.args.lines in
    let long : c.len-2.result ≡ length lines.items = omega (arith, c.len-2.ensures, lines.ok.0) in
    let fits = subst (λ ls. FitsSum (plus (total old.tree.lines) (count_of ls))) c.deref.ensures.value
    (c.can_splice.ensures.fits c.if-not-can_splice.false) in
    let few = spliced old.tree.lines lines.items old.count c.args.gone c.len-2.result old.same long fits in
    omega (arith, few)

pub splice-requires-clause-room : goal.splice-requires-clause-room
splice-requires-clause-room c =
    let tree = c.reserve_for_rows.new.self in
    let more : c.saturating_sub-more.result ≡ more_lines c.args.gone c.args.lines.items + 0 = omega arith in
    let rows : c.min.result ≡ row_of c.args.gone c.args.lines.items + 0 = omega arith in (
      0,
      0,
      subst (λ n. HasRoom tree n (row_of c.args.gone c.args.lines.items + 0)) more
          (subst (HasRoom tree c.saturating_sub-more.result) rows c.in_ok-reserve_for_rows.ensures.room),
    )
