use Rattle.line_lists.proofs.Common.{subst, sym, ap, ◌∙◌, arith, text_in, AreRows, whole}
use Rattle.line_lists.proofs.ClearingLaws.{clears-on}
use Rattle.line_lists.proofs.drafts.Draft.clear.Goals as goal

pub loop-at-preserved : goal.loop-at-preserved
loop-at-preserved g c =
    let first = text_in g.L.LineList.lines c.args.self.now in
    let old = text_in g.L.LineList.lines c.loop-at.self
    in
    let lines = g.L.LineList.lines c.clear_line.new.self.list.now in
    let front = c.clear_line.new.self.front.items in
    let back = c.clear_line.new.self.back.items in
    let new = text_in g.L.LineList.lines c.next_toggled.new.self in
    let so_far = c.loop-at.invariant in
    let here = c.in_ok-clear_line.ensures in
    let next = c.in_ok-at.ensures in (
      next.list ∙ here.list ∙ so_far.0,
      record { draft = next.is; rows = subst AreRows (sym next.same) here.is.rows },
      omega (arith, next.value, here.above, so_far.2, c.loop-at-test.true),
      omega (arith, next.value),
      clears-on c.args.slot.0 c.args.from c.loop-at.at c.args.to c.in_ok-at.at lines front back first old new so_far.2
          c.loop-at-test.true c.requires.within so_far.4 here.above here.new next.value (ap whole next.same),
    )
