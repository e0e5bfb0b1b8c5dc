use Rattle.line_lists.proofs.Common.{length, map, subst, sym, ap, ◌∙◌, arith, length-map, without_mark, AreLines}
use Rattle.line_lists.proofs.VecLaws.{lines-are-without, written-over}
use Rattle.line_lists.proofs.line_vec.LineVecLineList.take_mark.Goals as goal

pub invariant_of-self : goal.invariant_of-self
invariant_of-self c =
    let list = c.args.self.now in
    let without = without_mark c.args.number.0 in
    let made = c.take_marks.ensures ∙ ap (map without) c.deref_mut.ensures.value in
    let long = ap length made ∙ length-map list.lines.items without in
    let over = written-over list.lines.len c.take_marks.new.lines list.lines.items
    (omega (arith, long, list.lines.ok.0)) in
    record {
      are_lines = subst AreLines (sym (over ∙ made))
          (lines-are-without c.args.number.0 list.lines.items list.are_lines);
    }
