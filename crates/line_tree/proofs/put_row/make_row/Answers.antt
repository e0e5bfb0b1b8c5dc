use Rattle.line_tree.proofs.Common.{[], ◌∷◌, length, reverse, sym, ap, ◌∙◌, subst, arith, length_push, contents}
use Rattle.line_tree.proofs.Common.{records, lines_of, Becomes, trees_at}
use Rattle.line_tree.proofs.NewRowLaws.{last-left, reversed, row-lines, row-more}
use Rattle.line_tree.proofs.RoomLaws.{len-line}
use Rattle.line_tree.proofs.put_row.make_row.Goals as goal

pub loop-lines-preserved-in-Some : goal.loop-lines-preserved-in-Some
loop-lines-preserved-in-Some g c =
    let now = c.loop-lines.invariant in let x = c.new_line.result in let line = c.in-Some.line in
    let m = records c.args.store.now in let l = records c.loop-lines.store in let n = records c.new_line.new.store in
    let ys = reverse c.loop-lines.row.items in
    let turned = ap reverse c.push_reserved.ensures.items ∙ reversed c.loop-lines.row.items x in
    let parts = last-left c.args.lines.now.items c.loop-lines.lines.items c.pop.new.self.items line now.left
    c.in-Some.ensures.items in
    let long = ap length c.in-Some.ensures.items ∙ length_push c.pop.new.self.items line in
    let longer = ap length c.push_reserved.ensures.items ∙ length_push c.loop-lines.row.items x in
    let test = c.loop-lines-test.true in let len = c.len.ensures in let within = now.within in let count = now.count in
    let spares_were = now.spares in let spares_are = c.new_line.ensures.spares in
    let records_are = len-line l n x line c.new_line.ensures.line in let nodes_were = now.nodes in
    record {
      rest = omega (arith, long, test, len);
      within = omega (arith, long, within);
      left = parts.0;
      row = subst (λ zs. Becomes m n [] 0 (trees_at n 0 zs)) (sym turned)
          (row-more m l n ys x line now.row c.new_line.ensures.line);
      lines = ap (λ zs. contents (lines_of 0 (trees_at n 0 zs))) turned
          ∙ row-lines m l n ys x line now.row c.new_line.ensures.line ∙ ap (λ ls. line ∷ ls) now.lines ∙ sym parts.1;
      count = omega (arith, long, longer, count);
      spares = omega (arith, longer, spares_were, spares_are);
      rooms = c.new_line.ensures.rooms ∙ now.rooms;
      nodes = omega (arith, records_are, spares_are, nodes_were);
      names = c.push_reserved.ensures.capacity ∙ now.names;
    }
