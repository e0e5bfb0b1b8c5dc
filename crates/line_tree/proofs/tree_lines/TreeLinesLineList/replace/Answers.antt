use Rattle.line_tree.proofs.Common.{◌≡◌, ◌+◌, ap, contents, length, vec_len, subst, sym, arith, AreLines, NumbersBelow}
use Rattle.line_tree.proofs.Common.{spliced-fits}
use Rattle.line_tree.proofs.OverLaws.{fits-one, over-below, over-contents, over-table, over-there}
use Rattle.line_tree.proofs.SpendingLaws.{keeps-room}
use Rattle.line_tree.proofs.tree_lines.TreeLinesLineList.replace.Goals as goal

pub overflow_add-end : goal.overflow_add-end
overflow_add-end c =
    omega (
      arith,
      spliced-fits c.args.index c.place-start.result.start c.args.line (contents c.args.self.now.tree.lines)
          c.place-start.ensures.start c.requires.lines,
      c.len.ensures,
    )

pub write-requires : goal.write-requires
write-requires c = let list = c.args.self.now in let k = c.args.index in let p = c.place-start.result.name in
    let same : length list.names.items ≡ vec_len list.names = let ok = list.names.ok.0 in omega (arith, ok) in
    subst (λ n. NumbersBelow n c.line.result.now.marks) same
    (over-below list.names.items list.tree.lines k p c.line.result.now list.are_lines list.table
    (c.line.ensures k c.place-start.ensures.name))

pub write-requires-2 : goal.write-requires-2
write-requires-2 c = let list = c.args.self.now in
    let same : length list.names.items ≡ vec_len c.write.new.names = let ok = list.names.ok.0 in
    let len = c.write.ensures.len in omega (arith, ok, len) in
    subst (λ n. NumbersBelow n c.args.line.marks) same c.requires.numbers

pub replace_named-requires-clause-named : goal.replace_named-requires-clause-named
replace_named-requires-clause-named c = (c.args.index, c.place-start.ensures.name)

pub replace_named-requires-clause-fits : goal.replace_named-requires-clause-fits
replace_named-requires-clause-fits c = fits-one c.args.self.now.tree.lines c.args.line c.requires.counted

pub invariant_of-self : goal.invariant_of-self
invariant_of-self c = let list = c.args.self.now in let k = c.args.index in let p = c.place-start.result.name in
    let old = list.tree.lines in let now = c.replace_named.new.self.lines in let line = c.args.line in
    let was = c.line.result.now in let at = c.line.ensures k c.place-start.ensures.name in
    let is = c.replace_named.ensures.lines k c.place-start.ensures.name in
    let are = subst AreLines (sym (over-contents old now k p was line (omega (arith, c.requires.within)) at is)) c.requires.lines in
    record {
      are_lines = are;
      table = over-table old now k p was line (omega (arith, c.requires.within)) at is list.names.items c.write.new.names.items
          c.write-2.new.names.items list.are_lines are list.table c.write.ensures.table c.write-2.ensures.table;
      remembered = over-there old now k p was line (omega (arith, c.requires.within)) at is c.place-start.result.start
          (c.place-start.result.start + c.len.result) c.place-start.ensures.start
          (ap (λ n. c.place-start.result.start + n) c.len.ensures);
    }

pub returns-clause-lines : goal.returns-clause-lines
returns-clause-lines c = let list = c.args.self.now in let k = c.args.index in let p = c.place-start.result.name in
    over-contents list.tree.lines c.replace_named.new.self.lines k p c.line.result.now c.args.line (omega (arith, c.requires.within))
    (c.line.ensures k c.place-start.ensures.name) (c.replace_named.ensures.lines k c.place-start.ensures.name)

pub returns-clause-room : goal.returns-clause-room
returns-clause-room c more rows has =
    keeps-room c.args.self.now.tree c.replace_named.new.self more rows c.replace_named.ensures.keeps has
