use Rattle.line_tree.proofs.Common.{◌≡◌, ◌+◌, ◌≤◌, ap, sym, ◌∙◌, subst, arith, contents, length, same_Some, slice_get}
use Rattle.line_tree.proofs.Common.{slice_get_within, Some, AreLines, LineContent, Named, with_mark, moved_to}
use Rattle.std.proofs.Common.{option_map}
use Rattle.line_tree.proofs.MovingLaws.{moved-at, moved-contents, moved-table, moved-there}
use Rattle.line_tree.proofs.OverLaws.{fits-one, named-listed, placed-fits}
use Rattle.line_tree.proofs.tree_lines.TreeLinesLineList.move_mark.Goals.{After-len, In_ok-move_mark}
use Rattle.line_tree.proofs.tree_lines.TreeLinesLineList.move_mark.Goals as goal

pub move_mark-requires-clause-can : goal.move_mark-requires-clause-can
move_mark-requires-clause-can c =
    let ls = c.args.self.now.tree.lines in
    let line = c.requires.line in
    record {
      at = c.args.index;
      line = line;
      is = named-listed ls c.args.index c.place-start.result.name line c.place-start.ensures.name c.requires.is;
      fits = c.requires.fits;
      counted = fits-one ls (with_mark c.args.number.0 c.args.place line) c.requires.counted;
    }

-- the line with its name, and what is made of the lines
there : (c : In_ok-move_mark) →
    slice_get c.args.self.now.tree.lines c.args.index ≡ Some (c.place-start.result.name, c.requires.line)
there c =
    named-listed c.args.self.now.tree.lines c.args.index c.place-start.result.name c.requires.line
    c.place-start.ensures.name c.requires.is

within : (c : In_ok-move_mark) → c.args.index + 1 ≤ length (contents c.args.self.now.tree.lines)
within c =
    let inside = slice_get_within (contents c.args.self.now.tree.lines) c.args.index c.requires.line c.requires.is in
    omega (arith, inside)

made : (c : In_ok-move_mark) → c.move_mark.new.tree.lines
    ≡ moved_to c.args.number.0 c.args.index c.args.place c.requires.line c.args.self.now.tree.lines
made c = c.in_ok-move_mark.ensures.made c.args.index c.requires.line (there c)

here : (c : In_ok-move_mark) → slice_get c.move_mark.new.tree.lines c.args.index
    ≡ Some (c.place-start.result.name, with_mark c.args.number.0 c.args.place c.requires.line)
here c =
    moved-at c.args.number.0 c.args.index c.args.place c.place-start.result.name c.requires.line
    c.args.self.now.tree.lines c.move_mark.new.tree.lines (there c) (within c) (made c)

pub line-requires : goal.line-requires
line-requires c =
    (c.args.index, ap (option_map (λ (l : Named). l.0)) (here (goal.at.line-requires c).In_ok-move_mark))

-- a mark makes it no longer
long : (c : After-len) → slice_get c.move_mark.new.tree.lines c.args.index
    ≡ Some (c.place-start.result.name, with_mark c.args.number.0 c.args.place c.requires.line) →
    c.len.result ≡ length c.requires.line.columns
long c found =
    let name = c.place-start.result.name in
    let new = with_mark c.args.number.0 c.args.place c.requires.line in
    let is : c.line.result.now ≡ new = ap (λ (l : Named). l.1) (same_Some (name, c.line.result.now) (name, new)
    (sym (c.line.ensures c.args.index (ap (option_map (λ (l : Named). l.0)) found)) ∙ found)) in
    c.len.ensures ∙ ap (λ (line : LineContent). length line.columns) is

pub overflow_add-end : goal.overflow_add-end
overflow_add-end c =
    let at = goal.at.overflow_add-end c in
    omega (
      arith,
      placed-fits c.args.self.now.tree.lines c.args.index c.place-start.result.start c.place-start.result.name
          c.requires.line c.args.self.now.are_lines c.place-start.ensures.start (there at.In_ok-move_mark),
      long at.After-len (here at.In_ok-move_mark),
    )

pub invariant_of-self-2 : goal.invariant_of-self-2
invariant_of-self-2 c =
    let at = goal.at.invariant_of-self-2 c in
    let list = c.args.self.now in
    let ls = list.tree.lines in
    let n = c.args.number.0 in
    let k = c.args.index in
    let name = c.place-start.result.name in
    let line = c.requires.line in
    let now = c.move_mark.new.tree.lines in
    let is = there at.In_ok-move_mark in
    let inside = within at.In_ok-move_mark in
    let all = made at.In_ok-move_mark in
    record {
      are_lines = subst AreLines (sym (moved-contents n k c.args.place name line ls now is inside all)) c.requires.are;
      table = moved-table n k c.args.place name line ls now is inside all list.names.items c.grow.new.names.items
          list.table (omega (arith, c.in_ok-grow.ensures.numbers)) c.grow.ensures.same;
      remembered = moved-there n k c.args.place name line ls now is inside all c.place-start.result.start
          (c.place-start.result.start + c.len.result) c.place-start.ensures.start
          (ap (λ m. c.place-start.result.start + m) (long at.After-len (here at.In_ok-move_mark)));
    }

pub returns-clause-made : goal.returns-clause-made
returns-clause-made c = λ line is.
    let at = (goal.at.returns-clause-made c).In_ok-move_mark in
    let ls = c.args.self.now.tree.lines in
    let name = c.place-start.result.name in
    moved-contents c.args.number.0 c.args.index c.args.place name line ls c.move_mark.new.tree.lines
    (named-listed ls c.args.index name line c.place-start.ensures.name is) (within at)
    (c.in_ok-move_mark.ensures.made c.args.index line (named-listed ls c.args.index name line
    c.place-start.ensures.name is))
