use Rattle.line_lists.proofs.Common.{◌≡◌, ◌∙◌, sym, ap, subst, arith, length, map, length-map, slice_get, Some, set}
use Rattle.line_lists.proofs.Common.{take, get_or_from_slice_get, ◌++◌, drop, AreLines, LineContent, lines_marked}
use Rattle.line_lists.proofs.Common.{with_mark, without_mark}
use Rattle.line_lists.proofs.LineChangeLaws.{marked-made}
use Rattle.line_lists.proofs.VecLaws.{written-over}
use Rattle.line_lists.proofs.line_vec.LineVecLineList.move_mark.Goals.{After-take_marks}
use Rattle.line_lists.proofs.line_vec.LineVecLineList.move_mark.Goals as goal

-- the copy has the mark, the others are without it
made : (c : After-take_marks) (line : LineContent) →
    slice_get c.args.self.now.lines.items c.args.index ≡ Some line
    → set (take c.args.self.now.lines.len
    (c.take_marks.new.lines ++ drop (length c.take_marks.new.lines) c.args.self.now.lines.items)) c.args.index
    c.put_mark.new.self
    ≡ lines_marked c.args.number.0 c.args.index c.args.place line c.args.self.now.lines.items
made c line is =
    let list = c.args.self.now.lines in
    let n = c.args.number.0 in
    let copied = c.in_ok-line.ensures ∙ c.index.ensures
    ∙ get_or_from_slice_get list.items c.args.index line c.index.result.now is in
    let put : c.put_mark.new.self ≡ with_mark n c.args.place c.in_ok-line.line = λ i.
    record { columns = c.put_mark.ensures.columns i; marks = c.in_ok-put_mark.ensures.marks i } in
    let free = c.take_marks.ensures ∙ ap (map (without_mark n)) c.deref_mut.ensures.value in
    let long = ap length free ∙ length-map list.items (without_mark n) in
    let over = written-over list.len c.take_marks.new.lines list.items (omega (arith, long, list.ok.0)) in
    marked-made n c.args.index c.args.place line c.put_mark.new.self list.items
    (take list.len (c.take_marks.new.lines ++ drop (length c.take_marks.new.lines) list.items)) is (over ∙ free)
    (put ∙ ap (with_mark n c.args.place) copied)

pub invariant_of-self : goal.invariant_of-self
invariant_of-self c = record {
  are_lines = subst AreLines
      (sym (made (goal.at.invariant_of-self c).After-take_marks c.requires.line c.requires.is)) c.requires.are;
}

pub returns-clause-made : goal.returns-clause-made
returns-clause-made c = λ line is. made (goal.at.returns-clause-made c).After-take_marks line is
