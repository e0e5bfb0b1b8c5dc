use Rattle.line_lists.proofs.Common.{length, sym, ap, ◌∙◌, arith, take_all, Count, whole}
use Rattle.line_lists.proofs.CountRows.{count-characters, count-lines}
use Rattle.line_lists.proofs.pieces.counts.Goals as goal

pub returns : goal.returns
returns g c =
    let lines = g.L.LineList.lines c.args.list.now in
    let all = take_all c.len-lines.result lines (omega (arith, c.len-lines.ensures)) in
    record {
      lines = ap (λ (s : Count). s.lines) c.counting.ensures ∙ c.len-lines.ensures ∙ sym (count-lines lines);
      characters = ap (λ (s : Count). s.characters) c.counting.ensures ∙ c.start.ensures
          ∙ ap (λ ls. length (whole ls).columns) all ∙ sym (count-characters lines);
      marks = ap (λ (s : Count). s.marks) c.counting.ensures ∙ c.marks.ensures;
    }
