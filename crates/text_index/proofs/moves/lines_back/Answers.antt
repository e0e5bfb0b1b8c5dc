use Rattle.text_index.proofs.Common.{part_of, sym, ◌∙◌, shown}
use Rattle.text_index.proofs.MoveLaws.{back-to-last, back-within, back-in-line}
use Rattle.text_index.proofs.moves.lines_back.Goals as goal

pub returns-then-back-lines-clause-value : goal.returns-then-back-lines-clause-value
returns-then-back-lines-clause-value g c =
    let view = c.args.view.now in
    back-to-last (shown (part_of view)) c.args.count c.args.place
    c.line_and_column-line.result.0 c.saturating_sub-back.result c.len.result
    c.line_and_column-line.ensures.line c.saturating_sub-back.ensures (c.if-back-lines.true
    ∙ c.lines.ensures) c.len.ensures

pub in_line-requires : goal.in_line-requires
in_line-requires g c =
    let view = c.args.view.now in
    record {
      known = back-within (shown (part_of view)) c.args.count c.args.place c.line_and_column-line.result.0
          c.saturating_sub-back.result c.line_and_column-line.ensures.line c.saturating_sub-back.ensures (λ same.
          c.if-back-lines.false (same ∙ sym c.lines.ensures));
    }

pub returns-clause-value : goal.returns-clause-value
returns-clause-value g c =
    let view = c.args.view.now in
    back-in-line (shown (part_of view)) c.args.count c.args.place
    c.line_and_column-line.result.0 c.saturating_sub-back.result
    c.line_and_column-line.result.1 c.in_line.result c.line_and_column-line.ensures.line
    c.line_and_column-line.ensures.column c.saturating_sub-back.ensures
    (λ same. c.if-back-lines.false (same ∙ sym c.lines.ensures)) c.in_line.ensures.value
