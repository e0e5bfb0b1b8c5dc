use Rattle.text_index.proofs.Common.{part_of, ◌≡◌, ◌<◌, ◌+◌, ◌-◌, ◌^◌, min, sym, ◌∙◌, arith, characters, lines, line_of}
use Rattle.text_index.proofs.Common.{shown}
use Rattle.text_index.proofs.ViewLaws.{some-line, length-shown, lines_on-is}
use Rattle.text_index.proofs.moves.lines_on.Goals as goal

pub overflow_sub-lines : goal.overflow_sub-lines
overflow_sub-lines g c =
    let view = c.args.view.now in
    let long = length-shown (part_of view) view.whole_lines in
    let some : view.start < view.end = omega (arith, c.if-place-len.false, c.len.ensures, long, c.requires.within) in
    omega (
      arith,
      c.lines.ensures,
      some-line (characters (part_of view).content.cells) view.start view.end view.whole_lines.first
          view.whole_lines.behind some,
    )

pub in_line-requires : goal.in_line-requires
in_line-requires g c =
    let view = c.args.view.now in
    let long = length-shown (part_of view) view.whole_lines in
    let some : view.start < view.end = omega (arith, c.if-place-len.false, c.len.ensures, long, c.requires.within) in
    omega (
      arith,
      c.lines.ensures,
      c.min.ensures,
      some-line (characters (part_of view).content.cells) view.start view.end view.whole_lines.first view.whole_lines.behind some,
    )

pub returns-clause-value : goal.returns-clause-value
returns-clause-value g c =
    let view = c.args.view.now in
    let text = shown (part_of view) in
    let moved = c.line_and_column-line in
    let small : lines text < 2 ^ 64 = omega (arith, c.lines.ensures, c.lines.type_inv) in
    let at_is : c.min.result ≡ min (line_of text c.args.place + c.args.count) (lines text - 1) =
    omega (arith, c.min.ensures, c.saturating_add.ensures, c.lines.ensures, moved.ensures.line, small) in
    lines_on-is text c.args.count c.args.place c.min.result moved.result.1 c.in_line.result
    (λ same. c.if-place-len.false (same ∙ sym c.len.ensures)) at_is moved.ensures.column c.in_line.ensures.value
