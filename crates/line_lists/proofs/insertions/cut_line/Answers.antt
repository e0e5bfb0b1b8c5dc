use Rattle.line_lists.proofs.Common.{arith}
use Rattle.line_lists.proofs.TextCuts.{behind, cut, no-lines, within}
use Rattle.line_lists.proofs.insertions.cut_line.Goals as goal

pub returns-then-newline-text-clause-none : goal.returns-then-newline-text-clause-none
returns-then-newline-text-clause-none c =
    no-lines c.utf8.text c.as_bytes.ensures.value c.find_newline-newline.ensures c.if-newline-text.true

pub overflow_add-newline : goal.overflow_add-newline
overflow_add-newline c =
    let inside = within c.utf8.text c.as_bytes.ensures.value c.find_newline-newline.ensures c.if-newline-text.false in
    omega (arith, inside, c.as_bytes.ensures.len)

pub split_at-requires : goal.split_at-requires
split_at-requires c =
    behind c.utf8.text c.as_bytes.ensures.value c.find_newline-newline.ensures c.if-newline-text.false

pub returns-clause-line : goal.returns-clause-line
returns-clause-line c =
    (cut c.utf8.text c.as_bytes.ensures.value c.find_newline-newline.ensures c.if-newline-text.false
    c.split_at.ensures.front c.split_at.ensures.back).line

pub returns-clause-parts : goal.returns-clause-parts
returns-clause-parts c =
    (cut c.utf8.text c.as_bytes.ensures.value c.find_newline-newline.ensures c.if-newline-text.false
    c.split_at.ensures.front c.split_at.ensures.back).parts
