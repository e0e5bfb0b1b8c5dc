use Rattle.text_model.proofs.Common.{◌≡◌, ◌+◌, drop, characters, line_start}
use Rattle.text_model.proofs.plain_store.find_line.Given as goal

abbrev pub invariant-loop-offset : goal.invariant-loop-offset
invariant-loop-offset l =
    line_start l.fn.line (characters l.cells) ≡ l.offset + line_start l.left (drop l.offset (characters l.cells))
