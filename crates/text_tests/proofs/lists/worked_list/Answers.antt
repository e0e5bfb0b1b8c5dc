use Rattle.std.proofs.Common.{length, subst, sym, ◌∙◌, ℕ, ◌+◌, ◌<◌, get_or}
use Rattle.segments.specs.Columns.{LineContent}
use Rattle.line_lists.specs.Lists.{NumbersBelow, more_lines, row_of}
use Rattle.text_tests.proofs.WorkedLaws.{counted-worked, numbers-worked, spliced-worked}
use Rattle.text_tests.proofs.lists.worked_list.Goals as goal

pub splice-requires-clause-numbers : goal.splice-requires-clause-numbers
splice-requires-clause-numbers g c =
    let room = g.L.LineList.mark_room c.reserve.new.self in
    subst (λ items. (k : ℕ) (d : LineContent) → k < length items →
    NumbersBelow room (get_or items k d).marks) (sym c.in_ok-lines.ensures)
    (numbers-worked room c.in_ok-reserve.ensures.numbers)

pub splice-requires-clause-lines : goal.splice-requires-clause-lines
splice-requires-clause-lines g c =
    spliced-worked (g.L.LineList.lines c.reserve.new.self) c.in_ok-lines.lines.items (c.reserve.ensures.same
    ∙ c.in_ok-list.ensures) c.in_ok-lines.ensures

pub splice-requires-clause-counted : goal.splice-requires-clause-counted
splice-requires-clause-counted g c =
    counted-worked (g.L.LineList.lines c.reserve.new.self) c.in_ok-lines.lines.items (c.reserve.ensures.same
    ∙ c.in_ok-list.ensures) c.in_ok-lines.ensures

pub splice-requires-clause-room : goal.splice-requires-clause-room
splice-requires-clause-room g c = (
  0,
  0,
  subst (λ items. g.L.LineList.has_room c.reserve.new.self (more_lines 1 items + 0) (row_of 1 items + 0))
      (sym c.in_ok-lines.ensures) c.in_ok-reserve.ensures.room,
)
