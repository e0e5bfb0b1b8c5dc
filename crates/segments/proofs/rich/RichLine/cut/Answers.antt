use Rattle.segments.proofs.Common.{◌≡◌, length, take, drop, sym, ap, ap₂, subst, ◌∙◌, arith, length-take, length-drop}
use Rattle.segments.proofs.Common.{subst₂, All, filter, Mark, earlier, line_before, line_behind, CanMoveBack, LieIn}
use Rattle.segments.proofs.Common.{moved_back, columns_from, marks_of, with_place, ◌*◌, WORDS, map, nat_le, nat_lt}
use Rattle.segments.proofs.MovedLaws.{can_move_back}
use Rattle.segments.proofs.PartLaws.{behind_lie, columns_before, columns_behind, kept_before, kept_behind}
use Rattle.segments.proofs.PartLaws.{marks_of-behind, marks_of-passing, rest_read}
use Rattle.segments.proofs.RichLaws.{as_long}
use Rattle.segments.proofs.rich.RichLine.cut.Goals.{After-count_before-count, After-move_rest_back, In_ok-marks}
use Rattle.segments.proofs.rich.RichLine.cut.Goals as goal

pub cut-requires : goal.cut-requires
cut-requires c = omega (arith, c.requires, as_long c.self.inside c.self.view_is)

-- the toggles before the column, and those from it on
front : (c : After-count_before-count) →
    LieIn 0 c.args.column (take c.count_before-count.result c.self.inside.toggles.items)
front c = (rw c.deref.ensures.value at (c.count_before-count.ensures.before 0 (length c.self.inside.text)))
    c.self.invariant.0

rest : (c : After-count_before-count) →
    LieIn c.args.column (length c.self.inside.text) (drop c.count_before-count.result c.self.inside.toggles.items)
rest c = (rw c.deref.ensures.value at (c.count_before-count.ensures.behind 0 (length c.self.inside.text)))
    c.self.invariant.0 (omega arith)

pub move_rest_back-requires-clause-room : goal.move_rest_back-requires-clause-room
move_rest_back-requires-clause-room c =
    let count = c.count_before-count.result in
    subst (All (CanMoveBack c.args.column))
    (sym (rest_read count c.deref-2.ensures.value c.in_ok-toggles.ensures.items))
    (can_move_back (WORDS * c.args.column) (WORDS * length c.self.inside.text) c.args.column
    (drop count c.self.inside.toggles.items)
    (rest (goal.at.move_rest_back-requires-clause-room c).After-count_before-count) (omega arith))

-- the toggles and the marks of the part from the column on
moved : (c : After-move_rest_back) → c.move_rest_back.new.toggles.items
    ≡ map (moved_back c.args.column) (drop c.count_before-count.result c.self.inside.toggles.items)
moved c = c.move_rest_back.ensures.items ∙ ap (map (moved_back c.args.column))
    (rest_read c.count_before-count.result c.deref-2.ensures.value c.in_ok-toggles.ensures.items)

marked : (c : In_ok-marks) → c.in_ok-marks.marks.items ≡ map (with_place (earlier c.args.column))
    (filter (λ (mark : Mark). nat_le c.args.column mark.place.offset) c.self.inside.marks.items)
marked c = rw (← c.deref-3.ensures.value) c.in_ok-marks.ensures

pub invariant_of-self-2 : goal.invariant_of-self-2
invariant_of-self-2 c =
    let long : length c.cut.new.self ≡ c.args.column = omega (
      arith,
      c.requires,
      as_long c.self.inside c.self.view_is,
      ap length c.in_ok-text.ensures.head,
      length-take c.args.column c.self.inside.text,
    ) in (
      subst₂ (LieIn 0) (sym long) (sym c.truncate.ensures.items)
          (front (goal.at.invariant_of-self-2 c).After-count_before-count),
      kept_before c.args.column c.self.invariant.1 long c.min-self-inside.ensures c.keep_before.ensures,
    )

pub invariant_of-result : goal.invariant_of-result
invariant_of-result c =
    let text = c.self.inside.text in
    let column = c.args.column in
    let long = ap length c.in_ok-text.ensures.tail ∙ length-drop column text in (
      subst₂ (LieIn 0) (sym long) (sym (moved (goal.at.invariant_of-result c).After-move_rest_back))
          (behind_lie column (length text) (drop c.count_before-count.result c.self.inside.toggles.items)
          (rest (goal.at.invariant_of-result c).After-count_before-count)),
      kept_behind column c.self.invariant.1 long c.saturating_sub-reach.ensures
          (marked (goal.at.invariant_of-result c).In_ok-marks),
    )

pub returns-clause-head : goal.returns-clause-head
returns-clause-head c =
    let text = c.self.inside.text in
    let column = c.args.column in
    let columns = ap₂ (columns_from 0) c.in_ok-text.ensures.head c.truncate.ensures.items
    ∙ columns_before column (length text) c.count_before-count.result text c.self.inside.toggles.items
    (rest (goal.at.returns-clause-head c).After-count_before-count) in
    let marks = ap marks_of c.keep_before.ensures
    ∙ marks_of-passing (λ place. nat_lt place.offset column) c.self.inside.marks.items c.self.invariant.1.rise in
    (λ i. record { columns = columns i; marks = marks i }) ∙ ap (line_before column) c.self.view_is

pub returns-clause-tail : goal.returns-clause-tail
returns-clause-tail c =
    let text = c.self.inside.text in
    let column = c.args.column in
    let place = (goal.at.returns-clause-tail c).After-count_before-count in
    let columns =
    ap₂ (columns_from 0) c.in_ok-text.ensures.tail (moved (goal.at.returns-clause-tail c).After-move_rest_back)
    ∙ columns_behind column (length text) c.count_before-count.result text c.self.inside.toggles.items (front place)
    (rest place) in
    let marks = ap marks_of (marked (goal.at.returns-clause-tail c).In_ok-marks)
    ∙ marks_of-behind column c.self.inside.marks.items c.self.invariant.1.rise in
    (λ i. record { columns = columns i; marks = marks i }) ∙ ap (line_behind column) c.self.view_is
