use Rattle.segments.proofs.Common.{◌≡◌, ◌+◌, ◌-◌, ◌≤◌, ◌++◌, length, map, take, drop, refl, sym, ap, subst, ◌∙◌, arith}
use Rattle.segments.proofs.Common.{chars, length-map, map_marks, inserted, moved, length-inserted, after_text, LieIn}
use Rattle.segments.proofs.Common.{AreKept, columns_from, StandIn, marks_of, with_place, ◌*◌, WORDS}
use Rattle.segments.proofs.InsertionLaws.{columns_inserted, moved_lie}
use Rattle.segments.proofs.MarkPlaceLaws.{Rise-placed, marks_of-placed, moved_reach, moved_stand, moved_within}
use Rattle.segments.proofs.MarkPlaceLaws.{written_over}
use Rattle.segments.proofs.MovedLaws.{can_move_on}
use Rattle.segments.proofs.RichLaws.{as_long}
use Rattle.segments.proofs.rich.RichLine.insert_text.Goals.{After-count_before-start, After-len-len}
use Rattle.segments.proofs.rich.RichLine.insert_text.Goals.{After-move_marks-self-inside}
use Rattle.segments.proofs.rich.RichLine.insert_text.Goals as goal

within : (c : After-len-len) → c.args.column ≤ length c.self.inside.text
within c = omega (arith, c.requires, as_long c.self.inside c.self.view_is)

pub insert-requires : goal.insert-requires
insert-requires c = within (goal.at.insert-requires c).After-len-len

-- how many characters there are then
longer : (c : After-count_before-start) → c.args.column ≤ length c.self.inside.text →
    length c.insert.new.self ≡ length c.self.inside.text + length (chars c.args.text.now)
longer c small = ap length c.in_ok-insert.ensures.new
    ∙ length-inserted c.args.column (chars c.args.text.now) c.self.inside.text small

before : (c : After-count_before-start) →
    LieIn 0 c.args.column (take c.count_before-start.result c.self.inside.toggles.items)
before c =
    (rw c.deref.ensures.value at (c.count_before-start.ensures.before 0 (length c.self.inside.text))) c.self.invariant.0

behind : (c : After-count_before-start) →
    LieIn c.args.column (length c.self.inside.text) (drop c.count_before-start.result c.self.inside.toggles.items)
behind c = (rw c.deref.ensures.value at (c.count_before-start.ensures.behind 0 (length c.self.inside.text)))
    c.self.invariant.0 (omega arith)

pub move_rest_on-requires-clause-room : goal.move_rest_on-requires-clause-room
move_rest_on-requires-clause-room c =
    let place = (goal.at.move_rest_on-requires-clause-room c).After-count_before-start in
    let small = within (goal.at.move_rest_on-requires-clause-room c).After-len-len in
    can_move_on (WORDS * c.args.column) (WORDS * length c.self.inside.text) (c.len.result - c.len-len.result)
    (drop c.count_before-start.result c.self.inside.toggles.items) (behind place)
    (omega (arith, c.len.ensures, c.len-len.ensures, c.len.type_inv, longer place small))

-- the marks are all written anew
marks_are : (c : After-move_marks-self-inside) → take c.self.inside.marks.len
    (c.move_marks-self-inside.new.marks ++ drop (length c.move_marks-self-inside.new.marks) c.self.inside.marks.items)
    ≡ map (with_place (moved c.args.column (c.len.result - c.len-len.result))) c.self.inside.marks.items
marks_are c =
    let f = with_place (moved c.args.column (c.len.result - c.len-len.result)) in
    let new : c.move_marks-self-inside.new.marks ≡ map f c.self.inside.marks.items = c.move_marks-self-inside.ensures.moved
    ∙ ap (map f) c.deref_mut.ensures.value in
    written_over c.self.inside.marks.len c.move_marks-self-inside.new.marks c.self.inside.marks.items (ap length new
    ∙ length-map c.self.inside.marks.items f ∙ sym c.self.inside.marks.ok.0) ∙ new

pub invariant_of-self-2 : goal.invariant_of-self-2
invariant_of-self-2 c =
    let place = (goal.at.invariant_of-self-2 c).After-count_before-start in
    let small = within (goal.at.invariant_of-self-2 c).After-len-len in
    let len = length c.self.inside.text in
    let kept = c.self.invariant.1 in
    let marks = c.self.inside.marks.items in
    let count = c.len.result - c.len-len.result in
    let new = c.move_marks-self-inside.ensures.reach in
    let long : len + count ≡ length c.insert.new.self = omega (
      arith,
      c.len.ensures,
      c.len-len.ensures,
      longer place small,
    ) in (
      subst (λ n. LieIn 0 n c.move_rest_on.new.toggles.items) long
          (subst (LieIn 0 (len + count)) (sym c.move_rest_on.ensures)
          (moved_lie c.args.column len c.count_before-start.result count c.self.inside.toggles.items (before place)
          (behind place) small)),
      subst (AreKept (length c.insert.new.self) c.move_marks-self-inside.result)
          (sym (marks_are (goal.at.invariant_of-self-2 c).After-move_marks-self-inside))
          (record {
            rise = Rise-placed (moved c.args.column count) marks kept.rise;
            stand = subst (λ n. StandIn n (map (with_place (moved c.args.column count)) marks)) (sym new)
                (moved_stand c.args.column count c.self.inside.reach marks kept.stand);
            within = rw (← sym new) (subst (λ n. moved_reach c.args.column count c.self.inside.reach ≤ n) long
                (moved_within c.args.column count c.self.inside.reach len kept.within));
          }),
    )

pub returns-clause-new : goal.returns-clause-new
returns-clause-new c =
    let place = (goal.at.returns-clause-new c).After-count_before-start in
    let small = within (goal.at.returns-clause-new c).After-len-len in
    let text = c.self.inside.text in
    let entries = c.self.inside.toggles.items in
    let new = chars c.args.text.now in
    let len = length text in
    let count = c.len.result - c.len-len.result in
    let short : length new ≡ count = omega (arith, c.len.ensures, c.len-len.ensures, longer place small) in
    let columns =
    ap (λ t. columns_from 0 t c.move_rest_on.new.toggles.items) c.in_ok-insert.ensures.new
    ∙ ap (columns_from 0 (inserted c.args.column new text)) c.move_rest_on.ensures
    ∙ columns_inserted c.args.column len c.count_before-start.result count entries (before place) (behind place) small
    text new refl short in
    let marks =
    ap marks_of (marks_are (goal.at.returns-clause-new c).After-move_marks-self-inside)
    ∙ marks_of-placed (moved c.args.column count) c.self.inside.marks.items c.self.invariant.1.rise
    ∙ ap (λ n. map_marks (moved c.args.column n) (marks_of c.self.inside.marks.items)) (sym short) in
    (λ i. record { columns = columns i; marks = marks i }) ∙ ap (after_text c.args.column new) c.self.view_is
