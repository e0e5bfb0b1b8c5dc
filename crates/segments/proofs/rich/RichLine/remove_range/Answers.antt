use Rattle.segments.proofs.Common.{◌≡◌, ◌+◌, ◌-◌, ◌≤◌, ◌++◌, length, map, take, drop, sym, ap, subst, ◌∙◌, arith}
use Rattle.segments.proofs.Common.{length-map, drawn, length-removed, after_removal, LieIn, AreKept, columns_from}
use Rattle.segments.proofs.Common.{marks_of, with_place}
use Rattle.segments.proofs.InsertionLaws.{columns_removed}
use Rattle.segments.proofs.MarkPlaceLaws.{Rise-placed, StandIn-placed, marks_of-placed, written_over}
use Rattle.segments.proofs.RichLaws.{as_long}
use Rattle.segments.proofs.rich.RichLine.remove_range.Goals.{After-draw_marks-self-inside, After-len-len}
use Rattle.segments.proofs.rich.RichLine.remove_range.Goals.{After-remove_columns}
use Rattle.segments.proofs.rich.RichLine.remove_range.Goals as goal

within : (c : After-len-len) → c.args.to ≤ length c.self.inside.text
within c = omega (arith, c.requires.within, as_long c.self.inside c.self.view_is)

pub remove-requires-clause-within : goal.remove-requires-clause-within
remove-requires-clause-within c = within (goal.at.remove-requires-clause-within c).After-len-len

pub remove_columns-requires-clause-within : goal.remove_columns-requires-clause-within
remove_columns-requires-clause-within c =
    omega (arith, c.len-len.ensures, within (goal.at.remove_columns-requires-clause-within c).After-len-len)

-- how many characters there are then
shorter : (c : After-remove_columns) → c.args.to ≤ length c.self.inside.text →
    length c.remove.new.self + (c.args.to - c.args.from) ≡ length c.self.inside.text
shorter c small =
    ap (λ text. length text + (c.args.to - c.args.from)) c.in_ok-remove.ensures.new
    ∙ length-removed c.args.from c.args.to c.self.inside.text c.requires.ordered small

-- the marks are all written anew
marks_are : (c : After-draw_marks-self-inside) → take c.self.inside.marks.len
    (c.draw_marks-self-inside.new.marks ++ drop (length c.draw_marks-self-inside.new.marks) c.self.inside.marks.items)
    ≡ map (with_place (drawn c.args.from c.args.to)) c.self.inside.marks.items
marks_are c =
    let f = with_place (drawn c.args.from c.args.to) in
    let new : c.draw_marks-self-inside.new.marks ≡ map f c.self.inside.marks.items = c.draw_marks-self-inside.ensures.drawn
    ∙ ap (map f) c.deref_mut.ensures.value in
    written_over c.self.inside.marks.len c.draw_marks-self-inside.new.marks c.self.inside.marks.items (ap length new
    ∙ length-map c.self.inside.marks.items f ∙ sym c.self.inside.marks.ok.0) ∙ new

pub invariant_of-self-2 : goal.invariant_of-self-2
invariant_of-self-2 c =
    let small = within (goal.at.invariant_of-self-2 c).After-len-len in
    let short = shorter (goal.at.invariant_of-self-2 c).After-remove_columns small in
    let kept = c.self.invariant.1 in
    let marks = c.self.inside.marks.items in
    let from = c.args.from in
    let to = c.args.to in
    let new = c.draw_marks-self-inside.ensures.reach in
    let len = length c.self.inside.text in
    let long : c.args.from + (c.len-len.result - c.args.to)
    ≡ length c.remove.new.self = omega (arith, c.len-len.ensures, short, small, c.requires.ordered) in (
      subst (λ n. LieIn 0 n c.remove_columns.new.toggles.items) long c.remove_columns.ensures.lie,
      subst (AreKept (length c.remove.new.self) c.draw_marks-self-inside.result)
          (sym (marks_are (goal.at.invariant_of-self-2 c).After-draw_marks-self-inside))
          (record {
            rise = Rise-placed (drawn from to) marks kept.rise;
            stand = StandIn-placed (drawn from to) marks c.self.inside.reach c.draw_marks-self-inside.result
                (λ place there. omega (arith, there, new)) kept.stand;
            within = omega (arith, kept.within, new, short, small, c.requires.ordered);
          }),
    )

pub returns-clause-new : goal.returns-clause-new
returns-clause-new c =
    let small = within (goal.at.returns-clause-new c).After-len-len in
    let entries = c.self.inside.toggles.items in
    let from = c.args.from in
    let to = c.args.to in
    let columns =
    ap (λ t. columns_from 0 t c.remove_columns.new.toggles.items) c.in_ok-remove.ensures.new
    ∙ columns_removed from to c.len-len.result entries c.remove_columns.new.toggles.items c.requires.ordered
    c.remove_columns.ensures.front c.remove_columns.ensures.behind c.self.inside.text (sym c.len-len.ensures) small
    c.self.invariant.0 in
    let marks =
    ap marks_of (marks_are (goal.at.returns-clause-new c).After-draw_marks-self-inside)
    ∙ marks_of-placed (drawn from to) c.self.inside.marks.items c.self.invariant.1.rise in
    (λ i. record { columns = columns i; marks = marks i }) ∙ ap (after_removal from to) c.self.view_is
