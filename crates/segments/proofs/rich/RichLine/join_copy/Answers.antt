use Rattle.segments.proofs.Common.{◌≡◌, ◌+◌, ◌<◌, ◌^◌, List, [], ◌∷◌, length, refl, sym, ap, ap₂, subst, ◌∙◌, arith}
use Rattle.segments.proofs.Common.{length-append, nat_tests, on_ok_weaker, Mark, LineContent, joined_marks, StandIn}
use Rattle.segments.proofs.Common.{marks_of}
use Rattle.segments.proofs.MarkLaws.{joined_none, marks_of-nil}
use Rattle.segments.proofs.MarkPlaceLaws.{kept_stand}
use Rattle.segments.proofs.RichLaws.{as_long}
use Rattle.segments.proofs.rich.RichLine.join_copy.Goals.{Else-len}
use Rattle.std.specs.FinMap as finite
use Rattle.segments.proofs.rich.RichLine.join_copy.Goals as goal

-- there are no more characters than a number counts
room : (c : Else-len) → length c.args.self.now.columns + length c.args.other.now.columns < 2 ^ 64
room c = omega (
  arith,
  c.if-len.false,
  c.len.ensures,
  c.len-len.ensures,
  c.len-len.type_inv,
  as_long c.self.inside c.self.view_is,
  as_long c.other.inside c.other.view_is,
)

pub join_columns-requires : goal.join_columns-requires
join_columns-requires c = room (goal.at.join_columns-requires c).Else-len

pub join_columns-requires-2 : goal.join_columns-requires-2
join_columns-requires-2 c = room (goal.at.join_columns-requires-2 c).Else-len

none_of : (marks : List Mark) → length marks ≡ 0 → marks ≡ []
none_of [] empty = refl
none_of (mark ∷ marks) empty = absurd (omega (arith, empty))

pub returns-then-is_empty-clause-new : goal.returns-then-is_empty-clause-new
returns-then-is_empty-clause-new c =
    let line = c.args.self.now in
    let few : length c.other.inside.marks.items ≡ 0 = let test = sym c.is_empty.ensures ∙ c.if-is_empty.true in
    let len = c.other.inside.marks.ok.0 in grind (arith, nat_tests, test, len) in
    let none : c.args.other.now.marks ≡ finite.empty = ap (λ (line : LineContent). line.marks) (sym c.other.view_is)
    ∙ ap marks_of (none_of c.other.inside.marks.items few) ∙ marks_of-nil in
    let marks : c.join_columns.new.self.marks ≡ joined_marks (length line.columns) line.marks c.args.other.now.marks =
    c.join_columns.ensures.marks ∙ sym (joined_none (length line.columns) line.marks)
    ∙ ap (joined_marks (length line.columns) line.marks) (sym none) in
    on_ok_weaker c.join_columns.result (λ columns i. record { columns = columns i; marks = marks i })
    c.join_columns.ensures.columns

pub invariant_of-self : goal.invariant_of-self
invariant_of-self c =
    let others = c.other.invariant.1 in
    let first = c.self.inside.text in
    let len = c.len-len.ensures in
    let long : length c.self-2.inside.text ≡ length first + length c.other.inside.text =
    as_long c.self-2.inside c.self-2.view_is ∙ ap length c.in_ok-join_columns.ensures.columns
    ∙ length-append c.args.self.now.columns c.args.other.now.columns
    ∙ sym (ap₂ (λ a b. a + b) (as_long c.self.inside c.self.view_is) (as_long c.other.inside c.other.view_is)) in (
      c.self-2.invariant.0,
      record {
        rise = c.in_ok-marks.ensures.rise;
        stand = c.in_ok-marks.ensures.stand c.other.inside.reach
            (subst (λ n. StandIn n c.deref.result.now) (sym len)
            (subst (StandIn (length first)) (sym c.deref.ensures.value)
            (kept_stand (length first) c.self.inside.reach c.self.inside.marks.items c.self.invariant.1)))
            (subst (StandIn c.other.inside.reach) (sym c.deref-2.ensures.value) others.stand);
        within = omega (arith, len, others.within, long);
      },
    )

pub returns-clause-new : goal.returns-clause-new
returns-clause-new c =
    let marks = c.self.inside.marks.items in
    let columns = ap (λ (line : LineContent). line.columns) c.self-2.view_is ∙ c.in_ok-join_columns.ensures.columns in
    let both : marks_of c.in_ok-marks.marks.items
    ≡ joined_marks (length c.args.self.now.columns) c.args.self.now.marks c.args.other.now.marks =
    c.in_ok-marks.ensures.marks
    ∙ ap₂ (λ xs ys. joined_marks c.len-len.result (marks_of xs) (marks_of ys)) c.deref.ensures.value
    c.deref-2.ensures.value
    ∙ ap (λ n. joined_marks n (marks_of marks) (marks_of c.other.inside.marks.items)) (c.len-len.ensures
    ∙ as_long c.self.inside c.self.view_is)
    ∙ ap₂ (λ (one two : LineContent). joined_marks (length c.args.self.now.columns) one.marks two.marks) c.self.view_is
    c.other.view_is in λ i. record { columns = columns i; marks = both i }
