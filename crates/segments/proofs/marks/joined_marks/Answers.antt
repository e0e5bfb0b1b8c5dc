use Rattle.segments.proofs.Common.{◌≡◌, ◌+◌, ◌<◌, ◌≤◌, [], ◌∷◌, ◌++◌, length, get_or, drop, sym, ap, subst, ◌∙◌, arith}
use Rattle.segments.proofs.Common.{take_rest, All-append, All-drop, All-nil, All-push, All-weaker, Left, Mark, StandIn}
use Rattle.segments.proofs.MarkLaws.{Merges, MergesAt, merge_both_at, merge_end, merge_first_at, merge_second_at}
use Rattle.segments.proofs.MarkLaws.{merge_start, merged, moved_mark}
use Rattle.segments.proofs.marks.joined_marks.Goals.{In_ok-extend_from_slice, In_ok-push-2}
use Rattle.segments.proofs.marks.joined_marks.Goals.{then-one-first-2+then-first-one-2, else-one-first-2}
use Rattle.segments.proofs.marks.joined_marks.Goals.{else-one-first-2-via-then-one-first-2+else-first-one-2}
use Rattle.segments.proofs.marks.joined_marks.Goals.{else-one-first-2-via-else-one-first-2}
use Rattle.segments.proofs.marks.joined_marks.Goals.{else-one-first-via-then-one-first+else-first-one}
use Rattle.segments.proofs.marks.joined_marks.Goals.{else-one-first-via-else-one-first}
use Rattle.segments.proofs.marks.joined_marks.Goals as goal

abbrev none : Mark
none = record { number = record { 0 = 0 }; place = record { offset = 0; gravity = Left } }

pub loop-two-init : goal.loop-two-init
loop-two-init c =
    let first = c.args.first.now in
    let second = c.args.second.now in
    let empty = sym c.in_ok-marks.ensures.items in
    record {
      within = omega arith;
      merges = subst (MergesAt c.args.len first second 0 0) empty
          (merge_start c.args.len first second c.requires.first c.requires.second);
      stand = λ more in_first in_second. subst (StandIn (c.args.len + more)) empty
          (All-nil (λ (mark : Mark). mark.place.offset ≤ c.args.len + more));
    }

pub loop-two-preserved-then-first-one : goal.loop-two-preserved-then-first-one
loop-two-preserved-then-first-one c =
    let first = c.args.first.now in
    let one = c.loop-two.one in
    let marks = c.loop-two.marks.items in
    let kept = c.loop-two.invariant in
    let within : one < length first = c.if-one-first.true in
    let pushed = sym c.in_ok-push.ensures.items in
    record {
      within = omega (arith, within);
      merges = subst (MergesAt c.args.len first c.args.second.now (one + 1) c.loop-two.two) pushed
          (merge_first_at one c.loop-two.two none within (λ there. c.if-first-one.true) kept.merges);
      stand = λ more in_first in_second.
          subst (StandIn (c.args.len + more)) pushed
          (All-push (λ (mark : Mark). mark.place.offset ≤ c.args.len + more) marks (get_or first one none)
          (kept.stand more in_first in_second) (omega (arith, in_first one none within)));
    }

-- the next of the second has no higher number than that of the first
least : (c : In_ok-push-2) → c.loop-two.one < length c.args.first.now →
    (get_or c.args.second.now c.loop-two.two none).number.0 ≤ (get_or c.args.first.now c.loop-two.one none).number.0
least c there =
    elim c.else-one-first.branch as (λ b. (get_or c.args.second.now c.loop-two.two none).number.0
    ≤ (get_or c.args.first.now c.loop-two.one none).number.0) [
      | else-one-first-via-then-one-first+else-first-one w ↦ omega (arith, w.if-first-one.false)
      | else-one-first-via-else-one-first w ↦ absurd (omega (arith, there, w.if-one-first.false))
    ]

pub loop-two-preserved : goal.loop-two-preserved
loop-two-preserved c =
    let first = c.args.first.now in
    let second = c.args.second.now in
    let len = c.args.len in
    let one = c.loop-two.one in
    let two = c.loop-two.two in
    let marks = c.loop-two.marks.items in
    let kept = c.loop-two.invariant in
    let mark = get_or second two none in
    let within : two < length second = c.loop-two-test.true in
    let pushed = sym c.in_ok-push-2.ensures.items in
    record {
      within = elim c.if-one-first-2.branch as (λ b. c.if-one-first-2.one ≤ length first) [
        | then-one-first-2+then-first-one-2 w ↦ omega (arith, w.one-is, w.if-one-first-2.true)
        | else-one-first-2 w ↦ omega (arith, w.one-is, kept.within)
      ];
      merges = subst (MergesAt len first second c.if-one-first-2.one (two + 1)) pushed
          (elim c.if-one-first-2.branch as (λ b.
          MergesAt len first second c.if-one-first-2.one (two + 1) (marks ++ moved_mark len mark ∷ [])) [
            | then-one-first-2+then-first-one-2 w ↦ rw w.one-is
                (merge_both_at one two none w.if-one-first-2.true within w.if-first-one-2.true kept.merges)
            | else-one-first-2 w ↦ rw w.one-is
                (merge_second_at one two none within (λ there.
                elim w.else-one-first-2.branch as (λ b. mark.number.0 < (get_or first one none).number.0) [
                  | else-one-first-2-via-then-one-first-2+else-first-one-2 w' ↦ omega (
                    arith,
                    least c there,
                    w'.if-first-one-2.false,
                  )
                  | else-one-first-2-via-else-one-first-2 w' ↦ absurd (omega (arith, there, w'.if-one-first-2.false))
                ]) kept.merges)
          ]);
      stand = λ more in_first in_second.
          subst (StandIn (len + more)) pushed
          (All-push (λ (m : Mark). m.place.offset ≤ len + more) marks (moved_mark len mark)
          (kept.stand more in_first in_second) (omega (arith, in_second two none within)));
    }

-- the items, as they are in the end
all_items : (c : In_ok-extend_from_slice) → c.extend_from_slice.new.self.items
    ≡ c.loop-two.marks.items ++ drop c.loop-two.one c.args.first.now
all_items c = c.in_ok-extend_from_slice.ensures.items
    ∙ ap (λ rest. c.loop-two.marks.items ++ rest) (take_rest c.args.first.now c.loop-two.one)

-- all marks of both
whole : (c : In_ok-extend_from_slice) →
    Merges c.args.len c.args.first.now c.args.second.now c.extend_from_slice.new.self.items [] []
whole c =
    subst (λ all. Merges c.args.len c.args.first.now c.args.second.now all [] []) (sym (all_items c))
    (merge_end c.loop-two.one c.loop-two.two (omega (arith, c.loop-two-test.false)) c.loop-two.invariant.merges)

pub returns-clause-rise : goal.returns-clause-rise
returns-clause-rise c = (whole c).rise

pub returns-clause-stand : goal.returns-clause-stand
returns-clause-stand c = λ more in_first in_second.
    let P = λ (mark : Mark). mark.place.offset ≤ c.args.len + more in
    let first = c.args.first.now in
    let rest = drop c.loop-two.one first in
    subst (StandIn (c.args.len + more)) (sym (all_items c))
    (All-append P c.loop-two.marks.items rest (c.loop-two.invariant.stand more in_first in_second)
    (All-weaker (λ (mark : Mark). mark.place.offset ≤ c.args.len) P (λ mark lies. omega (arith, lies)) rest
    (All-drop (λ (mark : Mark). mark.place.offset ≤ c.args.len) c.loop-two.one first in_first)))

pub returns-clause-marks : goal.returns-clause-marks
returns-clause-marks c = merged c.requires.first c.requires.second (whole c)
