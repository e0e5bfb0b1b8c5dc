use Rattle.mark_table.proofs.Common.{◌+◌, max, inl, inr, sym, subst, ◌∙◌, arith, numbers_of}
use Rattle.mark_table.proofs.SharedWalk.{Passed, Passed-more, Passed-next, Passed-start, Turns-bound, Turns-next}
use Rattle.mark_table.proofs.SharedWalk.{IsFirst-found, IsFirst-no_next, IsFirst-none}
use Rattle.mark_table.proofs.marks.MarkTable.next_shared.Goals.{then-offset-bound, else-offset-bound}
use Rattle.mark_table.proofs.marks.MarkTable.next_shared.Goals as goal

pub loop-offset-init : goal.loop-offset-init
loop-offset-init g c =
    let marks = (g.S.TextStore.content c.args.store.now).marks in
    let numbers = numbers_of c.args.self.now.marks in
    let start = max c.args.bound.place c.args.view.start in
    let offset = c.in_ok-offset.offset in
    let above = c.in_ok-offset.ensures.above in
    let begun = Passed-start c.args.view marks numbers c.args.bound in
    record {
      above = omega arith;
      behind = omega arith;
      passed = elim c.in_ok-offset.ensures.some [
        | inl same ↦ subst (Passed c.args.view marks numbers c.args.bound) (sym same) begun
        | inr next ↦ Passed-next c.args.view marks numbers c.args.bound start offset begun next
      ];
      turns = elim c.if-offset-bound.branch [
        | then-offset-bound w ↦ rw (w.from-is, w.saturating_sub-from.ensures)
            (Turns-bound c.args.view marks numbers c.args.bound offset w.if-offset-bound.true)
        | else-offset-bound w ↦ let other = w.if-offset-bound.false in
            rw w.from-is (Turns-next c.args.view marks numbers c.args.bound offset (omega arith))
      ];
    }

pub returns-in-Some : goal.returns-in-Some
returns-in-Some g c =
    let i = c.loop-offset.invariant in
    IsFirst-found c.args.view (g.S.TextStore.content c.args.store.now).marks (numbers_of c.args.self.now.marks)
    c.args.bound c.loop-offset.offset c.loop-offset.from c.in-Some.place i.passed i.turns i.above
    c.loop-offset-test.true c.in-Some.ensures.first

pub returns-then-offset-view : goal.returns-then-offset-view
returns-then-offset-view g c =
    let marks = (g.S.TextStore.content c.args.store.now).marks in
    let numbers = numbers_of c.args.self.now.marks in
    let i = c.loop-offset.invariant in
    let last = c.if-offset-view.true in
    IsFirst-none c.args.view marks numbers c.args.bound (c.loop-offset.offset + 1)
    (Passed-more c.args.view marks numbers c.args.bound c.loop-offset.offset c.loop-offset.from i.passed i.turns
    (rw c.in_default.is at c.first_at.ensures.first)) (omega arith)

pub returns-in_err-offset : goal.returns-in_err-offset
returns-in_err-offset g c =
    let marks = (g.S.TextStore.content c.args.store.now).marks in
    let numbers = numbers_of c.args.self.now.marks in
    rw c.from_residual.ensures (IsFirst-no_next c.args.view marks numbers c.args.bound
    (max c.args.bound.place c.args.view.start) (Passed-start c.args.view marks numbers c.args.bound)
    (c.first_offset.ensures.none (c.in_err-offset.was {u = tt})))

pub returns-in_err-offset-2 : goal.returns-in_err-offset-2
returns-in_err-offset-2 g c =
    let marks = (g.S.TextStore.content c.args.store.now).marks in
    let numbers = numbers_of c.args.self.now.marks in
    let i = c.loop-offset.invariant in
    rw c.from_residual-in_err-offset-2.ensures
    (IsFirst-no_next c.args.view marks numbers c.args.bound (c.loop-offset.offset + 1)
    (Passed-more c.args.view marks numbers c.args.bound c.loop-offset.offset c.loop-offset.from i.passed i.turns
    (rw c.in_default.is at c.first_at.ensures.first))
    (sym c.next_mark.ensures.value ∙ c.in_err-offset-2.was {u = tt}))

pub loop-offset-preserved : goal.loop-offset-preserved
loop-offset-preserved g c =
    let marks = (g.S.TextStore.content c.args.store.now).marks in
    let numbers = numbers_of c.args.self.now.marks in
    let i = c.loop-offset.invariant in
    let behind = i.behind in
    let start = i.above in
    let above = c.in_ok-offset-2.ensures.above in
    record {
      above = omega arith;
      behind = omega arith;
      passed = Passed-next c.args.view marks numbers c.args.bound (c.loop-offset.offset + 1) c.in_ok-offset-2.offset
          (Passed-more c.args.view marks numbers c.args.bound c.loop-offset.offset c.loop-offset.from i.passed i.turns
          (rw c.in_default.is at c.first_at.ensures.first))
          (sym c.next_mark.ensures.value ∙ c.in_ok-offset-2.was {u = tt});
      turns = Turns-next c.args.view marks numbers c.args.bound c.in_ok-offset-2.offset (omega arith);
    }

pub returns : goal.returns
returns g c = IsFirst-none c.args.view (g.S.TextStore.content c.args.store.now).marks (numbers_of c.args.self.now.marks)
    c.args.bound c.loop-offset.offset c.loop-offset.invariant.passed c.loop-offset-test.false
