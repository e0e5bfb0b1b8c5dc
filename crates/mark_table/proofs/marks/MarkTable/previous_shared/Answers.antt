use Rattle.mark_table.proofs.Common.{sym, ◌∙◌, arith, length-map, Mark, numbers_of}
use Rattle.mark_table.proofs.SharedWalk.{Ahead-start, TurnsBack-bound, TurnsBack-previous, Ahead-previous, IsLast-found}
use Rattle.mark_table.proofs.SharedWalk.{IsLast-none, IsLast-no_previous}
use Rattle.mark_table.proofs.marks.MarkTable.previous_shared.Goals.{then-offset-bound, else-offset-bound}
use Rattle.mark_table.proofs.marks.MarkTable.previous_shared.Goals as goal

pub loop-offset-init : goal.loop-offset-init
loop-offset-init g c =
    let marks = (g.S.TextStore.content c.args.store.now).marks in
    let numbers = numbers_of c.args.self.now.marks in
    let least = c.min-offset.ensures in
    let count = length-map c.args.self.now.marks (λ (m : Mark). m.number) ∙ sym c.len-len.ensures.value in
    record {
      below = omega arith;
      before = omega arith;
      ahead = rw least (Ahead-start c.args.view marks numbers c.args.bound);
      turns = elim c.if-offset-bound.branch [
        | then-offset-bound w ↦ rw (w.upto-is, w.saturating_sub-upto.ensures)
            (TurnsBack-bound c.args.view marks numbers c.args.bound c.min-offset.result w.if-offset-bound.true)
        | else-offset-bound w ↦ let other = w.if-offset-bound.false in
            rw w.upto-is (TurnsBack-previous c.args.view marks numbers c.args.bound c.min-offset.result c.len-len.result
            count (omega arith))
      ];
    }

pub returns-in-Some : goal.returns-in-Some
returns-in-Some g c =
    let i = c.loop-offset.invariant in
    IsLast-found c.args.view (g.S.TextStore.content c.args.store.now).marks (numbers_of c.args.self.now.marks)
    c.args.bound c.loop-offset.offset c.loop-offset.upto c.in-Some.place i.ahead i.turns c.loop-offset-test.true
    i.below c.in-Some.ensures.last

pub returns-in_err-offset : goal.returns-in_err-offset
returns-in_err-offset g c =
    let i = c.loop-offset.invariant in
    rw c.from_residual.ensures (IsLast-no_previous c.args.view (g.S.TextStore.content c.args.store.now).marks
    (numbers_of c.args.self.now.marks) c.args.bound c.loop-offset.offset c.loop-offset.upto i.ahead i.turns
    (rw c.in_default.is at c.last_at.ensures.last)
    (sym c.previous_mark.ensures.value ∙ c.in_err-offset.was {u = tt}))

pub loop-offset-preserved : goal.loop-offset-preserved
loop-offset-preserved g c =
    let marks = (g.S.TextStore.content c.args.store.now).marks in
    let numbers = numbers_of c.args.self.now.marks in
    let i = c.loop-offset.invariant in
    let end = i.below in
    let before = i.before in
    let below = c.in_ok-offset.ensures.below in
    let count = length-map c.args.self.now.marks (λ (m : Mark). m.number) ∙ sym c.len-len.ensures.value in
    record {
      below = omega arith;
      before = omega arith;
      ahead = Ahead-previous c.args.view marks numbers c.args.bound c.loop-offset.offset c.loop-offset.upto
          c.in_ok-offset.offset i.ahead i.turns (rw c.in_default.is at c.last_at.ensures.last)
          (sym c.previous_mark.ensures.value ∙ c.in_ok-offset.was {u = tt});
      turns = TurnsBack-previous c.args.view marks numbers c.args.bound c.in_ok-offset.offset c.len-len.result count
          (omega arith);
    }

pub returns : goal.returns
returns g c = IsLast-none c.args.view (g.S.TextStore.content c.args.store.now).marks (numbers_of c.args.self.now.marks)
    c.args.bound c.loop-offset.offset c.loop-offset.invariant.ahead c.loop-offset-test.false
