use Rattle.mark_table.proofs.Common.{length, sym, ◌∙◌, arith, length-map, slice_get_within, marks_at, Mark, numbers_of}
use Rattle.mark_table.proofs.StoreLaws.{mark_at_index}
use Rattle.mark_table.proofs.OneOffset.{Found-more, Least-more, IsFirstAt-all, first-here, none-behind, none-more}
use Rattle.mark_table.proofs.marks.MarkTable.first_at.Goals as goal

pub overflow_add-index : goal.overflow_add-index
overflow_add-index g c =
    let low = mark_at_index c.args.offset c.loop-number.index (g.S.TextStore.content c.args.store.now).marks
    c.in-Some.number (sym c.mark_at-in-loop-number.ensures ∙ c.in-Some.is) in
    let small = c.place_from.ensures.fits in
    omega arith

pub loop-number-smaller : goal.loop-number-smaller
loop-number-smaller g c =
    let within = slice_get_within (marks_at c.args.offset (g.S.TextStore.content c.args.store.now).marks)
    c.loop-number.index c.in-Some.number (sym c.mark_at-in-loop-number.ensures ∙ c.in-Some.is) in
    omega arith

pub loop-number-preserved : goal.loop-number-preserved
loop-number-preserved g c =
    let at = marks_at c.args.offset (g.S.TextStore.content c.args.store.now).marks in
    let numbers = numbers_of c.args.self.now.marks in
    let i = c.loop-number.invariant in
    let p = c.place_from.ensures in
    let is = sym c.mark_at-in-loop-number.ensures ∙ c.in-Some.is in
    let within = i.within in
    rw c.min-first.ensures (record {
      within = omega arith;
      found = Found-more at numbers c.args.from (length c.args.self.now.marks) c.loop-number.first c.place_from.result
          c.loop-number.index c.in-Some.number is i.found p.found;
      least = Least-more at numbers c.args.from c.loop-number.first c.place_from.result c.loop-number.index
          c.in-Some.number is i.least p.least;
      reached = (let low = i.reached in omega arith);
      none = none-more at numbers c.args.from c.loop-number.place i.none (c.stands_at.ensures.no c.if-stands_at.false);
    })

pub returns-clause-first : goal.returns-clause-first
returns-clause-first g c =
    let at = marks_at c.args.offset (g.S.TextStore.content c.args.store.now).marks in
    let numbers = numbers_of c.args.self.now.marks in
    let i = c.loop-number.invariant in
    let len = c.len-len.ensures.value in
    rw (c.then_some.ensures, len) (IsFirstAt-all at numbers c.args.from (length c.args.self.now.marks)
    c.loop-number.first c.loop-number.index (length-map c.args.self.now.marks (λ (m : Mark). m.number))
    (sym c.mark_at-in-loop-number.ensures ∙ c.in_default.is) i.within i.found i.least)

pub returns-then-place-len-clause-first : goal.returns-then-place-len-clause-first
returns-then-place-len-clause-first g c =
    let at = marks_at c.args.offset (g.S.TextStore.content c.args.store.now).marks in
    let numbers = numbers_of c.args.self.now.marks in
    let len = c.len-len.ensures.value in
    let past = c.if-place-len.true in
    none-behind at numbers c.args.from (length c.args.self.now.marks) c.loop-number.place
    (length-map c.args.self.now.marks (λ (m : Mark). m.number)) (omega (arith, len, past)) c.loop-number.invariant.none

pub returns-then-stands_at-clause-first : goal.returns-then-stands_at-clause-first
returns-then-stands_at-clause-first g c =
    let at = marks_at c.args.offset (g.S.TextStore.content c.args.store.now).marks in
    let i = c.loop-number.invariant in
    first-here at (numbers_of c.args.self.now.marks) c.args.from c.loop-number.place i.reached i.none
    (c.stands_at.ensures.yes c.if-stands_at.true)
