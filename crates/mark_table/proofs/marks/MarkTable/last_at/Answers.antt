use Rattle.mark_table.proofs.Common.{sym, ◌∙◌, arith, inl, inr, cases_lt, length-map, slice_get_within, marks_at, Mark}
use Rattle.mark_table.proofs.Common.{numbers_of}
use Rattle.mark_table.proofs.StoreLaws.{mark_at_index}
use Rattle.mark_table.proofs.OneOffset.{FoundBack-more, Greatest-all, Greatest-more, last-here, last_within}
use Rattle.mark_table.proofs.OneOffset.{none-before}
use Rattle.mark_table.proofs.marks.MarkTable.last_at.Goals as goal

pub overflow_add-index : goal.overflow_add-index
overflow_add-index g c =
    let low = mark_at_index c.args.offset c.loop-number.index (g.S.TextStore.content c.args.store.now).marks
    c.in-Some.number (sym c.mark_at-in-loop-number.ensures ∙ c.in-Some.is) in
    let small = c.places_before.ensures.fits in
    omega arith

pub loop-number-smaller : goal.loop-number-smaller
loop-number-smaller g c =
    let within = slice_get_within (marks_at c.args.offset (g.S.TextStore.content c.args.store.now).marks)
    c.loop-number.index c.in-Some.number (sym c.mark_at-in-loop-number.ensures ∙ c.in-Some.is) in
    omega arith

pub loop-number-preserved : goal.loop-number-preserved
loop-number-preserved g c =
    let at = marks_at c.args.offset (g.S.TextStore.content c.args.store.now).marks in
    let numbers = numbers_of c.args.self.now.marks in
    let i = c.loop-number.invariant in
    let p = c.places_before.ensures in
    let is = sym c.mark_at-in-loop-number.ensures ∙ c.in-Some.is in
    let one = c.in_ok-place.ensures.0 in let less = c.in_ok-place.ensures.1 in
    rw c.max-places.ensures (record {
      found = FoundBack-more at numbers c.args.upto c.loop-number.places c.places_before.result c.loop-number.index
          c.in-Some.number is i.found p.found;
      greatest = Greatest-more at numbers c.args.upto c.loop-number.places c.places_before.result c.loop-number.index
          c.in-Some.number is i.greatest p.greatest;
      none = none-before at numbers c.loop-number.near c.in_ok-place.place c.args.upto (omega (arith, one, less)) i.none
          (c.stands_at.ensures.no c.if-stands_at.false);
      short = (let short = i.short in omega (arith, short, one, less));
      under = (let under = i.under in omega (arith, under, one, less));
    })

pub returns-clause-last : goal.returns-clause-last
returns-clause-last g c =
    let at = marks_at c.args.offset (g.S.TextStore.content c.args.store.now).marks in
    let i = c.loop-number.invariant in
    Greatest-all at (numbers_of c.args.self.now.marks) c.args.upto c.loop-number.places c.loop-number.index
    c.checked_sub-2.result c.checked_sub-2.ensures (sym c.mark_at-in-loop-number.ensures ∙ c.in_default.is) i.found i.greatest

pub returns-clause-small : goal.returns-clause-small
returns-clause-small g c =
    let at = marks_at c.args.offset (g.S.TextStore.content c.args.store.now).marks in
    let i = c.loop-number.invariant in
    let room = c.len.ensures.sound.room in
    let few = c.len.ensures.sound.limit in
    let count = length-map c.args.self.now.marks (λ (m : Mark). m.number) in
    last_within at (numbers_of c.args.self.now.marks) c.args.upto 4096 c.checked_sub-2.result (omega arith)
    (Greatest-all at (numbers_of c.args.self.now.marks) c.args.upto c.loop-number.places c.loop-number.index
    c.checked_sub-2.result c.checked_sub-2.ensures (sym c.mark_at-in-loop-number.ensures ∙ c.in_default.is) i.found i.greatest)

pub returns-in_err-place-clause-last : goal.returns-in_err-place-clause-last
returns-in_err-place-clause-last g c = let i = c.loop-number.invariant in
    rw c.from_residual-in_err-place.ensures (λ place below. elim (cases_lt 0 c.loop-number.near) [
      | inl some ↦ absurd (c.in_err-place.ensures some)
      | inr none ↦ i.none place (omega (arith, none)) below
    ])

pub returns-then-stands_at-clause-last : goal.returns-then-stands_at-clause-last
returns-then-stands_at-clause-last g c =
    let at = marks_at c.args.offset (g.S.TextStore.content c.args.store.now).marks in
    let i = c.loop-number.invariant in
    let one = c.in_ok-place.ensures.0 in let less = c.in_ok-place.ensures.1 in
    last-here at (numbers_of c.args.self.now.marks) c.loop-number.near c.in_ok-place.place c.args.upto
    (omega (arith, one, less)) i.short i.none
    (c.stands_at.ensures.yes c.if-stands_at.true)
