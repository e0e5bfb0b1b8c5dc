use Rattle.segments.proofs.Common.{◌≡◌, ◌<◌, ◌≤◌, length, set, take, drop, sym, ap, subst, ◌∙◌, arith, get_or_default}
use Rattle.segments.proofs.Common.{All, put, nat_cmp, Mark, Below, entries_of}
use Rattle.segments.proofs.MarkLaws.{above_end, above_other, put_marks, put_new, put_rise, put_same}
use Rattle.segments.proofs.marks.put_mark.Goals.{After-index_mut, In_ok-insert}
use Rattle.segments.proofs.marks.put_mark.Goals.{else-index-len-via-then-index-len+else-index-number}
use Rattle.segments.proofs.marks.put_mark.Goals.{else-index-len-via-else-index-len}
use Rattle.segments.proofs.marks.put_mark.Goals as goal

-- the mark of the number is there
replaced : (c : After-index_mut)
    → entries_of (set c.args.marks.now.items c.count_below-index.result
    (record { number = c.index_mut.result.now.number; place = c.args.place }))
    ≡ put nat_cmp c.args.number.0 c.args.place (entries_of c.args.marks.now.items)
replaced c =
    let old = c.args.marks.now in
    let index = c.count_below-index.result in
    let number = c.args.number.0 in
    let within : index < length old.items = omega (arith, c.if-index-len.true, c.len.ensures, old.ok.0) in
    let alike = c.index_mut.ensures.value
    ∙ get_or_default old.items index c.index_mut.result.now c.index.result.now within ∙ sym c.index.ensures in
    put_same old.items index c.index_mut.result.now number c.args.place within
    (subst (λ marks. All (Below number) (take index marks)) c.deref.ensures.value c.count_below-index.ensures.below)
    c.index_mut.ensures.value (ap (λ (mark : Mark). mark.number.0) alike ∙ c.if-index-number.true)

-- it is not
added : (c : In_ok-insert) → entries_of c.insert.new.self.items
    ≡ put nat_cmp c.args.number.0 c.args.place (entries_of c.args.marks.now.items)
added c =
    let old = c.args.marks.now in
    let index = c.count_below-index.result in
    let number = c.args.number.0 in
    let above = subst (λ marks. All (λ (mark : Mark). number ≤ mark.number.0) (take 1 (drop index marks)))
    c.deref.ensures.value c.count_below-index.ensures.above in
    ap entries_of c.in_ok-insert.ensures.items
    ∙ put_new old.items index (record { number = c.args.number; place = c.args.place })
    (subst (λ marks. All (Below number) (take index marks)) c.deref.ensures.value c.count_below-index.ensures.below)
    (elim c.else-index-len.branch as (λ b. All (λ (mark : Mark). number
    < mark.number.0) (take 1 (drop index old.items))) [
      | else-index-len-via-then-index-len+else-index-number w ↦ above_other old.items index number w.index.result.now
          w.index.ensures w.if-index-number.false above
      | else-index-len-via-else-index-len w ↦ above_end old.items index number
          (omega (arith, w.if-index-len.false, c.len.ensures, old.ok.0))
    ])

pub returns-then-index-number-clause-rise : goal.returns-then-index-number-clause-rise
returns-then-index-number-clause-rise c =
    put_rise c.args.marks.now.items _ c.args.number.0 c.args.place c.requires
    (replaced (goal.at.returns-then-index-number-clause-rise c).After-index_mut)

pub returns-then-index-number-clause-new : goal.returns-then-index-number-clause-new
returns-then-index-number-clause-new c =
    put_marks c.args.marks.now.items _ c.args.number.0 c.args.place c.requires
    (replaced (goal.at.returns-then-index-number-clause-new c).After-index_mut)

pub returns-clause-rise : goal.returns-clause-rise
returns-clause-rise c =
    put_rise c.args.marks.now.items c.insert.new.self.items c.args.number.0 c.args.place c.requires (added c)

pub returns-clause-new : goal.returns-clause-new
returns-clause-new c =
    put_marks c.args.marks.now.items c.insert.new.self.items c.args.number.0 c.args.place c.requires (added c)
