use Rattle.segments.proofs.Common.{◌≡◌, ◌<◌, ◌≤◌, take, drop, ap, subst, ◌∙◌, arith, All, where_key, nat_cmp, Mark}
use Rattle.segments.proofs.Common.{Below, entries_of}
use Rattle.segments.proofs.MarkLaws.{above_end, above_other, other_than, take_marks, take_none, take_rise, take_same}
use Rattle.segments.proofs.marks.take_mark.Goals.{After-remove, else-index-len-via-then-index-len+else-index-number}
use Rattle.segments.proofs.marks.take_mark.Goals.{else-index-len-via-else-index-len}
use Rattle.segments.proofs.marks.take_mark.Goals as goal

taken : (c : After-remove) → entries_of c.remove.new.self.items
    ≡ where_key nat_cmp (other_than c.args.number.0) (entries_of c.args.marks.now.items)
taken c =
    let old = c.args.marks.now in
    let index = c.count_below-index.result in
    let number = c.args.number.0 in
    ap entries_of c.remove.ensures.items
    ∙ take_same old.items index c.index.result.now number c.requires
    (omega (arith, c.if-index-len.true, c.len.ensures, old.ok.0))
    (subst (λ marks. All (Below number) (take index marks)) c.deref.ensures.value c.count_below-index.ensures.below)
    c.index.ensures c.if-index-number.true

pub returns-then-index-number-clause-rise : goal.returns-then-index-number-clause-rise
returns-then-index-number-clause-rise c =
    take_rise c.args.marks.now.items c.remove.new.self.items c.args.number.0 c.requires (taken c)

pub returns-then-index-number-clause-new : goal.returns-then-index-number-clause-new
returns-then-index-number-clause-new c =
    take_marks c.args.marks.now.items c.remove.new.self.items c.args.number.0 c.requires (taken c)

pub returns-else-index-len-clause-new : goal.returns-else-index-len-clause-new
returns-else-index-len-clause-new c =
    let old = c.args.marks.now in
    let index = c.count_below-index.result in
    let number = c.args.number.0 in
    let above = subst (λ marks. All (λ (mark : Mark). number ≤ mark.number.0) (take 1 (drop index marks)))
    c.deref.ensures.value c.count_below-index.ensures.above in
    take_marks old.items old.items number c.requires
    (take_none old.items index number c.requires
    (subst (λ marks. All (Below number) (take index marks)) c.deref.ensures.value c.count_below-index.ensures.below)
    (elim c.else-index-len.branch as (λ b. All (λ (mark : Mark). number
    < mark.number.0) (take 1 (drop index old.items))) [
      | else-index-len-via-then-index-len+else-index-number w ↦ above_other old.items index number w.index.result.now
          w.index.ensures w.if-index-number.false above
      | else-index-len-via-else-index-len w ↦ above_end old.items index number
          (omega (arith, w.if-index-len.false, c.len.ensures, old.ok.0))
    ]))
