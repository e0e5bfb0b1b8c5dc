use Rattle.segments.proofs.Common.{◌≡◌, suc, ◌-◌, ◌*◌, take, sym, ap, subst, ◌∙◌, arith, WORDS, LieIn, previous_entry}
use Rattle.segments.proofs.EntryLaws.{RiseIn-low}
use Rattle.segments.proofs.PreviousLaws.{RiseIn-less, previous_front, previous_last, previous_less}
use Rattle.segments.proofs.toggles.previous_toggle.Goals as goal

pub loop-index-init : goal.loop-index-init
loop-index-init c = (
  c.count_before-index.ensures.bound,
  λ from to lie. (
    c.count_before-index.ensures.before from to lie,
    previous_front c.args.slot.0 c.args.column to c.count_before-index.result c.args.toggles.now
        (c.count_before-index.ensures.behind 0 to
        (RiseIn-low (WORDS * from) (WORDS * 0) (WORDS * to) c.args.toggles.now lie (omega arith)) (omega arith)),
  ),
)

pub returns-then-has : goal.returns-then-has
returns-then-has c = λ from to lie.
    let toggles = c.args.toggles.now in
    let index = c.loop-index.index in
    let next : index ≡ suc (index - 1) = omega (arith, c.loop-index-test.true) in
    let kept = c.loop-index.invariant.1 from to lie in
    sym (kept.1
    ∙ ap (λ n. previous_entry c.args.slot.0 c.args.column (take n toggles)) next
    ∙ previous_last c.args.slot.0 c.args.column (WORDS * from) (index - 1) toggles c.index-toggles-index-then-has.result
    c.index-toggles-index.result
    (subst (λ n. LieIn from c.args.column (take n toggles)) next kept.0) (omega (arith, next, c.loop-index.invariant.0))
    (sym c.has.ensures ∙ c.if-has.true))

pub loop-index-preserved : goal.loop-index-preserved
loop-index-preserved c = (
  omega (arith, c.loop-index.invariant.0),
  λ from to lie.
      let toggles = c.args.toggles.now in
      let index = c.loop-index.index in
      let next : index ≡ suc (index - 1) = omega (arith, c.loop-index-test.true) in
      let kept = c.loop-index.invariant.1 from to lie in
      let has = sym c.has.ensures ∙ c.if-has.false in (
        RiseIn-less (WORDS * from) (WORDS * c.args.column) (index - 1) toggles
            (subst (λ n. LieIn from c.args.column (take n toggles)) next kept.0),
        kept.1
            ∙ ap (λ n. previous_entry c.args.slot.0 c.args.column (take n toggles)) next
            ∙ previous_less c.args.slot.0 c.args.column (index - 1) toggles c.index-toggles-index.result
            (omega (arith, next, c.loop-index.invariant.0)) has,
      ),
)
