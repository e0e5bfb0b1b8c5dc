use Rattle.line_lists.proofs.Common.{◌≡◌, ◌<◌, ◌≤◌, [], Some, ap, subst, sym, ◌∙◌, arith, All, MarkNo, Place}
use Rattle.std.specs.Option.{option_map}
use Rattle.line_lists.proofs.FreedLaws.{all-numbers, number-there, numbers-more}
use Rattle.line_lists.proofs.GatherLaws.{bound-more}
use Rattle.std.specs.FinMap as finite
use Rattle.line_lists.proofs.pieces.bound_with.Goals as goal

pub unwrap-requires : goal.unwrap-requires
unwrap-requires c =
    number-there c.args.line.now c.loop-index.index c.mark.result
    (omega (arith, c.loop-index-test.true, c.marks-index-end.ensures)) c.mark.ensures.value

pub loop-index-preserved : goal.loop-index-preserved
loop-index-preserved c =
    let line = c.args.line.now in
    let found : Some (c.unwrap.result.0.0, c.unwrap.result.1) ≡ _ =
    ap (option_map (λ (mark : MarkNo × Place). (mark.0.0, mark.1))) (sym c.unwrap.ensures) ∙ c.mark.ensures.value in (
      omega (arith, c.loop-index.invariant.0, c.max-bound.ensures),
      subst (All (λ n. n < c.max-bound.result))
          (sym (numbers-more line [] c.loop-index.index c.unwrap.result.0.0 c.unwrap.result.1 found))
          (bound-more _ c.loop-index.bound c.max-bound.result c.unwrap.result.0.0 (omega (arith, c.max-bound.ensures))
          (omega (arith, c.max-bound.ensures)) c.loop-index.invariant.1),
    )

pub returns-clause-above : goal.returns-clause-above
returns-clause-above c =
    let end : finite.len c.args.line.now.marks ≤ c.loop-index.index = omega (
      arith,
      c.loop-index-test.false,
      c.loop-index.auto.index-end,
      c.marks-index-end.ensures,
    ) in
    subst (All (λ n. n < c.loop-index.bound)) (all-numbers c.args.line.now c.loop-index.index end)
    c.loop-index.invariant.1
