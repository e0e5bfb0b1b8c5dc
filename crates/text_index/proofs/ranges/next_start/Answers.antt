use Rattle.text_index.proofs.Common.{part_of, shown, ◌≡◌, true, false, refl, ltb-true, ltb-false, begins, shown_flags}
use Rattle.text_index.proofs.Common.{nat_lt}
use Rattle.text_index.proofs.ranges.next_start.Goals as goal

pub returns-clause-passed : goal.returns-clause-passed
returns-clause-passed g c = λ k low below.
    let view = c.args.view.now in
    let shown = shown_flags c.args.slot.0 (part_of view) in
    let from = c.behind_range-from.result in
    elim (nat_lt k from) as (λ b. nat_lt k from ≡ b → begins shown k ≡ false) [
      | true ↦ λ yes. c.behind_range-from.ensures.passed k low (ltb-true k from yes)
      | false ↦ λ no. c.start_behind-2.ensures.passed k (ltb-false k from no) below
    ] refl
