use Rattle.search_dump.proofs.Common.{part_of, shown, arith, map, string_bytes, subst, get_or_default, take_all, Goes}
use Rattle.search_dump.proofs.Common.{goes_mapped, goes_nowhere, distance}
use Rattle.search_dump.proofs.counting.push_counts.Goals as goal

pub loop-option-init : goal.loop-option-init
loop-option-init g c = goes_nowhere (string_bytes c.args.list.now)

pub loop-option-preserved : goal.loop-option-preserved
loop-option-preserved g c =
    goes_mapped (distance (shown (part_of c.args.view.now)) c.args.from c.args.to)
    (string_bytes c.args.list.now) (string_bytes c.loop-option.list) (string_bytes c.push_count.new.list)
    c.args.options.now c.loop-option.option-index _ c.loop-option-test.true
    (get_or_default c.args.options.now c.loop-option.option-index _ _ c.loop-option-test.true)
    c.loop-option.invariant c.in_ok-push_count.ensures

pub returns : goal.returns
returns g c =
    let each = distance (shown (part_of c.args.view.now)) c.args.from c.args.to in
    subst (λ options. Goes (string_bytes c.args.list.now) (string_bytes c.loop-option.list) (map each options))
    (take_all c.loop-option.option-index c.args.options.now (omega (arith, c.loop-option-test.false)))
    c.loop-option.invariant
