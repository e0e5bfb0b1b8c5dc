use Rattle.line_tree.proofs.Common.{◌≤◌, ◌<◌, ◌*◌, ◌^◌, sym, subst}
use Rattle.line_tree.proofs.LevelLaws.{levels-log, low-levels}
use Rattle.line_tree.proofs.levels.levels.Goals as goal

pub returns-clause-value : goal.returns-clause-value
returns-clause-value c = let k = c.ilog.result in
    levels-log c.args.lines k c.ranges.lines.fits (subst (λ z. 6 ^ k ≤ z) c.max.ensures c.ilog.ensures.power_le)
    (subst (λ z. z < 6 * 6 ^ k) c.max.ensures c.ilog.ensures.next_power_gt)

pub returns-clause-low : goal.returns-clause-low
returns-clause-low c = subst (λ n. n ≤ 25) (sym (returns-clause-value c)) (low-levels c.args.lines)
