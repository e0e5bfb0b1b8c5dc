use Rattle.segments.proofs.Common.{set, sym, ap, ◌∙◌, map_over_more, Toggled, moved_on}
use Rattle.segments.proofs.toggles.move_on.Goals as goal

pub loop-entry-preserved : goal.loop-entry-preserved
loop-entry-preserved c =
    let toggles = c.loop-entry.toggles in
    let index = c.loop-entry.entry-index in
    ap (λ (e : Toggled). set toggles index (moved_on c.args.count e)) (sym c.entry-item.is)
    ∙ map_over_more (moved_on c.args.count) c.args.toggles.now toggles index c.entry-item.result c.loop-entry-test.true
    c.loop-entry.invariant c.entry-item.is
