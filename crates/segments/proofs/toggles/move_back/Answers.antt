use Rattle.segments.proofs.Common.{set, sym, ap, ◌∙◌, map_over_more, Toggled, moved_back}
use Rattle.segments.proofs.toggles.move_back.Goals as goal

pub loop-entry-preserved : goal.loop-entry-preserved
loop-entry-preserved c =
    let toggles = c.loop-entry.toggles in
    let index = c.loop-entry.entry-index in
    ap (λ (e : Toggled). set toggles index (moved_back c.args.count e)) (sym c.entry-item.is)
    ∙ map_over_more (moved_back c.args.count) c.args.toggles.now toggles index c.entry-item.result
    c.loop-entry-test.true c.loop-entry.invariant c.entry-item.is
