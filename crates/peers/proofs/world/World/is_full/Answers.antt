use Rattle.peers.proofs.Common.{ap₂, arith, nat_le}
use Rattle.peers.proofs.world.World.is_full.Goals as goal

pub widget_count-requires : goal.widget_count-requires
widget_count-requires g c = omega (arith, c.self.invariant.widget_count, c.self.invariant.limits.widgets)

pub returns : goal.returns
returns g c = rw (← c.self.view_is) (ap₂ nat_le c.widgets.ensures.value c.widget_count.ensures)
