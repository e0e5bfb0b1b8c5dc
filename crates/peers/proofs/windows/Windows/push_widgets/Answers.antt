use Rattle.peers.proofs.Common.{◌<◌, length, map, ap, ◌∙◌, arith, chars, home_kept}
use Rattle.peers.proofs.HomeLaws.{homes-next}
use Rattle.peers.proofs.windows.Windows.push_widgets.Goals as goal

pub loop-seat-preserved : goal.loop-seat-preserved
loop-seat-preserved g c =
    let document = c.args.document.now in
    let within : c.loop-seat.seat < length document.widgets = omega (
      arith,
      c.loop-seat-test.true,
      c.widget_count-seat-end.ensures,
    ) in
    homes-next c.loop-seat.self-inside.homes.items c.push.new.self.items c.in_ok-name.name c.args.place
    c.loop-seat.seat document (map home_kept c.self.inside.homes.items) within
    (ap chars c.in_ok-name.ensures.ok ∙ c.widget_name.ensures) c.in_ok-push.ensures.items c.loop-seat.invariant
