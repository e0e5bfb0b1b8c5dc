use Rattle.line_lists.proofs.Common.{◌<◌, ◌+◌, length, arith, refl, slice_get_read}
use Rattle.line_lists.proofs.KnownLaws.{known-forth, stop-there}
use Rattle.line_lists.proofs.drafts.Known.forth_to.Goals as goal

pub turn_slots-requires-clause-there : goal.turn_slots-requires-clause-there
turn_slots-requires-clause-there g c =
    let stops = c.args.stops.now in
    let count = c.loop-self.self.count in
    let within : count < length stops = omega (arith, c.loop-self-test.true, c.requires.within) in
    stop-there (g.L.LineList.lines c.args.list.now) stops count c.index-stops-self.result c.requires.stops
    c.requires.there (slice_get_read stops (length stops) count c.index-stops-self.result refl within
    c.index-stops-self.is)

pub loop-self-preserved : goal.loop-self-preserved
loop-self-preserved g c =
    let stops = c.args.stops.now in
    let count = c.loop-self.self.count in
    let stop = c.index-stops-self.result in
    let within : count < length stops = omega (arith, c.loop-self-test.true, c.requires.within) in
    record {
      known = known-forth (g.L.LineList.lines c.args.list.now) stops c.loop-self.self
          (record { count = count + 1; tags = c.turn_slots.new.slots; before = c.turn_slots.new.before }) stop
          c.requires.stops c.loop-self.invariant.known
          (slice_get_read stops (length stops) count stop refl within c.index-stops-self.is) refl
          c.turn_slots.ensures.turned c.turn_slots.ensures.before;
      least = omega (arith, c.loop-self.invariant.least);
      most = omega (arith, c.loop-self-test.true);
    }
