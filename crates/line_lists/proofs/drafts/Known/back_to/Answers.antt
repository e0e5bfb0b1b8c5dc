use Rattle.line_lists.proofs.Common.{◌≡◌, ◌+◌, ◌-◌, ◌<◌, length, arith, refl, slice_get_read}
use Rattle.line_lists.proofs.KnownLaws.{known-back, stop-there}
use Rattle.line_lists.proofs.drafts.Known.back_to.Goals as goal

pub turn_slots-requires-clause-there : goal.turn_slots-requires-clause-there
turn_slots-requires-clause-there g c =
    let stops = c.args.stops.now in
    let count = c.loop-self.self.count - 1 in
    let few = c.loop-self.invariant.known.few in
    let within : count < length stops = omega (arith, c.loop-self-test.true, few) in
    stop-there (g.L.LineList.lines c.args.list.now) stops count c.index-stops-self.result c.requires.stops
    c.requires.there (slice_get_read stops (length stops) count c.index-stops-self.result refl within
    c.index-stops-self.is)

pub loop-self-preserved : goal.loop-self-preserved
loop-self-preserved g c =
    let stops = c.args.stops.now in
    let count = c.loop-self.self.count - 1 in
    let stop = c.index-stops-self.result in
    let few = c.loop-self.invariant.known.few in
    let within : count < length stops = omega (arith, c.loop-self-test.true, few) in
    let next : c.loop-self.self.count ≡ count + 1 = omega (arith, c.loop-self-test.true) in
    record {
      known = known-back (g.L.LineList.lines c.args.list.now) stops c.loop-self.self
          (record { count = count; tags = c.turn_slots.new.slots; before = c.turn_slots.new.before }) stop
          c.requires.stops c.loop-self.invariant.known
          (slice_get_read stops (length stops) count stop refl within c.index-stops-self.is) next
          c.turn_slots.ensures.turned c.turn_slots.ensures.before;
      least = omega (arith, c.loop-self-test.true);
      most = omega (arith, c.loop-self.invariant.most);
    }
