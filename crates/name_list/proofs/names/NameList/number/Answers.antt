use Rattle.name_list.proofs.Common.{◌<◌, arith}
use Rattle.name_list.proofs.PlaceLaws.{within_index}
use Rattle.name_list.proofs.ViewLaws.{numbers_seen}
use Rattle.name_list.proofs.names.NameList.number.Goals as goal

pub returns-clause-value : goal.returns-clause-value
returns-clause-value c = rw (← c.self.view_is) (rw numbers_seen c.index.ensures)

pub returns-clause-below : goal.returns-clause-below
returns-clause-below c =
    let inside = c.self.inside in
    let within = within_index _ inside.places.items c.self.invariant.index c.args.place c.index.result.now c.index.ensures
    in
    let few = c.self.invariant.few in
    rw (← c.self.view_is) (let below : c.index.result.now < inside.limit = omega arith in below)
