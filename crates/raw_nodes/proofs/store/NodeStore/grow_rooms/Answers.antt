use Rattle.raw_nodes.proofs.Common.{refl}
use Rattle.raw_nodes.specs.Names.{records}
use Rattle.raw_nodes.proofs.store.NodeStore.grow_rooms.Goals as goal

pub returns-clause-records : goal.returns-clause-records
unfolding records
returns-clause-records g c = refl

pub returns-in_err-reserve-clause-records : goal.returns-in_err-reserve-clause-records
unfolding records
returns-in_err-reserve-clause-records g c = refl

pub returns-in_err-room-clause-records : goal.returns-in_err-room-clause-records
unfolding records
returns-in_err-room-clause-records g c = refl
