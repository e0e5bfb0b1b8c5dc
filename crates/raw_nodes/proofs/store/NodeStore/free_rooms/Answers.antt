use Rattle.raw_nodes.proofs.Common.{refl}
use Rattle.raw_nodes.specs.Names.{records}
use Rattle.raw_nodes.proofs.store.NodeStore.free_rooms.Goals as goal

pub returns-clause-records : goal.returns-clause-records
unfolding records
returns-clause-records g c = refl
