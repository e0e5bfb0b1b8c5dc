use Rattle.raw_nodes.specs.Names.{records}
use Rattle.raw_nodes.proofs.MapLaws.{none_of}
use Rattle.raw_nodes.proofs.store.NodeStore.new.Goals as goal

pub returns-clause-records : goal.returns-clause-records
unfolding records
returns-clause-records g c = none_of c.new.result.places _ c.new.ensures.0
