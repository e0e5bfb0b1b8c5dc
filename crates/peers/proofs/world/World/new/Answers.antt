use Rattle.peers.proofs.WorldLaws.{formed-none}
use Rattle.peers.proofs.world.World.new.Goals as goal

pub invariant_of-result : goal.invariant_of-result
invariant_of-result g c = formed-none c.args.limits c.new.result.list.items c.new.ensures c.chars-chars.ensures.bounds

pub returns-clause-well_formed : goal.returns-clause-well_formed
returns-clause-well_formed g c =
    formed-none c.args.limits c.new.result.list.items c.new.ensures c.chars-chars.ensures.bounds
