use Rattle.name_list.proofs.Common.{arith}
use Rattle.name_list.proofs.PlaceLaws.{within_index}
use Rattle.name_list.proofs.ViewLaws.{numbers_seen}
use Rattle.name_list.proofs.names.NameList.number_bound.Goals as goal

pub returns : goal.returns
returns c = rw (← c.self.view_is) (rw numbers_seen (λ place number is.
    let within = within_index _ c.self.inside.places.items c.self.invariant.index place number is in
    omega (arith, c.self.inside.places.ok.0)))
