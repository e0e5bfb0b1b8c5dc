use Rattle.search_dump.proofs.Common.{subst, AreBehind, IsNearest}
use Rattle.search_dump.proofs.dumping.next_turn.Goals as goal

pub returns-clause-found : goal.returns-clause-found
returns-clause-found g c _ =
    let next = c.pass.new.self.next.items in
    let rows = c.pass.ensures.ahead.rows in
    record {
      rows = rows;
      known = c.pass.ensures.known;
      nearest = subst (λ count. IsNearest next count c.args.to c.nearest.result.place) rows c.nearest.ensures.nearest;
      apart = subst (λ count. AreBehind c.nearest.result.rows next count c.nearest.result.place) rows
          c.nearest.ensures.apart;
    }
