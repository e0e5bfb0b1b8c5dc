-- What becomes of a store once a borrow of a line ends.
use Rattle.std.specs.Prelude.{◌≡◌, OnSome, Option}
use Rattle.std.specs.Borrow.{LendsSo, MutBor, Fml, RattleType}
use Rattle.segments.specs.Columns.{LineContent}
use Rattle.segments.specs.contracts.line.Line as line
use Rattle.raw_nodes.specs.Names.{records, rooms, spares}
use Rattle.raw_nodes.specs.Records.{update, with_line}
use Rattle.raw_nodes.specs.declared.names.NodePtr.{NodePtr}
use Rattle.raw_nodes.specs.declared.store.NodeStore.{NodeStore}
use Rattle.raw_nodes.specs.declared.ticks.Ticks.{Ghosts}
use Rattle.raw_nodes.specs.contracts.store.NodeStore.{the_row}

-- t is s with w as the line under the name
pub record WroteLine {C : Type 0} {G : Ghosts C} (s t : NodeStore C G) (p : NodePtr) (w : LineContent) : Type 0 where
  pub records : records t ≡ update (records s) p (λ r. with_line r w)
  pub spares : spares t ≡ spares s
  pub rooms : rooms t ≡ rooms s

abbrev pub LendsLine : (R : RattleType) (G : Ghosts R.Denot) → MutBor (NodeStore R.Denot G) → NodePtr
    → Option (MutBor LineContent) → Fml
LendsLine R G s p r =
    LendsSo (the_row R G) line.the_row s r (λ n w. OnSome r (WroteLine s.now n p w)) (λ n. n ≡ s.now)
