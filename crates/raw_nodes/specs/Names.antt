-- The words of a store's contracts.
use Rattle.std.specs.Prelude.{◌≡◌, ℕ, ◌+◌, Option, None, IfSome, IsSome, length}
use Rattle.std.specs.FinMap as finite
use Rattle.raw_nodes.specs.Records.{Record, Records, records_in}
use Rattle.raw_nodes.specs.declared.names.NodePtr.{NodePtr}
use Rattle.raw_nodes.specs.declared.store.NodeStore.{NodeStore}
use Rattle.raw_nodes.specs.declared.ticks.Ticks.{Ghosts}

module _ {C : Type 0} {G : Ghosts C} where
  -- the map: from the name of each node in use to its record
  unfoldable pub records : NodeStore C G → Records
  records s = records_in s.heap.places s.heap.values

  -- how many spares there are
  abbrev pub spares : NodeStore C G → ℕ
  spares s = s.spares

  -- how many rooms for children there are beside them
  abbrev pub rooms : NodeStore C G → ℕ
  rooms s = length s.rooms.items

  -- how many nodes there are, spares and those in use
  abbrev pub nodes : NodeStore C G → ℕ
  nodes s = spares s + finite.len (records s)

  -- the record under a name
  abbrev pub entry : NodeStore C G → NodePtr → Option Record
  entry s p = finite.get (records s) p

  -- the name is that of a node in use
  abbrev pub IsName : NodeStore C G → NodePtr → Type 0
  IsName s p = IsSome (entry s p)

  -- the name is that of a node that is no line
  abbrev pub IsInner : NodeStore C G → NodePtr → Type 0
  IsInner s p = IsSome (entry s p) × IfSome (entry s p) (λ r. r.line ≡ None)
