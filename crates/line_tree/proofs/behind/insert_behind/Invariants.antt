use Rattle.line_tree.proofs.Common.{◌≡◌, ◌≤◌, records, rooms, spares}
use Rattle.line_tree.proofs.BehindLaws.{Climbs}
use Rattle.std.specs.FinMap as finite
use Rattle.line_tree.proofs.behind.insert_behind.Given as goal

abbrev pub invariant-loop-level : goal.invariant-loop-level
invariant-loop-level g l = record {
  climbs : Climbs (records l.fn.store) (records l.store) l.fn.height l.fn.root l.fn.k l.fn.added.line l.level l.at;
  within : l.level ≤ l.fn.height;
  len : finite.len (records l.store) ≡ finite.len (records l.fn.store);
  spares : spares l.store ≡ spares l.fn.store;
  rooms : rooms l.store ≡ rooms l.fn.store;
}
