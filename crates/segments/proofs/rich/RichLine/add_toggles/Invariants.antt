use Rattle.segments.proofs.Common.{◌≡◌, drop, differing, any_of, odd_of}
use Rattle.std.specs.FinSet as set
use Rattle.segments.proofs.rich.RichLine.add_toggles.Given as goal

abbrev pub invariant-loop-entry : goal.invariant-loop-entry
invariant-loop-entry l = record {
  lines : l.sum.lines ≡ l.initial.sum.lines;
  characters : l.sum.characters ≡ l.initial.sum.characters;
  marks : l.sum.marks ≡ l.initial.sum.marks;
  parity : differing l.sum.parity (odd_of (drop l.entry-index l.entry-items))
      ≡ differing l.initial.sum.parity (odd_of l.entry-items);
  presence : set.union l.sum.presence (any_of (drop l.entry-index l.entry-items))
      ≡ set.union l.initial.sum.presence (any_of l.entry-items);
}
