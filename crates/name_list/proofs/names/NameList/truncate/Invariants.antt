use Rattle.name_list.proofs.Common.{◌≡◌, ◌≤◌, length, take, min}
use Rattle.name_list.proofs.names.NameList.truncate.Given as goal

abbrev pub invariant-loop-self : goal.invariant-loop-self
invariant-loop-self l = record {
  front : l.self.entries ≡ take (length l.self.entries) l.fn.self.entries;
  short : length l.self.entries ≤ length l.fn.self.entries;
  long : min l.len (length l.fn.self.entries) ≤ length l.self.entries;
  limit : l.self.limit ≡ l.fn.self.limit;
}

abbrev pub decreases-loop-self : goal.decreases-loop-self
decreases-loop-self l = length l.self.entries
