use Rattle.search_dump.proofs.Common.{part_of, shown, distance, Goes, map, string_bytes, take}
use Rattle.search_dump.proofs.counting.push_counts.Given as goal

abbrev pub invariant-loop-option : goal.invariant-loop-option
invariant-loop-option g l =
    Goes (string_bytes l.fn.list) (string_bytes l.list)
    (map (distance (shown (part_of l.view)) l.from l.to)
    (take l.option-index l.options))
