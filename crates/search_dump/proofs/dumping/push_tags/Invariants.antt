use Rattle.search_dump.proofs.Common.{part_of, shown, chars, string_bytes, take, flat_map, Goes, only_in}
use Rattle.search_dump.proofs.dumping.push_tags.Given as goal

abbrev pub invariant-loop-at : goal.invariant-loop-at
invariant-loop-at g l =
    Goes (string_bytes l.fn.out.list) (string_bytes l.out.list)
    (flat_map (only_in l.sides.on.now l.sides.off.now l.sight.names.now.widget.0 (chars l.key)
    (shown (part_of l.sight.view.now)) l.spot.place) (take l.at l.sight.names.now.tags.now.tags))
