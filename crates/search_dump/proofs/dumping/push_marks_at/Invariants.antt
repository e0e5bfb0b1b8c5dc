use Rattle.search_dump.proofs.Common.{◌+◌, length, numbers_of, outlook, string_bytes, option_map, shown_of}
use Rattle.search_dump.proofs.MarkOrderLaws.{AreListed, marks_left}
use Rattle.search_dump.proofs.dumping.push_marks_at.Given as goal

abbrev pub invariant-loop-next : goal.invariant-loop-next
invariant-loop-next g l =
    let view = l.sight.view.now in
    AreListed (outlook l.sight) l.spot.place l.is_listed (string_bytes l.fn.out.list) (string_bytes l.out.list)
    (option_map (shown_of view.start) l.next)

abbrev pub decreases-loop-next : goal.decreases-loop-next
decreases-loop-next g l =
    let view = l.sight.view.now in
    marks_left (2 + length (numbers_of (outlook l.sight).marks)) (view.start + l.spot.place)
    (option_map (shown_of view.start) l.next)
