use Rattle.reports.proofs.Common.{map, filter, is_shared, key_pairs, seat_pair, tag_pair}
use Rattle.reports.proofs.KeyRunLaws.{runs-empty, runs-then}
use Rattle.reports.proofs.tag_runs.push_runs.Goals as goal

pub returns-then-is_empty : goal.returns-then-is_empty
returns-then-is_empty c = λ rising.
    runs-empty (key_pairs c.args.seats.now.entries c.args.tags.now.tags) c.args.on c.args.runs.now
    c.slots_in-slots.result c.args.told.now c.slots_in-slots.ensures (c.is_empty.ensures.none c.if-is_empty.true)

pub returns : goal.returns
returns c = λ rising.
    runs-then (map seat_pair c.args.seats.now.entries) (map tag_pair (filter is_shared c.args.tags.now.tags)) c.args.on
    c.args.runs.now c.args.told.now c.push_selections.new.told c.push_tags.new.told
    (c.in_ok-push_selections.ensures rising) (c.in_ok-push_tags.ensures rising)
