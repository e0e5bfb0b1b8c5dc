use Rattle.search_dump.proofs.Common.{part_of, shown, distance, goes_all, map, string_bytes}
use Rattle.search_dump.proofs.counting.list_counts.Goals as goal

pub returns : goal.returns
returns g c =
    goes_all (string_bytes c.new-list.result) (string_bytes c.push_counts.new.list)
    (map (distance (shown (part_of c.args.view.now))
    c.args.from c.args.to) c.args.options.now)
    c.new-list.ensures.bytes c.in_ok-push_counts.ensures
