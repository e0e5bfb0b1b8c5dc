use Rattle.search_dump.proofs.Common.{part_of, shown, distance, goes_all, ◌∷◌, [], string_bytes}
use Rattle.search_dump.proofs.counting.count_once.Goals as goal

pub returns : goal.returns
returns g c =
    goes_all (string_bytes c.new-answer.result) (string_bytes c.push_count.new.list)
    (distance (shown (part_of c.args.view.now)) c.args.from c.args.to c.args.option ∷ [])
    c.new-answer.ensures.bytes c.in_ok-push_count.ensures
