use Rattle.search_dump.proofs.Common.{outlook, string_bytes, goes_all, dump_elements, seen_by}
use Rattle.search_dump.proofs.dumping.dump.Goals as goal

pub returns : goal.returns
returns g c =
    goes_all (string_bytes c.new-out.result.list) (string_bytes c.push_dump.new.out.list)
    (dump_elements c.args.listed (seen_by (outlook c.args.sight.now)) c.args.from c.args.to)
    c.new-out.ensures c.in_ok-push_dump.ensures
