use Rattle.search_dump.proofs.Common.{part_of, outlook, slot_at, string_bytes}
use Rattle.search_dump.proofs.StopLaws.{end-goes}
use Rattle.search_dump.proofs.TagLaws.{none-behind}
use Rattle.search_dump.proofs.dumping.push_end.Goals as goal

pub returns : goal.returns
returns g c =
    let view = c.args.sight.now.view.now in
    end-goes c.args.listed (outlook c.args.sight.now) c.args.end
    (string_bytes c.args.out.now.list) (string_bytes c.push_listed_tags.new.out.list)
    (string_bytes c.push_listed_marks.new.out.list) view.whole_lines c.requires.end
    c.in_ok-push_listed_tags.ensures c.in_ok-push_listed_marks.ensures.goes

pub push_listed_tags-requires-clause-behind : goal.push_listed_tags-requires-clause-behind
push_listed_tags-requires-clause-behind g c _ at below =
    let view = c.args.sight.now.view.now in
    none-behind (part_of view) c.args.end view.whole_lines c.requires.end
    c.empty.result c.empty.ensures (slot_at (outlook c.args.sight.now) at)
