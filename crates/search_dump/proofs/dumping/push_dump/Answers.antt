use Rattle.search_dump.proofs.Common.{outlook, seen_by, string_bytes, sym, ◌∙◌, on_ok_weaker}
use Rattle.search_dump.proofs.EndLaws.{turned-goes, whole-goes, within-goes}
use Rattle.search_dump.proofs.dumping.push_dump.Goals as goal

pub returns-then-to-from : goal.returns-then-to-from
returns-then-to-from g c =
    turned-goes c.args.listed (seen_by (outlook c.args.sight.now))
    c.args.from c.args.to (string_bytes c.args.out.now.list) c.if-to-from.true

pub returns-then-to-len : goal.returns-then-to-len
returns-then-to-len g c =
    within-goes c.args.listed (seen_by (outlook c.args.sight.now))
    c.args.from c.args.to (string_bytes c.args.out.now.list) (string_bytes c.push_elements.new.out.list)
    c.if-to-from.false (λ is. c.if-to-len.true (is ∙ sym c.len.ensures)) c.in_ok-reached.ensures.goes

pub returns : goal.returns
returns g c =
    on_ok_weaker c.push_end.result
    (whole-goes c.args.listed (seen_by (outlook c.args.sight.now))
    c.args.from c.args.to (string_bytes c.args.out.now.list) (string_bytes c.push_elements.new.out.list)
    (string_bytes c.push_end.new.out.list) c.if-to-from.false (c.if-to-len.false ∙ c.len.ensures)
    c.in_ok-reached.ensures.goes)
    c.push_end.ensures
