use Rattle.search_dump.proofs.Common.{part_of, None, ap, arith, chars, length, string_bytes, ◌∙◌, on_ok_weaker}
use Rattle.search_dump.proofs.Common.{position_text, shown, compared, first_stretch}
use Rattle.search_dump.proofs.ListedLaws.{first-fits, round-goes}
use Rattle.search_dump.proofs.searching.list_round_whole.Goals as goal

pub list_round-requires-clause-listed : goal.list_round-requires-clause-listed
list_round-requires-clause-listed g c =
    let view = c.args.view.now in
    let all = shown (part_of view) in
    first-fits c.args.search.direction (chars c.args.pattern.now.text.now)
    (compared c.args.pattern.now.ignores_case all) c.first_stretch-stretch.result c.in_ok-first.first
    c.args.pattern.now.len (length all) c.in_ok-first.ensures c.args.pattern.now.counted
    (omega (arith, ap (λ s. s.end) c.first_stretch-stretch.ensures, c.len.ensures))

pub returns : goal.returns
returns g c =
    let view = c.args.view.now in
    let all = shown (part_of view) in
    on_ok_weaker c.list_round.result
    (round-goes c.args.search (chars c.args.pattern.now.text.now) (compared c.args.pattern.now.ignores_case all)
    (position_text all) (length all) c.args.from c.first_stretch-stretch.result c.in_ok-first.first
    (string_bytes c.args.list.now) (string_bytes c.list_from.new.list) (string_bytes c.list_round.new.list)
    (c.first_stretch-stretch.ensures ∙ ap (λ n. first_stretch c.args.search n c.args.from None) c.len.ensures)
    c.in_ok-first.ensures c.in_ok-list_from.ensures)
    c.list_round.ensures
