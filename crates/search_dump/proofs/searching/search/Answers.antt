use Rattle.search_dump.proofs.Common.{part_of, ap, chars, encode_utf8_all, length, map, string_bytes, ◌∙◌, list_text}
use Rattle.search_dump.proofs.Common.{goes_all, position_text, shown, bound, candidates, compared, matches_at}
use Rattle.search_dump.proofs.Common.{wanted_of}
use Rattle.std.specs.Prelude.{filter}
use Rattle.search_dump.proofs.ListedLaws.{search-is}
use Rattle.search_dump.proofs.searching.search.Goals as goal

pub returns : goal.returns
returns g c =
    let view = c.args.view.now in
    let all = shown (part_of view) in
    let search = c.args.search in
    let made = c.new-pattern.result in
    let pattern = chars made.text.now in
    goes_all (string_bytes c.new-list.result) (string_bytes c.list_matches.new.list)
    (map (position_text all) (wanted_of search.wanted (length pattern)
    (filter (matches_at pattern (compared made.ignores_case all) (bound search (length all) c.args.from c.args.stop))
    (candidates search.direction (length all) c.args.from c.args.stop))))
    c.new-list.ensures.bytes c.in_ok-list_matches.ensures
    ∙ ap (λ xs. encode_utf8_all (list_text (map (position_text all) xs)))
    (search-is search (chars c.args.pattern.now) all pattern made.ignores_case c.args.from c.args.stop
    (ap chars c.new-pattern.ensures.text ∙ ap chars c.as_str.ensures.value ∙ c.in_ok-pattern.ensures
    ∙ ap (λ bytes. compared search.ignores_case (chars bytes)) c.in_ok-from_str.ensures.ok)
    c.new-pattern.ensures.case)
