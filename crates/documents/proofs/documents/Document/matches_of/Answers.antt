use Rattle.documents.proofs.Common.{part_of, ap, ◌∙◌, chars, list_text}
use Rattle.search_dump.specs.Matches.{search_result}
use Rattle.text_index.specs.Views.{shown}
use Rattle.documents.proofs.QueryLaws.{spelled}
use Rattle.documents.proofs.documents.Document.matches_of.Goals as goal

pub returns : goal.returns
returns g c =
    let found = c.view_at-view in
    c.new.ensures ∙ spelled c.in_ok-search.field-0
    (search_result c.args.switches (chars c.args.pattern.now)
    (shown (part_of found.result)) c.args.from c.args.stop)
    c.in_ok-search.ensures
    ∙ ap (λ text. list_text (search_result c.args.switches (chars c.args.pattern.now) text c.args.from c.args.stop))
    found.ensures.text
