use Rattle.documents.proofs.Common.{part_of, ap, ◌∙◌, list_text}
use Rattle.search_dump.specs.Counts.{counted}
use Rattle.text_index.specs.Views.{shown}
use Rattle.documents.proofs.QueryLaws.{spelled}
use Rattle.documents.proofs.documents.Document.counts_of.Goals as goal

pub returns : goal.returns
returns g c =
    let found = c.view_at-view in
    c.new.ensures ∙ spelled c.in_ok-count.field-0
    (counted c.args.options.now (shown (part_of found.result))
    c.args.from c.args.to) c.in_ok-count.ensures
    ∙ ap (λ text. list_text (counted c.args.options.now text c.args.from c.args.to)) found.ensures.text
