use Rattle.documents.proofs.Common.{◌≡◌, ◌+◌, length, min, suc, ap, ◌∙◌, part_of, slice_range}
use Rattle.text_index.specs.Views.{shown}
use Rattle.documents.proofs.ViewLaws.{part-one}
use Rattle.documents.proofs.documents.Document.character_at.Goals as goal

pub returns : goal.returns
returns g c =
    let found = c.view_at-view in
    let text = shown (part_of found.result) in
    let stop : c.min.result ≡ min (c.args.place + 1) (length text) =
    c.min.ensures ∙ ap (min (c.args.place + 1)) c.len.ensures in
    c.new.ensures ∙ c.in_ok-copy_text.ensures ∙ part-one text c.args.place c.min.result stop
    ∙ ap (λ text. slice_range text c.args.place (suc c.args.place)) found.ensures.text
