use Rattle.documents.proofs.Common.{◌≡◌, ◌-◌, ap, ◌∙◌, arith, part_of, slice_range}
use Rattle.text_index.specs.Views.{shown}
use Rattle.documents.proofs.ViewLaws.{part-past}
use Rattle.documents.proofs.documents.Document.text_between.Goals as goal

pub returns : goal.returns
returns g c =
    let found = c.view_at-view in
    let count : c.max.result - c.args.from ≡ c.args.to - c.args.from = omega (arith, c.max.ensures) in
    c.new.ensures ∙ c.in_ok-copy_text.ensures
    ∙ part-past (shown (part_of found.result)) c.args.from c.args.to c.max.result count
    ∙ ap (λ shown. slice_range shown c.args.from c.args.to) found.ensures.text
