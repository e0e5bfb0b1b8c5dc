use Rattle.documents.proofs.Common.{part_of, ◌++◌, ap, ◌∙◌, chars, chars-nil, position_text}
use Rattle.text_index.specs.Views.{shown}
use Rattle.documents.proofs.documents.Document.position_of.Goals as goal

pub returns : goal.returns
returns g c =
    let found = c.view_at-view in
    let text = shown (part_of found.result) in
    c.new.ensures ∙ c.in_ok-push_index.ensures.ok
    ∙ ap (λ bytes. chars bytes ++ position_text text c.args.place) c.new-text.ensures.bytes
    ∙ ap (λ front. front ++ position_text text c.args.place) chars-nil
    ∙ ap (λ t. position_text t c.args.place) found.ensures.text
