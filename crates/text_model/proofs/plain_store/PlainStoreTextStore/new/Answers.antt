use Rattle.text_model.proofs.Common.{◌∷◌, [], ap₂, ◌++◌, ◌∙◌}
use Rattle.text_model.proofs.PlainLaws.{IsPlain-new, plain_content-new}
use Rattle.text_model.proofs.plain_store.PlainStoreTextStore.new.Goals as goal

pub invariant_of-result : goal.invariant_of-result
invariant_of-result c = record { plain = rw c.new.ensures.items (IsPlain-new c.push.new.self.items) }

pub returns : goal.returns
returns c =
    plain_content-new c.push.new.self.items c.new.result.items
    (c.in_ok-push.ensures.items ∙ ap₂ (λ cells tags. cells ++ record { character = 10; tags = tags } ∷ [])
    c.in_ok-cells.ensures.items c.empty.ensures)
    c.new.ensures.items
