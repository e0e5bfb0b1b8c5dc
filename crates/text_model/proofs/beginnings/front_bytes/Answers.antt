use Rattle.text_model.proofs.Common.{◌≤◌, take, sym, ap, ◌∙◌, subst, IsCharBoundary, beginnings}
use Rattle.text_model.proofs.BeginningLaws.{beginnings-chars, behind_beginnings, cut_at_beginning}
use Rattle.text_model.proofs.beginnings.front_bytes.Goals as goal

pub returns-clause-boundary : goal.returns-clause-boundary
returns-clause-boundary c =
    let byte = c.find_beginning.result in
    let found = c.find_beginning.ensures in
    subst (λ text. IsCharBoundary text byte) c.as_bytes.ensures.value
    (cut_at_beginning c.as_bytes.result.now byte found.within found.begins)

pub returns-clause-behind : goal.returns-clause-behind
returns-clause-behind c =
    let text = c.args.text.now in
    let byte = c.find_beginning.result in
    let column = c.args.count in
    let bytes = c.as_bytes.ensures.value in
    let within = subst (λ n. column ≤ n) (sym (ap beginnings bytes ∙ beginnings-chars text c.utf8.text)) c.requires in
    behind_beginnings text byte column c.utf8.text (returns-clause-boundary c)
    (ap (λ t. beginnings (take byte t)) (sym bytes) ∙ c.find_beginning.ensures.count within)
