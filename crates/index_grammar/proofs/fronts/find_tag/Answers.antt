use Rattle.index_grammar.proofs.Common.{None, Some, length, sym, ap, ◌∙◌, ◌-◌, nat_eq, ends_with, known_tags}
use Rattle.index_grammar.proofs.FindLaws.{range-front}
use Rattle.index_grammar.proofs.TagLaws.{first_bytes, last_bytes, tagged-first, tagged-last, tagged-none}
use Rattle.index_grammar.proofs.fronts.find_tag.Goals as goal

pub returns-in_err-tag-clause-value : goal.returns-in_err-tag-clause-value
returns-in_err-tag-clause-value c =
    c.from_residual.ensures
    ∙ tagged-first (known_tags c.args.names.now.tags.now.tags c.args.names.now.widget.0) c.args.front.now
    c.range-name.result.now None
    (c.range-name.ensures.value ∙ range-front c.args.front.now (length c.args.front.now - 6))
    (ap (λ t. ends_with nat_eq t first_bytes) (sym c.as_bytes.ensures.value) ∙ sym c.ends_with.ensures.value
    ∙ c.if-ends_with.true)
    c.range-name.utf8 (c.in_err-tag.ensures {u = tt}).value

pub returns-then-ends_with-clause-value : goal.returns-then-ends_with-clause-value
returns-then-ends_with-clause-value c =
    tagged-first (known_tags c.args.names.now.tags.now.tags c.args.names.now.widget.0) c.args.front.now
    c.range-name.result.now (Some c.in_ok-tag.field-0)
    (c.range-name.ensures.value ∙ range-front c.args.front.now (length c.args.front.now - 6))
    (ap (λ t. ends_with nat_eq t first_bytes) (sym c.as_bytes.ensures.value) ∙ sym c.ends_with.ensures.value
    ∙ c.if-ends_with.true)
    c.range-name.utf8 (c.in_ok-tag.ensures {u = tt}).value

pub returns-in_err-tag-2-clause-value : goal.returns-in_err-tag-2-clause-value
returns-in_err-tag-2-clause-value c =
    c.from_residual-in_err-tag-2.ensures
    ∙ tagged-last (known_tags c.args.names.now.tags.now.tags c.args.names.now.widget.0) c.args.front.now
    c.range-name-then-ends_with-2.result.now None c.utf8.front
    (c.range-name-then-ends_with-2.ensures.value ∙ range-front c.args.front.now (length c.args.front.now - 5))
    (ap (λ t. ends_with nat_eq t first_bytes) (sym c.as_bytes.ensures.value) ∙ sym c.ends_with.ensures.value
    ∙ c.if-ends_with.false)
    (ap (λ t. ends_with nat_eq t last_bytes) (sym c.as_bytes-2.ensures.value) ∙ sym c.ends_with-2.ensures.value
    ∙ c.if-ends_with-2.true)
    c.range-name-then-ends_with-2.utf8 (c.in_err-tag-2.ensures {u = tt}).value

pub returns-then-ends_with-2-clause-value : goal.returns-then-ends_with-2-clause-value
returns-then-ends_with-2-clause-value c =
    tagged-last (known_tags c.args.names.now.tags.now.tags c.args.names.now.widget.0) c.args.front.now
    c.range-name-then-ends_with-2.result.now (Some c.in_ok-tag-2.field-0) c.utf8.front
    (c.range-name-then-ends_with-2.ensures.value ∙ range-front c.args.front.now (length c.args.front.now - 5))
    (ap (λ t. ends_with nat_eq t first_bytes) (sym c.as_bytes.ensures.value) ∙ sym c.ends_with.ensures.value
    ∙ c.if-ends_with.false)
    (ap (λ t. ends_with nat_eq t last_bytes) (sym c.as_bytes-2.ensures.value) ∙ sym c.ends_with-2.ensures.value
    ∙ c.if-ends_with-2.true)
    c.range-name-then-ends_with-2.utf8 (c.in_ok-tag-2.ensures {u = tt}).value

pub returns-clause-value : goal.returns-clause-value
returns-clause-value c =
    tagged-none (known_tags c.args.names.now.tags.now.tags c.args.names.now.widget.0) c.args.front.now c.utf8.front
    (ap (λ t. ends_with nat_eq t first_bytes) (sym c.as_bytes.ensures.value) ∙ sym c.ends_with.ensures.value
    ∙ c.if-ends_with.false)
    (ap (λ t. ends_with nat_eq t last_bytes) (sym c.as_bytes-2.ensures.value) ∙ sym c.ends_with-2.ensures.value
    ∙ c.if-ends_with-2.false)
