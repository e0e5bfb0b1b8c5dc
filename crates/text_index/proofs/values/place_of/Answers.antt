use Rattle.text_index.proofs.Common.{part_of, sym, ap, ◌∙◌, base_value, read_modified, shown, shown_flags, shown_mark}
use Rattle.text_index.proofs.Common.{is_word}
use Rattle.index_grammar.proofs.StepLaws.{no-steps}
use Rattle.text_index.proofs.ReadLaws.{modified-none}
use Rattle.text_index.proofs.values.place_of.Goals as goal

pub returns-then-is_empty-clause-value : goal.returns-then-is_empty-clause-value
returns-then-is_empty-clause-value g c =
    let part = part_of c.args.view.now in
    let from = base_value (shown_mark part) (λ slot. shown_flags slot part) (shown part) c.args.base in
    c.base_value-place.ensures.value ∙ sym (modified-none is_word (shown part) from)
    ∙ ap (λ steps. read_modified is_word (shown part) steps from)
    (sym (no-steps c.args.rest.now (c.if-is_empty.ensures {u = tt})))
