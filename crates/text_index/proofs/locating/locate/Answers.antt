use Rattle.text_index.proofs.Common.{part_of, Some, refl, sym, ap, ◌∙◌, chars, found_of}
use Rattle.text_index.proofs.ReadLaws.{value-absent, value-read}
use Rattle.text_index.proofs.locating.locate.Goals as goal

pub returns-in_default-clause-value : goal.returns-in_default-clause-value
returns-in_default-clause-value g c =
    let view = c.args.view.now in let names = c.args.names.now in
    λ _. value-absent names.marks.now.marks names.tags.now.tags names.widget.0 (part_of view) (chars c.args.word.now) _
    refl (c.find_base.ensures.value ∙ ap found_of c.in_default.is)

pub returns-clause-value : goal.returns-clause-value
returns-clause-value g c =
    let view = c.args.view.now in let names = c.args.names.now in
    λ _. value-read names.marks.now.marks names.tags.now.tags names.widget.0 (part_of view) (chars c.args.word.now)
    c.as_bytes.result.now c.in-Some.base c.place_of.result view.whole_lines c.requires.room c.as_bytes.ensures.utf8
    (c.find_base.ensures.value ∙ ap found_of c.in-Some.is
    ∙ ap (λ text. Some (c.in-Some.base, chars text)) (sym c.as_bytes.ensures.value))
    c.place_of.ensures.value
