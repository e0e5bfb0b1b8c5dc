use Rattle.text_index.proofs.Common.{part_of, ◌≡◌, Some, refl, sym, ap, ◌∙◌, subst, Part, chars, shown, shown_mark}
use Rattle.text_index.proofs.Common.{shown_flags, is_word, base_value, read_modified, modifiers_of, tokens_of, Content}
use Rattle.text_index.proofs.Common.{found_of, saturated}
use Rattle.text_index.proofs.ReadLaws.{value-absent, value-read}
use Rattle.text_index.proofs.locating.seek.Goals.{then-start-eq0, else-start-eq0}
use Rattle.text_index.proofs.locating.seek.Goals as goal

pub returns-in_default-clause-value : goal.returns-in_default-clause-value
returns-in_default-clause-value g c =
    let names = c.args.names.now in
    λ _. value-absent names.marks.now.marks names.tags.now.tags names.widget.0
    (record { content = g.S.TextStore.content c.args.store.now; start = c.args.start; end = c.args.end })
    (chars c.args.word.now) _ refl (c.find_base.ensures.value ∙ ap found_of c.in_default.is)

pub returns-clause-value : goal.returns-clause-value
returns-clause-value g c =
    let names = c.args.names.now in
    let part : Content → Part = λ content. record { content = content; start = c.args.start; end = c.args.end } in
    let was = g.S.TextStore.content c.args.store.now in
    let kept : g.S.TextStore.content c.if-start-eq0.store ≡ was = elim c.if-start-eq0.branch [
      | then-start-eq0 w ↦ ap g.S.TextStore.content w.store-is ∙ w.seek_base.ensures
      | else-start-eq0 w ↦ ap g.S.TextStore.content w.store-is
    ] in
    let same : part_of c.new.result ≡ part was = c.new.ensures ∙ ap part kept in
    λ _. value-read names.marks.now.marks names.tags.now.tags names.widget.0 (part was) (chars c.args.word.now)
    c.as_bytes.result.now c.in-Some.base c.place_of.result c.requires.view c.requires.room c.as_bytes.ensures.utf8
    (c.find_base.ensures.value ∙ ap found_of c.in-Some.is
    ∙ ap (λ text. Some (c.in-Some.base, chars text)) (sym c.as_bytes.ensures.value))
    (subst (λ p. c.place_of.result ≡ read_modified is_word (shown p)
    (saturated (modifiers_of (tokens_of c.as_bytes.result.now)))
    (base_value (shown_mark p) (λ slot. shown_flags slot p) (shown p) c.in-Some.base)) same c.place_of.ensures.value)
