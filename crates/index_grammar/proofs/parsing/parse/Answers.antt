use Rattle.index_grammar.proofs.Common.{sym, ap, ◌∙◌, chars, modifiers_of, tokens_of, known_marks, known_tags, found_of}
use Rattle.index_grammar.proofs.Common.{saturated}
use Rattle.std.proofs.lemmas.Result.{err_from_is_err_and}
use Rattle.index_grammar.proofs.LowModifierLaws.{modifiers-chars}
use Rattle.index_grammar.proofs.WholeLaws.{whole-ok, whole-bad}
use Rattle.index_grammar.proofs.parsing.parse.Goals as goal

pub returns-clause-ok : goal.returns-clause-ok
returns-clause-ok c =
    whole-ok (known_marks c.args.names.now.marks.now.marks c.args.names.now.widget.0)
    (known_tags c.args.names.now.tags.now.tags c.args.names.now.widget.0)
    (chars c.args.word.now) (chars c.in-Some.rest.now) c.in-Some.base c.in_ok-modifiers.modifiers (c.find_base.ensures.value
    ∙ ap found_of c.in-Some.is)
    (ap (λ text. saturated (modifiers_of (tokens_of (chars text)))) (sym c.as_bytes.ensures.value)
    ∙ ap saturated (sym (modifiers-chars c.as_bytes.result.now c.as_bytes.ensures.utf8))
    ∙ c.in_ok-modifiers.ensures.ok)

pub returns-in_err-modifiers-clause-err : goal.returns-in_err-modifiers-clause-err
returns-in_err-modifiers-clause-err c =
    let fault = err_from_is_err_and c.from_residual.result c.from_residual.ensures.1 in
    rw (fault.1, fault.2) (λ other.
    let known = c.in_err-modifiers.ensures.err other in (
      known.0,
      whole-bad (known_marks c.args.names.now.marks.now.marks c.args.names.now.widget.0)
          (known_tags c.args.names.now.tags.now.tags c.args.names.now.widget.0)
          (chars c.args.word.now) (chars c.in-Some.rest.now) c.in-Some.base (c.find_base.ensures.value
          ∙ ap found_of c.in-Some.is)
          (ap (λ text. saturated (modifiers_of (tokens_of (chars text)))) (sym c.as_bytes.ensures.value)
          ∙ ap saturated (sym (modifiers-chars c.as_bytes.result.now c.as_bytes.ensures.utf8)) ∙ known.1),
    ))
