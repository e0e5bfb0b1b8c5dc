use Rattle.segments.proofs.Common.{◌+◌, drop, sym, ap, ◌∙◌, prefix_len, LineContent, characters, content}
use Rattle.segments.proofs.PlainLaws.{characters-plain}
use Rattle.segments.proofs.line.Line.run_end.Goals as goal

pub returns-in-Plain-clause-value : goal.returns-in-Plain-clause-value
returns-in-Plain-clause-value g c =
    let same = sym (characters-plain c.in-Plain.text)
    ∙ ap (λ (line : LineContent). characters line.columns) (ap content (sym c.in-Plain.is) ∙ c.self.view_is) in
    c.run_end.ensures.value
    ∙ ap (λ text. c.args.column + prefix_len g.T.CharacterTest.test (drop c.args.column text)) same
