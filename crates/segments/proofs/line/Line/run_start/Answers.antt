use Rattle.segments.proofs.Common.{◌-◌, take, sym, ap, ◌∙◌, suffix_len, LineContent, characters, content}
use Rattle.segments.proofs.PlainLaws.{characters-plain}
use Rattle.segments.proofs.line.Line.run_start.Goals as goal

pub returns-in-Plain-clause-value : goal.returns-in-Plain-clause-value
returns-in-Plain-clause-value g c =
    let same = sym (characters-plain c.in-Plain.text)
    ∙ ap (λ (line : LineContent). characters line.columns) (ap content (sym c.in-Plain.is) ∙ c.self.view_is) in
    c.run_start.ensures.value
    ∙ ap (λ text. c.args.column - suffix_len g.T.CharacterTest.test (take c.args.column text)) same
