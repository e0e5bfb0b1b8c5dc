use Rattle.segments.proofs.Common.{sym, ap, ◌∙◌, slice_get, LineContent, characters, content}
use Rattle.segments.proofs.PlainLaws.{characters-plain}
use Rattle.segments.proofs.line.Line.char_at.Goals as goal

pub returns-in-Plain : goal.returns-in-Plain
returns-in-Plain c =
    sym (ap (λ (line : LineContent). slice_get (characters line.columns) c.args.column) (ap content (sym c.in-Plain.is)
    ∙ c.self.view_is)) ∙ ap (λ xs. slice_get xs c.args.column) (characters-plain c.in-Plain.text) ∙ c.at.ensures
