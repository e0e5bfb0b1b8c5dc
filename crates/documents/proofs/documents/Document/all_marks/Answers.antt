use Rattle.documents.proofs.Common.{◌∷◌, ap, ◌∙◌, list_text, literal}
use Rattle.mark_table.specs.SharedMarks.{names_of}
use Rattle.documents.proofs.ListedLaws.{listed, marks-listed}
use Rattle.documents.proofs.PartsLaws.{stand}
use Rattle.documents.proofs.documents.Document.all_marks.Goals as goal

pub returns : goal.returns
returns g c =
    let names = literal "insert" ∷ literal "current" ∷ names_of c.self.inside.marks.marks in
    c.new.ensures ∙ listed c.push_mark_names.new.list names c.new-list.ensures.bytes c.in_ok-push_mark_names.ensures
    ∙ ap list_text (marks-listed (stand c.self.invariant c.self.view_is))
