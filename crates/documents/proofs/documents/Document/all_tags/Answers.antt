use Rattle.documents.proofs.Common.{ap, ◌∙◌, list_text, names_of}
use Rattle.documents.proofs.ListedLaws.{listed, tags-listed}
use Rattle.documents.proofs.PartsLaws.{stand}
use Rattle.documents.proofs.documents.Document.all_tags.Goals as goal

pub returns : goal.returns
returns g c =
    let names = names_of c.self.inside.tags.tags in
    c.new.ensures ∙ listed c.push_names.new.list names c.new-list.ensures.bytes c.in_ok-push_names.ensures
    ∙ ap list_text (tags-listed (stand c.self.invariant c.self.view_is))
