use Rattle.documents.proofs.Common.{ap, ◌∙◌, chars, filter, not, list_text, is_same}
use Rattle.name_list.specs.Names.{names_of}
use Rattle.documents.proofs.ListedLaws.{listed}
use Rattle.documents.proofs.PartsLaws.{stand}
use Rattle.documents.proofs.WidgetLaws.{others-kept}
use Rattle.documents.proofs.documents.Document.other_widgets.Goals as goal

pub returns : goal.returns
returns g c =
    let name = chars c.name.result.now in
    let names = filter (λ other. not (is_same other name)) (names_of c.self.inside.seats.entries) in
    c.new.ensures ∙ listed c.push_other_seats.new.list names c.new-list.ensures.bytes c.in_ok-push_other_seats.ensures
    ∙ ap list_text (others-kept c.args.seat name (stand c.self.invariant c.self.view_is) c.name.ensures)
