use Rattle.documents.proofs.Common.{parts_of, Stands}
use Rattle.documents.proofs.ChangeLaws.{some_limits}
use Rattle.documents.proofs.JournalLaws.{leaves-separated}
use Rattle.documents.proofs.documents.Document.edit_separator.Goals as goal

pub invariant_of-self : goal.invariant_of-self
invariant_of-self g c =
    let old = c.self.inside in
    let parts = parts_of g.S.TextStore.content old in
    let stands : Stands parts c.args.self.now = record { sound = c.self.invariant; is = c.self.view_is } in
    (leaves-separated some_limits parts old.text.history c.separator.new.self c.args.self.now stands
    c.if-not-self.false c.separator.ensures).sound

pub returns : goal.returns
returns g c = λ limits.
    let old = c.self.inside in
    let parts = parts_of g.S.TextStore.content old in
    let stands : Stands parts c.args.self.now = record { sound = c.self.invariant; is = c.self.view_is } in
    (leaves-separated limits parts old.text.history c.separator.new.self c.args.self.now stands
    c.if-not-self.false c.separator.ensures).does
