use Rattle.documents.proofs.Common.{◌∙◌, parts_of, Stands}
use Rattle.documents.proofs.ChangeLaws.{some_limits}
use Rattle.documents.proofs.JournalLaws.{leaves-reset}
use Rattle.documents.proofs.documents.Document.edit_reset.Goals as goal

pub invariant_of-self : goal.invariant_of-self
invariant_of-self g c =
    let old = c.self.inside in
    let parts = parts_of g.S.TextStore.content old in
    let stands : Stands parts c.args.self.now = record { sound = c.self.invariant; is = c.self.view_is } in
    (leaves-reset some_limits parts old.text.history c.give_back_room.new.self c.args.self.now stands
    (c.give_back_room.ensures.history ∙ c.reset.ensures.history)
    (c.give_back_room.ensures.modified ∙ c.reset.ensures.modified)
    (c.give_back_room.ensures.most ∙ c.reset.ensures.most)).sound

pub returns : goal.returns
returns g c = λ limits.
    let old = c.self.inside in
    let parts = parts_of g.S.TextStore.content old in
    let stands : Stands parts c.args.self.now = record { sound = c.self.invariant; is = c.self.view_is } in
    (leaves-reset limits parts old.text.history c.give_back_room.new.self c.args.self.now stands
    (c.give_back_room.ensures.history ∙ c.reset.ensures.history)
    (c.give_back_room.ensures.modified ∙ c.reset.ensures.modified)
    (c.give_back_room.ensures.most ∙ c.reset.ensures.most)).does
