use Rattle.peers.proofs.Common.{sym, ap, subst, ◌∙◌, IfOk, texts_of, Makes, answer_of, destroy, destroy_shaped}
use Rattle.peers.proofs.Common.{names_read, TellsDropped}
use Rattle.peers.proofs.ArgumentLaws.{arguments-part}
use Rattle.peers.proofs.HomeStepLaws.{shape-kept}
use Rattle.peers.proofs.world.World.destroy_shaped.Goals as goal

pub returns-clause-makes : goal.returns-clause-makes
returns-clause-makes g c =
    let is = shape-kept c.shape.result c.map_err.result c.in_ok-shape.shape c.map_err.ensures.cases c.in_ok-shape.was in
    subst (Makes c.args.self.now c.destroy.new.self (answer_of c.destroy.result))
    (ap (destroy c.args.self.now) (arguments-part c.args.words.now c.in_ok-shape.shape)
    ∙ ap (destroy_shaped c.args.self.now (texts_of c.args.words.now)) (sym is ∙ c.shape.ensures.value))
    c.destroy.ensures.makes

pub returns-clause-told : goal.returns-clause-told
returns-clause-told g c = λ asked.
    let is = shape-kept c.shape.result c.map_err.result c.in_ok-shape.shape c.map_err.ensures.cases c.in_ok-shape.was in
    subst (λ names. IfOk c.destroy.result (λ told. TellsDropped names c.args.self.now.documents told.marks))
    (arguments-part c.args.words.now c.in_ok-shape.shape
    ∙ ap (names_read (texts_of c.args.words.now)) (sym is ∙ c.shape.ensures.value))
    (c.destroy.ensures.told asked)
