use Rattle.peers.proofs.Common.{sym, ap, subst, ◌∙◌, texts_of, Makes, create, create_shaped}
use Rattle.peers.proofs.ArgumentLaws.{arguments-part}
use Rattle.peers.proofs.HomeStepLaws.{shape-kept}
use Rattle.peers.proofs.world.World.create_shaped.Goals as goal

pub returns : goal.returns
returns g c =
    let is = shape-kept c.shape.result c.map_err.result c.in_ok-shape.shape c.map_err.ensures.cases c.in_ok-shape.was in
    subst (Makes c.args.self.now c.create.new.self c.create.result)
    (ap (create c.args.self.now) (arguments-part c.args.words.now c.in_ok-shape.shape)
    ∙ ap (create_shaped c.args.self.now (texts_of c.args.words.now)) (sym is ∙ c.shape.ensures.value))
    c.create.ensures
