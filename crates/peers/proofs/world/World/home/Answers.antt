use Rattle.peers.proofs.Common.{sym, ap, ◌∙◌, chars, World, home}
use Rattle.peers.proofs.world.World.home.Goals as goal

pub returns-in_err-place : goal.returns-in_err-place
returns-in_err-place g c =
    c.from_residual.ensures ∙ sym (c.find.ensures.none c.in_err-place.was)
    ∙ ap (λ (w : World). home (chars c.args.name.now) w.documents) c.self.view_is

pub returns : goal.returns
returns g c =
    sym c.in_ok-place.ensures.some.found ∙ ap (λ (w : World). home (chars c.args.name.now) w.documents) c.self.view_is
