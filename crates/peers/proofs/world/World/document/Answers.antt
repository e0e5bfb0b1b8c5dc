use Rattle.peers.proofs.Common.{Some, arith, sym, ap, ◌∙◌, chars, option_map, World, document_at, home}
use Rattle.peers.proofs.WorldLaws.{read-is}
use Rattle.peers.proofs.world.World.document.Goals as goal

pub returns-in_err-place : goal.returns-in_err-place
returns-in_err-place g c =
    let none = sym (c.find.ensures.none c.in_err-place.was)
    ∙ ap (λ (w : World). home (chars c.args.name.now) w.documents) c.self.view_is in
    rw c.from_residual.ensures (ap (option_map (document_at c.args.self.now.documents)) none)

pub index-requires : goal.index-requires
index-requires g c = omega (arith, c.in_ok-place.ensures.some.within, c.self.inside.documents.list.ok.0)

pub returns : goal.returns
returns g c =
    let documents = c.self.inside.documents.list.items in let at = c.in_ok-place.ensures.some in
    let read = read-is documents c.in_ok-place.place c.index.result.now at.within c.index.ensures in
    let some = sym at.found ∙ ap (λ (w : World). home (chars c.args.name.now) w.documents) c.self.view_is in
    ap Some (read ∙ ap (λ (w : World). document_at w.documents c.in_ok-place.place) c.self.view_is)
    ∙ ap (option_map (document_at c.args.self.now.documents)) some
