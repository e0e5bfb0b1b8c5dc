use Rattle.peers.proofs.Common.{◌≡◌, ◌<◌, Ok, length, refl, sym, ap, subst, ◌∙◌, arith, Document, length-set, World}
use Rattle.peers.proofs.Common.{all_windows, document_at, TakesMarksBut, MarkKey, done, IsWellFormed}
use Rattle.peers.proofs.Common.{IsWellFormedDocument, AreCarried, AreOthers, AreWatched, TellsMarks, mark_at}
use Rattle.peers.proofs.Common.{mark_carried, called}
use Rattle.peers.proofs.MarksToldLaws.{carried-but}
use Rattle.peers.proofs.PromiseLaws.{value≢memory}
use Rattle.peers.proofs.WorldLaws.{all-at, read-is}
use Rattle.peers.proofs.world.World.on_seat_with_marks.Goals as goal

pub returns-clause-marks : goal.returns-clause-marks
returns-clause-marks g c =
    let place = c.args.place in let request = c.args.request.now in
    let world = c.args.self.now in let new = c.on_seat.new.self in
    let told = c.in_ok-told.told in let marks = c.in_ok-marks.marks in
    let document = document_at world.documents place in
    let formed : IsWellFormed world = subst IsWellFormed c.self.view_is c.self.invariant in
    let there = all-at (IsWellFormedDocument world.limits) world.documents place formed.documents c.requires.place in
    let before = subst (λ (w : World). place < length w.documents) (sym c.self.view_is) c.requires.place in
    let lent : c.index.result.now ≡ document =
    read-is c.self.inside.documents.list.items place c.index.result.now before c.index.ensures
    ∙ ap (λ (w : World). document_at w.documents place) c.self.view_is in
    let watched : AreWatched document marks = subst (λ (d : Document). AreWatched d marks) lent
    (c.in_ok-marks.ensures.watched world.limits (subst (IsWellFormedDocument world.limits) (sym lent) there)) in
    let covers : TakesMarksBut marks document
    (done c.args.command document (called (all_windows world) document request)) =
    subst (λ (d : Document). TakesMarksBut marks d (done c.args.command d (called (all_windows world) d request))) lent
    (c.in_ok-marks.ensures.covers (all_windows world) (subst (IsWellFormedDocument request.caller.limits.now) (sym lent)
    (subst (λ limits. IsWellFormedDocument limits document) (sym c.requires.limits) there))) in
    let change = done c.args.command document (called (all_windows world) document request) in
    let made = c.in_ok-told.ensures.makes.world (value≢memory (Ok told.answer) told.answer refl) in
    let long = ap (λ (w : World). length w.documents) made in
    let set = length-set world.documents place change.document in
    let after = subst (λ (w : World). place < length w.documents) (sym c.self-2.view_is)
    (let within : place < length new.documents = omega (arith, c.requires.place, long, set) in within) in
    let found : c.index-2.result.now ≡ document_at new.documents place =
    read-is c.self-2.inside.documents.list.items place c.index-2.result.now after c.index-2.ensures
    ∙ ap (λ (w : World). document_at w.documents place) c.self-2.view_is in
    let but = carried-but world new place change told marks formed c.requires.place c.in_ok-told.ensures.makes
    (c.in_ok-told.ensures.tells c.requires.follows) covers in
    subst (λ (d : Document). TellsMarks told.edit.changes document d c.settle_marks.new.marks) found
    (c.settle_marks.ensures.told document watched
    (subst (λ (d : Document). AreCarried told.edit.changes document d) (sym found) but.carried)
    (subst (λ (d : Document). (key : MarkKey) → AreOthers key marks
    → mark_at d key ≡ mark_carried told.edit.changes document key) (sym found) but.others))

pub index-requires-2 : goal.index-requires-2
index-requires-2 g c =
    let place = c.args.place in let world = c.args.self.now in let document = document_at world.documents place in
    let told = c.in_ok-told.told in
    let made = c.in_ok-told.ensures.makes.world (value≢memory (Ok told.answer) told.answer refl) in
    let long = ap (λ (w : World). length w.documents) made in
    let set = length-set world.documents place
    (done c.args.command document (called (all_windows world) document c.args.request.now)).document in
    let after = subst (λ (w : World). place < length w.documents) (sym c.self-2.view_is)
    (let within : place < length c.on_seat.new.self.documents = omega (arith, c.requires.place, long, set) in within) in
    omega (arith, after, c.self-2.inside.documents.list.ok.0)

pub returns-clause-tells : goal.returns-clause-tells
returns-clause-tells g c = c.in_ok-told.ensures.tells c.requires.follows
