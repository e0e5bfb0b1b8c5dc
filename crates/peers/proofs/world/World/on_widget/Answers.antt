use Rattle.peers.proofs.Common.{◌≡◌, true, true≢false, None, sym, ap, subst, ◌∙◌, chars, texts_of, answer_of}
use Rattle.peers.proofs.Common.{InvalidCommandName, Makes, IsAt, IsWellFormed, World, home, on_home, on_widget, refuses}
use Rattle.peers.proofs.Common.{request_step}
use Rattle.documents.specs.declared.callers.Caller.{Caller}
use Rattle.peers.proofs.HomeStepLaws.{refused-at, request-step, shape-fault, shape-kept}
use Rattle.peers.proofs.ToldStepLaws.{tells-at}
use Rattle.peers.proofs.MakesLaws.{makes-refused}
use Rattle.peers.proofs.PromiseLaws.{faulted}
use Rattle.peers.proofs.world.World.on_widget.Goals.{After-of-request, then-follows, else-follows}
use Rattle.peers.proofs.world.World.on_widget.Goals as goal

pub returns-in_default-clause-makes : goal.returns-in_default-clause-makes
returns-in_default-clause-makes g c =
    let world = c.args.self.now in let name = chars c.args.name.now in
    let none : home name world.documents ≡ None =
    sym (ap (λ (w : World). home name w.documents) c.self.view_is) ∙ c.find.ensures.none c.in_default.is in
    makes-refused world (InvalidCommandName 0) _ (subst IsWellFormed c.self.view_is c.self.invariant)
    (ap (on_home world name (texts_of c.args.words.now)) none)

pub returns-in_err-shape-clause-makes : goal.returns-in_err-shape-clause-makes
returns-in_err-shape-clause-makes g c =
    let world = c.args.self.now in let name = chars c.args.name.now in let words = texts_of c.args.words.now in
    let at = subst (λ (w : World). IsAt name w.documents c.in-Some.place c.in-Some.seat) c.self.view_is
    c.in-Some.ensures.some in
    let fault = c.in_err-shape.field-0.0 in
    let bad = shape-fault c.shape.result c.map_err.result fault c.map_err.ensures.cases c.in_err-shape.was in
    subst (λ result. Makes world world (answer_of result) (on_widget world name words))
    (sym (faulted c.from_residual.result fault c.from_residual.ensures))
    (makes-refused world fault _ (subst IsWellFormed c.self.view_is c.self.invariant)
    (refused-at world name words bad.0 at (sym c.shape.ensures.value ∙ bad.1)
    ∙ ap (refuses world) (sym bad.2)))

-- where the widget is
placed : (g : _) (c : After-of-request g)
    → IsAt (chars c.args.name.now) c.args.self.now.documents c.in-Some.place c.of-request.result.caller.seat
placed g c =
    let name = chars c.args.name.now in let place = c.in-Some.place in
    subst (λ seat. IsAt name c.args.self.now.documents place seat)
    (sym (ap (λ (caller : Caller). caller.seat) c.of-request.ensures.caller))
    (subst (λ (w : World). IsAt name w.documents place c.in-Some.seat) c.self.view_is c.in-Some.ensures.some)

-- what the request asks is what the words do
step : (g : _) (c : After-of-request g)
    → request_step c.args.self.now c.in-Some.place c.in_ok-shape.shape.command c.of-request.result
    ≡ on_widget c.args.self.now (chars c.args.name.now) (texts_of c.args.words.now)
step g c =
    let shape = c.in_ok-shape.shape in
    let is = shape-kept c.shape.result c.map_err.result shape c.map_err.ensures.cases c.in_ok-shape.was in
    request-step c.args.self.now (chars c.args.name.now) (texts_of c.args.words.now) shape c.of-request.result
    (placed g c) (sym c.shape.ensures.value ∙ is)
    (ap (λ (caller : Caller). caller.limits.now) c.of-request.ensures.caller ∙ ap (λ (w : World). w.limits) c.self.view_is)
    c.of-request.ensures.switches c.of-request.ensures.position c.of-request.ensures.arguments

pub returns-then-follows-2-clause-makes : goal.returns-then-follows-2-clause-makes
returns-then-follows-2-clause-makes g c =
    subst (Makes c.args.self.now c.on_seat_with_marks.new.self (answer_of c.on_seat_with_marks.result))
    (step g (goal.at.returns-then-follows-2-clause-makes g c).After-of-request) c.on_seat_with_marks.ensures.makes

pub returns-then-follows-2-clause-tells : goal.returns-then-follows-2-clause-tells
returns-then-follows-2-clause-tells g c = λ _.
    let at = (goal.at.returns-then-follows-2-clause-tells g c).After-of-request in
    tells-at c.args.self.now c.on_seat_with_marks.new.self (chars c.args.name.now) (texts_of c.args.words.now)
    c.on_seat_with_marks.result (placed g at) (step g at) c.on_seat_with_marks.ensures.tells

pub returns-else-follows-2-clause-makes : goal.returns-else-follows-2-clause-makes
returns-else-follows-2-clause-makes g c =
    subst (Makes c.args.self.now c.on_seat.new.self (answer_of c.on_seat.result))
    (step g (goal.at.returns-else-follows-2-clause-makes g c).After-of-request) c.on_seat.ensures.makes

pub returns-else-follows-2-clause-tells : goal.returns-else-follows-2-clause-tells
returns-else-follows-2-clause-tells g c = λ follows.
    let at = (goal.at.returns-else-follows-2-clause-tells g c).After-of-request in
    let asked : c.if-follows.caller ≡ true = elim c.if-follows.branch [
      | then-follows w ↦ w.caller-is ∙ follows
      | else-follows w ↦ absurd (true≢false (sym follows ∙ w.if-follows.false))
    ] in
    tells-at c.args.self.now c.on_seat.new.self (chars c.args.name.now) (texts_of c.args.words.now)
    c.on_seat.result (placed g at) (step g at) (c.on_seat.ensures.tells
    (ap (λ (caller : Caller). caller.follows) c.of-request.ensures.caller ∙ asked))
