use Rattle.peers.proofs.Common.{◌≡◌, ◌<◌, Some, length, slice_set, sym, ap, subst, ◌∙◌, arith, IfOk, TellsAt, answer_of}
use Rattle.peers.proofs.Common.{done, Document, Does, [], IsWellFormedDocument, peer_create, Makes, changed, World}
use Rattle.peers.proofs.Common.{all_windows, document_at, windows_of, AreTold, Change, Outcome, PeerCreate, called}
use Rattle.peers.proofs.Common.{request_step, widget_of, words_of}
use Rattle.peers.specs.Told.{answered}
use Rattle.peers.proofs.FrontLaws.{set-at}
use Rattle.peers.proofs.HomeStepLaws.{does-form, does-refuse, does-world}
use Rattle.peers.proofs.ToldLaws.{answer-answered, answered-unmarked}
use Rattle.peers.proofs.ToldStepLaws.{peer-tells}
use Rattle.peers.proofs.WorldLaws.{all-at, read-is, with_all}
use Rattle.peers.proofs.world.World.on_seat.Goals.{After-carry_out, After-create_peer-made}
use Rattle.peers.proofs.world.World.on_seat.Goals as goal

pub index_mut-requires : goal.index_mut-requires
index_mut-requires g c =
    let within = subst (λ (w : World). c.args.place < length w.documents) (sym c.self-in_default.view_is) c.requires.place in
    omega (arith, within, c.self-in_default.inside.documents.list.ok.0)

pub carry_out-requires : goal.carry_out-requires
carry_out-requires g c =
    let documents = c.self-in_default.inside.documents.list.items in let limits = c.self-in_default.inside.limits in
    let request = c.args.request.now in
    let within = subst (λ (w : World). c.args.place < length w.documents) (sym c.self-in_default.view_is) c.requires.place in
    let lent = read-is documents c.args.place c.index_mut.result.now within c.index_mut.ensures.value in
    record {
      shown = subst (λ (d : Document). request.caller.seat < length d.widgets) (sym lent)
          (subst (λ (w : World). request.caller.seat < length (document_at w.documents c.args.place).widgets)
          (sym c.self-in_default.view_is) c.requires.shown);
      formed = subst (λ limits. IsWellFormedDocument limits c.index_mut.result.now)
          (ap (λ (w : World). w.limits) c.self-in_default.view_is ∙ sym c.requires.limits)
          (subst (IsWellFormedDocument limits) (sym lent)
          (all-at (IsWellFormedDocument limits) documents c.args.place c.self-in_default.invariant.documents within));
      own = c.in_default.not-PeerCreate;
    }

-- what the command does to that document
does : (g : _) (c : After-carry_out g) → (within : c.args.place < length c.self-in_default.inside.documents.list.items)
    → let documents = c.self-in_default.inside.documents.list.items in let old = document_at documents c.args.place in
    Does c.self-in_default.inside.limits old c.carry_out.new.document (answer_of c.carry_out.result)
    (done c.args.command old (called (windows_of documents) old c.args.request.now))
does g c within =
    let documents = c.self-in_default.inside.documents.list.items in let request = c.args.request.now in
    let windows = windows_of documents in let old = document_at documents c.args.place in
    subst (λ limits. Does limits old c.carry_out.new.document (answer_of c.carry_out.result)
    (done c.args.command old (called windows old request)))
    (c.requires.limits ∙ sym (ap (λ (w : World). w.limits) c.self-in_default.view_is))
    (subst (λ (d : Document). Does request.caller.limits.now d c.carry_out.new.document (answer_of c.carry_out.result)
    (done c.args.command d (called windows d request)))
    (read-is documents c.args.place c.index_mut.result.now within c.index_mut.ensures.value)
    (c.carry_out.ensures.does windows))

pub invariant_of-self : goal.invariant_of-self
invariant_of-self g c =
    let documents = c.self-in_default.inside.documents.list.items in
    let within = subst (λ (w : World). c.args.place < length w.documents) (sym c.self-in_default.view_is) c.requires.place in
    let done = does g (goal.at.invariant_of-self g c).After-carry_out within in
    does-form documents c.args.place done c.self-in_default.invariant within

-- a peer that is made, as a step of the request
made : (g : _) (c : After-create_peer-made g) → c.args.command ≡ PeerCreate
    → let world = c.args.self.now in let document = document_at world.documents c.args.place in
    let request = c.args.request.now in
    changed world c.args.place (peer_create world.limits (all_windows world) document (widget_of document request)
    request.position (words_of request)) ≡ request_step world c.args.place c.args.command request
made g c is =
    let world = c.args.self.now in let document = document_at world.documents c.args.place in
    let request = c.args.request.now in
    ap (λ limits. changed world c.args.place (peer_create limits (all_windows world) document
    (widget_of document request) request.position (words_of request))) (sym c.requires.limits)
    ∙ ap (λ which. changed world c.args.place (done which document (called (all_windows world) document request)))
    (sym is)

pub returns-in-PeerCreate-clause-makes : goal.returns-in-PeerCreate-clause-makes
returns-in-PeerCreate-clause-makes g c =
    let at = (goal.at.returns-in-PeerCreate-clause-makes g c).After-create_peer-made in
    let world = c.args.self.now in
    subst (λ reply. Makes world c.create_peer-made.new.self reply
    (request_step world c.args.place c.args.command c.args.request.now))
    (sym (ap answer_of c.answered.ensures ∙ answer-answered c.create_peer-made.result))
    (subst (Makes world c.create_peer-made.new.self c.create_peer-made.result) (made g at c.in-PeerCreate.is)
    c.create_peer-made.ensures)

pub returns-in-PeerCreate-clause-tells : goal.returns-in-PeerCreate-clause-tells
returns-in-PeerCreate-clause-tells g c = λ _.
    let at = (goal.at.returns-in-PeerCreate-clause-tells g c).After-create_peer-made in
    let world = c.args.self.now in let new = c.create_peer-made.new.self in let request = c.args.request.now in
    subst (λ told. IfOk told (λ told. TellsAt world new (Some c.args.place)
    (request_step world c.args.place c.args.command request).edits told.edit)) (sym c.answered.ensures)
    (subst (λ (step : Outcome). IfOk (answered c.create_peer-made.result) (λ told.
    TellsAt world new (Some c.args.place) step.edits told.edit)) (made g at c.in-PeerCreate.is)
    (peer-tells world new c.args.place request.position (words_of request)
    (widget_of (document_at world.documents c.args.place) request) c.create_peer-made.result c.requires.place
    c.create_peer-made.ensures))

pub returns-in-PeerCreate-clause-unmarked : goal.returns-in-PeerCreate-clause-unmarked
returns-in-PeerCreate-clause-unmarked g c =
    subst (λ made. IfOk made (λ told. told.marks ≡ [])) (sym c.answered.ensures)
    (answered-unmarked c.create_peer-made.result)

-- what the command reports of that document, as it is in the world afterwards
tells : (g : _) (c : After-carry_out g) → (within : c.args.place < length c.self-in_default.inside.documents.list.items)
    → let documents = c.self-in_default.inside.documents.list.items in let old = document_at documents c.args.place in
    AreTold c.args.request.now.caller.follows
    (done c.args.command old (called (windows_of documents) old c.args.request.now)) old
    (document_at (slice_set documents c.args.place c.carry_out.new.document) c.args.place) c.carry_out.result
tells g c within =
    let documents = c.self-in_default.inside.documents.list.items in let old = document_at documents c.args.place in
    let new = c.carry_out.new.document in let request = c.args.request.now in
    let change : Document → Change = λ d. done c.args.command d (called (windows_of documents) d request) in
    subst (λ (d : Document). AreTold request.caller.follows (change old) old d c.carry_out.result)
    (sym (set-at documents c.args.place new within))
    (subst (λ (d : Document). AreTold request.caller.follows (change d) d new c.carry_out.result)
    (read-is documents c.args.place c.index_mut.result.now within c.index_mut.ensures.value)
    (c.carry_out.ensures.tells (windows_of documents)))

pub returns-in_default : goal.returns-in_default
returns-in_default g c =
    let documents = c.self-in_default.inside.documents.list.items in
    let limits = c.self-in_default.inside.limits in let request = c.args.request.now in
    let at = (goal.at.returns-in_default g c).After-carry_out in
    let within = subst (λ (w : World). c.args.place < length w.documents) (sym c.self-in_default.view_is) c.requires.place in
    let done = does g at within in
    let after : World = with_all limits (slice_set documents c.args.place c.carry_out.new.document) in
    record {
      makes = subst (λ (w : World).
          Makes w after (answer_of c.carry_out.result) (request_step w c.args.place c.args.command request))
          c.self-in_default.view_is (record {
            reply = done.reply;
            world = does-world documents c.args.place done;
            refused = does-refuse documents c.args.place done;
            well_formed = does-form documents c.args.place done c.self-in_default.invariant within;
          });
      tells = λ follows. subst (λ (w : World). IfOk c.carry_out.result (λ told. TellsAt w after (Some c.args.place)
          (request_step w c.args.place c.args.command request).edits told.edit)) c.self-in_default.view_is
          (tells g at within follows);
      unmarked = c.carry_out.ensures.unmarked;
      frugal = c.carry_out.ensures.frugal;
    }
