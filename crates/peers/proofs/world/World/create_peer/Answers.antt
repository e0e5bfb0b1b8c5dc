use Rattle.peers.proofs.Common.{◌≡◌, ◌+◌, ◌<◌, length, true, false, sym, ap, subst, ◌∙◌, chars, texts_of, Document}
use Rattle.peers.proofs.Common.{is_window_name, settings_given, Makes, changed, IsWellFormed, peer_settings, World}
use Rattle.peers.proofs.Common.{all_windows, document_at, peer_create, InvalidCommandName, widget_of, words_of}
use Rattle.peers.proofs.MakesLaws.{changed-refuses, makes-refused}
use Rattle.peers.proofs.PeerLaws.{bad-peer, good-peer, no-peer, unnamed-peer}
use Rattle.peers.proofs.PromiseLaws.{faulted}
use Rattle.peers.proofs.WorldLaws.{read-is}
use Rattle.peers.proofs.world.World.create_peer.Goals as goal

pub returns-in_err-name : goal.returns-in_err-name
returns-in_err-name g c =
    let world = c.args.self.now in let request = c.args.request.now in
    let document = document_at world.documents c.args.place in
    let fault = c.in_err-name.field-0.0 in
    let change = no-peer world.limits (all_windows world) document (widget_of document request) request.position
    (words_of request) fault c.in_err-name.ensures.err in
    let outcome = changed world c.args.place (peer_create world.limits (all_windows world) document
    (widget_of document request) request.position (words_of request)) in
    subst (λ result. Makes world world result outcome)
    (sym (faulted c.from_residual.result fault c.from_residual.ensures))
    (makes-refused world fault outcome (subst IsWellFormed c.self.view_is c.self.invariant)
    (ap (changed world c.args.place) change ∙ changed-refuses world c.args.place fault))

pub returns-then-not-is_window_name : goal.returns-then-not-is_window_name
returns-then-not-is_window_name g c =
    let world = c.args.self.now in let request = c.args.request.now in
    let document = document_at world.documents c.args.place in
    let unnamed : is_window_name (chars c.in_ok-name.name.now) ≡ false =
    sym c.is_window_name.ensures ∙ c.if-not-is_window_name.true in
    let change = unnamed-peer world.limits (all_windows world) document (widget_of document request) request.position
    (words_of request) (chars c.in_ok-name.name.now) (texts_of c.in_ok-name.words.now)
    c.in_ok-name.ensures.ok unnamed in
    makes-refused world (InvalidCommandName request.position) _ (subst IsWellFormed c.self.view_is c.self.invariant)
    (ap (changed world c.args.place) change ∙ changed-refuses world c.args.place (InvalidCommandName request.position))

pub returns-in_err-settings : goal.returns-in_err-settings
returns-in_err-settings g c =
    let world = c.args.self.now in let request = c.args.request.now in
    let document = document_at world.documents c.args.place in
    let options = texts_of c.in_ok-name.words.now in
    let within = subst (λ (w : World). c.args.place < length w.documents) (sym c.self.view_is) c.requires.place in
    let read = read-is c.self.inside.documents.list.items c.args.place c.index-document.result.now within
    c.index-document.ensures ∙ ap (λ (w : World). document_at w.documents c.args.place) c.self.view_is in
    let given = ap (λ (d : Document). settings_given d (request.position + 1) options
    (peer_settings d (widget_of d request))) (sym read) ∙ sym c.peer_settings.ensures.value in
    let named : is_window_name (chars c.in_ok-name.name.now) ≡ true = sym c.is_window_name.ensures
    ∙ c.if-not-is_window_name.false in
    let change = bad-peer world.limits (all_windows world) document (widget_of document request) request.position
    (words_of request) (chars c.in_ok-name.name.now) options c.in_ok-name.ensures.ok
    c.in_err-settings.field-0.0 named (given ∙ c.in_err-settings.was) in
    let outcome = changed world c.args.place (peer_create world.limits (all_windows world) document
    (widget_of document request) request.position (words_of request)) in
    subst (λ result. Makes world world result outcome) (sym (faulted c.from_residual-in_err-settings.result
    c.in_err-settings.field-0.0 c.from_residual-in_err-settings.ensures))
    (makes-refused world c.in_err-settings.field-0.0 outcome (subst IsWellFormed c.self.view_is c.self.invariant)
    (ap (changed world c.args.place) change ∙ changed-refuses world c.args.place c.in_err-settings.field-0.0))

pub returns : goal.returns
returns g c =
    let world = c.args.self.now in let request = c.args.request.now in
    let document = document_at world.documents c.args.place in
    let options = texts_of c.in_ok-name.words.now in
    let within = subst (λ (w : World). c.args.place < length w.documents) (sym c.self.view_is) c.requires.place in
    let read = read-is c.self.inside.documents.list.items c.args.place c.index-document.result.now within
    c.index-document.ensures ∙ ap (λ (w : World). document_at w.documents c.args.place) c.self.view_is in
    let given = ap (λ (d : Document). settings_given d (request.position + 1) options
    (peer_settings d (widget_of d request))) (sym read) ∙ sym c.peer_settings.ensures.value in
    let named : is_window_name (chars c.in_ok-name.name.now) ≡ true = sym c.is_window_name.ensures
    ∙ c.if-not-is_window_name.false in
    let change = good-peer world.limits (all_windows world) document (widget_of document request) request.position
    (words_of request) (chars c.in_ok-name.name.now) options c.in_ok-name.ensures.ok
    c.in_ok-settings.settings named (given ∙ c.in_ok-settings.was) in
    subst (Makes world c.add_peer.new.self c.add_peer.result) (sym (ap (changed world c.args.place) change))
    c.add_peer.ensures
