use Rattle.peers.proofs.Common.{ap, ◌∙◌, subst, Document, Does, IsTold, reply_of, delete_places, is_idle, widget_at}
use Rattle.peers.proofs.deletions.delete.Goals as goal

pub returns-clause-does : goal.returns-clause-does
returns-clause-does g c = λ limits.
    let seat = c.args.request.now.caller.seat in
    let idle = c.if-is_idle.ensures
    ∙ ap (λ (document : Document). is_idle document (widget_at document seat)) c.places_at.ensures.same in
    rw (c.in_ok-places.ensures.ok, ← c.deref.ensures, ← idle)
    (subst (λ (document : Document). Does limits document c.delete_places.new.self (reply_of c.delete_places.result)
    (delete_places document (widget_at document seat) c.deref.result.now)) c.places_at.ensures.same
    (c.delete_places.ensures.does limits))

pub returns-clause-told : goal.returns-clause-told
returns-clause-told g c =
    let seat = c.args.request.now.caller.seat in
    let idle = c.if-is_idle.ensures
    ∙ ap (λ (document : Document). is_idle document (widget_at document seat)) c.places_at.ensures.same in
    rw (c.in_ok-places.ensures.ok, ← c.deref.ensures, ← idle)
    (subst (λ (document : Document). IsTold c.args.request.now.caller.follows
    (delete_places document (widget_at document seat) c.deref.result.now) document c.delete_places.new.self
    c.delete_places.result) c.places_at.ensures.same c.delete_places.ensures.told)
