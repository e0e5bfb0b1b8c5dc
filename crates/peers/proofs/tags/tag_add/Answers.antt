use Rattle.peers.proofs.Common.{subst, chars, Document, Does, IsTold, reply_of, add_spans, widget_at}
use Rattle.peers.proofs.tags.tag_add.Goals as goal

pub returns-clause-does : goal.returns-clause-does
returns-clause-does g c =
    let seat = c.args.request.now.caller.seat in
    let limits = c.args.request.now.caller.limits.now in
    rw (c.in_ok-name.ensures.ok, c.in_ok-places.ensures.ok, ← c.deref.ensures)
    (subst (λ (document : Document). Does limits document c.add_spans.new.self (reply_of c.add_spans.result)
    (add_spans limits document (widget_at document seat) (chars c.in_ok-name.name.now) c.deref.result.now))
    c.places_at.ensures.same c.add_spans.ensures.does)

pub returns-clause-told : goal.returns-clause-told
returns-clause-told g c =
    let seat = c.args.request.now.caller.seat in
    rw (c.in_ok-name.ensures.ok, c.in_ok-places.ensures.ok, ← c.deref.ensures)
    (subst (λ (document : Document). IsTold c.args.request.now.caller.follows
    (add_spans c.args.request.now.caller.limits.now document (widget_at document seat) (chars c.in_ok-name.name.now)
    c.deref.result.now) document c.add_spans.new.self c.add_spans.result) c.places_at.ensures.same
    c.add_spans.ensures.told)
