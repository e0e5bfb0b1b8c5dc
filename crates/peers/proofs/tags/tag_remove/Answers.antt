use Rattle.peers.proofs.Common.{subst, chars, Document, Does, reply_of, remove_spans, widget_at}
use Rattle.peers.proofs.tags.tag_remove.Goals as goal

pub returns-clause-does : goal.returns-clause-does
returns-clause-does g c = λ limits.
    let seat = c.args.request.now.caller.seat in
    rw (c.in_ok-name.ensures.ok, c.in_ok-places.ensures.ok, ← c.deref.ensures)
    (subst (λ (document : Document). Does limits document c.remove_spans.new.self (reply_of c.remove_spans.result)
    (remove_spans document (widget_at document seat) (chars c.in_ok-name.name.now) c.deref.result.now))
    c.places_at.ensures.same (c.remove_spans.ensures.does limits))
