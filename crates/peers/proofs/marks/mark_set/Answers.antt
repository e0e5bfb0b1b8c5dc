use Rattle.peers.proofs.Common.{ap, ◌∙◌, ◌+◌, subst, chars, Document, Does, widget_at, widget_of, place_at, mark_offset}
use Rattle.peers.proofs.Common.{place_named, set_found}
use Rattle.peers.proofs.PromiseLaws.{value-defined}
use Rattle.peers.proofs.marks.mark_set.Goals as goal

pub returns : goal.returns
returns g c =
    let document = c.args.document.now in let request = c.args.request.now in
    let seat = request.caller.seat in
    let limits = request.caller.limits.now in
    let name = chars c.in_ok-name.name.now in
    let same = c.seek.ensures.same in
    let place = value-defined c.seek.result
    (place_at document (widget_of document request) (request.position + 1) (chars c.in_ok-name.word.now))
    c.in_ok-place.place c.seek.ensures.value c.in_ok-place.was in
    let offset = c.mark_offset-offset.ensures.value
    ∙ ap (λ (document : Document). mark_offset document (widget_at document seat) name c.in_ok-place.place) same in
    rw (c.in_ok-name.ensures.ok, place, ← offset)
    (subst (λ (document : Document). Does limits document c.set_mark.new.self c.set_mark.result
    (set_found limits document (widget_at document seat) name c.mark_offset-offset.result
    (place_named document (widget_at document seat) name))) same c.set_mark.ensures)
