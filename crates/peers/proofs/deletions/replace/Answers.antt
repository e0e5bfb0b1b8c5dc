use Rattle.peers.proofs.Common.{◌≡◌, ◌+◌, false, arith, nat_lt, nat_tests, chars, place_at, widget_of}
use Rattle.peers.proofs.PromiseLaws.{value-defined}
use Rattle.peers.proofs.deletions.replace.Goals as goal

pub returns-clause-does : goal.returns-clause-does
returns-clause-does g c =
    let document = c.args.document.now in let request = c.args.request.now in
    let widget = widget_of document request in
    let first = value-defined c.place_at.result
    (place_at document widget request.position (chars c.in_ok-first.first.now)) c.in_ok-from.from
    c.place_at.ensures.value c.in_ok-from.was in
    let second = value-defined c.place_at-2.result
    (place_at document widget (request.position + 1) (chars c.in_ok-first.second.now)) c.in_ok-to.to
    c.place_at-2.ensures.value c.in_ok-to.was in
    let ordered = c.if-to-from.false in
    let in_order : nat_lt c.in_ok-to.to c.in_ok-from.from ≡ false = grind (arith, nat_tests) in
    rw (c.in_ok-first.ensures.ok, first, second, c.in_ok-pairs.ensures.ok, in_order, ← c.if-is_idle.ensures)
    c.replace_between.ensures.does
