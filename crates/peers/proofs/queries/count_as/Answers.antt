use Rattle.peers.proofs.Common.{◌≡◌, ◌+◌, ap, sym, subst, ◌∙◌, chars, Ok, Err, Document, Text, Gives, place_at, shown}
use Rattle.peers.proofs.Common.{widget_at, widget_of}
use Rattle.search_dump.specs.Counts.{counted}
use Rattle.tcl_words.specs.ListText.{list_text}
use Rattle.peers.proofs.CountLaws.{count-fault, count-found}
use Rattle.peers.proofs.PromiseLaws.{fault-defined, faulted, value-defined}
use Rattle.peers.proofs.queries.count_as.Given.{Over}
use Rattle.peers.proofs.queries.count_as.Goals.{After-seek-2, In_ok-from}
use Rattle.peers.proofs.queries.count_as.Goals as goal

-- where the first index is found
first-there : (g : Over) (c : In_ok-from g)
    → place_at c.args.document.now (widget_of c.args.document.now c.args.request.now) c.args.request.now.position
    (chars c.args.first.now) ≡ Ok c.in_ok-from.from
first-there g c =
    value-defined c.seek.result (place_at c.args.document.now (widget_of c.args.document.now c.args.request.now)
    c.args.request.now.position (chars c.args.first.now)) c.in_ok-from.from c.seek.ensures.value c.in_ok-from.was

-- what the second one gives in the document, which is as it was
second-gives : (g : Over) (c : After-seek-2 g)
    → Gives c.seek-2.result (place_at c.args.document.now (widget_of c.args.document.now c.args.request.now)
    (c.args.request.now.position + 1) (chars c.args.second.now))
second-gives g c =
    let request = c.args.request.now in
    subst (λ (d : Document). Gives c.seek-2.result (place_at d (widget_at d request.caller.seat) (request.position + 1)
    (chars c.args.second.now))) c.seek.ensures.same c.seek-2.ensures.value

pub returns-in_err-to-clause-value : goal.returns-in_err-to-clause-value
returns-in_err-to-clause-value g c = λ other.
    let at = goal.at.returns-in_err-to-clause-value g c in
    let document = c.args.document.now in let request = c.args.request.now in
    let widget = widget_of document request in
    let fault = c.in_err-to.field-0.0 in
    let is = faulted c.from_residual-in_err-to.result fault c.from_residual-in_err-to.ensures in
    let second = chars c.args.second.now in
    is ∙ sym (count-fault document widget c.args.options.now request.position (chars c.args.first.now) second
    c.in_ok-from.from (first-there g at.In_ok-from) fault
    (fault-defined c.seek-2.result (place_at document widget (request.position + 1) second) fault
    (second-gives g at.After-seek-2) c.in_err-to.was (λ memory. other (is ∙ ap Err memory))))

pub returns-clause-value : goal.returns-clause-value
returns-clause-value g c = λ _.
    let at = goal.at.returns-clause-value g c in
    let document = c.args.document.now in let request = c.args.request.now in
    let widget = widget_of document request in
    let seat = request.caller.seat in
    let second = chars c.args.second.now in
    let from = c.in_ok-from.from in
    let to = c.in_ok-to.to in
    let same = c.seek-2.ensures.same ∙ c.seek.ensures.same in
    ap (λ list. Ok (Text list)) (c.in_ok-counts_of.ensures
    ∙ ap (λ (d : Document). list_text (counted c.args.options.now (shown d (widget_at d seat)) from to)) same)
    ∙ sym (count-found document widget c.args.options.now request.position (chars c.args.first.now) second from
    (first-there g at.In_ok-from) to
    (value-defined c.seek-2.result (place_at document widget (request.position + 1) second) to
    (second-gives g at.After-seek-2) c.in_ok-to.was))
