use Rattle.peers.proofs.Common.{◌≡◌, ◌+◌, ap, sym, subst, ◌∙◌, chars, Ok, Err, Document, Gives, place_at, widget_at}
use Rattle.peers.proofs.Common.{widget_of, words_of, Flag, BadComparison, comparison_of, ok_or}
use Rattle.peers.proofs.CompareLaws.{compare-fault, compare-found}
use Rattle.peers.proofs.PromiseLaws.{fault-defined, faulted, value-defined}
use Rattle.peers.proofs.indices.compare.Given.{Over}
use Rattle.peers.proofs.indices.compare.Goals.{After-seek-2, In_ok-comparison, In_ok-from}
use Rattle.peers.proofs.indices.compare.Goals as goal

-- where the first index is found
first-there : (g : Over) (c : In_ok-from g)
    → place_at c.args.document.now (widget_of c.args.document.now c.args.request.now) c.args.request.now.position
    (chars c.in_ok-left.left.now) ≡ Ok c.in_ok-from.from
first-there g c =
    value-defined c.seek.result (place_at c.args.document.now (widget_of c.args.document.now c.args.request.now)
    c.args.request.now.position (chars c.in_ok-left.left.now)) c.in_ok-from.from c.seek.ensures.value c.in_ok-from.was

-- what the operator is
operator-read : (g : Over) (c : In_ok-comparison g)
    → ok_or (comparison_of (chars c.in_ok-left.operator.now)) (BadComparison (c.args.request.now.position + 1))
    ≡ Ok c.in_ok-comparison.comparison
operator-read g c =
    ap (λ found. ok_or found (BadComparison (c.args.request.now.position + 1))) (sym c.read.ensures)
    ∙ sym c.ok_or.ensures.value ∙ c.in_ok-comparison.was

-- what the second index gives in the document, which is as it was
second-gives : (g : Over) (c : After-seek-2 g)
    → Gives c.seek-2.result (place_at c.args.document.now (widget_of c.args.document.now c.args.request.now)
    (c.args.request.now.position + 2) (chars c.in_ok-left.right.now))
second-gives g c =
    let request = c.args.request.now in
    subst (λ (d : Document). Gives c.seek-2.result (place_at d (widget_at d request.caller.seat) (request.position + 2)
    (chars c.in_ok-left.right.now))) c.seek.ensures.same c.seek-2.ensures.value

pub returns-in_err-to-clause-value : goal.returns-in_err-to-clause-value
returns-in_err-to-clause-value g c = λ other.
    let at = goal.at.returns-in_err-to-clause-value g c in
    let document = c.args.document.now in let request = c.args.request.now in
    let widget = widget_of document request in
    let words = c.in_ok-left in
    let fault = c.in_err-to.field-0.0 in
    let is = faulted c.from_residual-in_err-to.result fault c.from_residual-in_err-to.ensures in
    is ∙ sym (compare-fault document widget request.position (words_of request) (chars words.left.now)
    (chars words.operator.now) (chars words.right.now) c.in_ok-from.from c.in_ok-comparison.comparison words.ensures.ok
    (first-there g at.In_ok-from) (operator-read g at.In_ok-comparison) fault
    (fault-defined c.seek-2.result (place_at document widget (request.position + 2) (chars words.right.now)) fault
    (second-gives g at.After-seek-2) c.in_err-to.was (λ memory. other (is ∙ ap Err memory))))

pub returns-clause-value : goal.returns-clause-value
returns-clause-value g c = λ _.
    let at = goal.at.returns-clause-value g c in
    let document = c.args.document.now in let request = c.args.request.now in
    let widget = widget_of document request in
    let words = c.in_ok-left in
    let to = c.in_ok-to.to in
    ap (λ flag. Ok (Flag flag)) c.holds.ensures
    ∙ sym (compare-found document widget request.position (words_of request) (chars words.left.now)
    (chars words.operator.now) (chars words.right.now) c.in_ok-from.from c.in_ok-comparison.comparison words.ensures.ok
    (first-there g at.In_ok-from) (operator-read g at.In_ok-comparison) to
    (value-defined c.seek-2.result (place_at document widget (request.position + 2) (chars words.right.now)) to
    (second-gives g at.After-seek-2) c.in_ok-to.was))
