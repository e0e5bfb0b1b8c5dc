use Rattle.peers.proofs.Common.{◌≤◌, ◌∷◌, [], ℕ, length, ◌+◌, chars, All-append, All-cons, All-nil, place_at, shown}
use Rattle.peers.proofs.Common.{◌≡◌, ◌≢◌, ◌∙◌, Err, IfErr, Memory, subst, sym, places_at, texts_of, widget_at, Gives}
use Rattle.peers.proofs.Common.{Document}
use Rattle.peers.proofs.PlaceLaws.{found-more, found-fault}
use Rattle.peers.proofs.PromiseLaws.{fault-defined, faulted, value-defined}
use Rattle.peers.proofs.ranges.places_at.Given.{Over}
use Rattle.peers.proofs.ranges.places_at.Goals.{After-seek}
use Rattle.peers.proofs.ranges.places_at.Goals as goal

-- the place of an index in the document, which is as it was
gives : (g : Over) (c : After-seek g) → Gives c.seek.result (place_at c.args.document.now
    (widget_at c.args.document.now c.args.seat) (c.args.position + c.loop-index.index) (chars c.as_str.result.now))
gives g c =
    subst (λ (d : Document). Gives c.seek.result (place_at d (widget_at d c.args.seat)
    (c.args.position + c.loop-index.index) (chars c.as_str.result.now))) c.loop-index.invariant.same c.seek.ensures.value

pub returns-in_err-place-clause-err : goal.returns-in_err-place-clause-err
returns-in_err-place-clause-err g c =
    let document = c.args.document.now in let widget = widget_at document c.args.seat in
    let fault = c.in_err-place.field-0.0 in
    subst (λ result. IfErr result (λ fault. fault ≢ Memory
    → places_at document widget c.args.position (texts_of c.args.words.now) ≡ Err fault))
    (sym (faulted c.from_residual-in_err-place.result fault c.from_residual-in_err-place.ensures)) (λ other.
    found-fault document widget c.args.position c.loop-index.index c.args.words.now
    c.index-words-index.result c.as_str.result.now c.loop-index.places.items
    c.loop-index-test.true c.index-words-index.is c.as_str.ensures.value c.loop-index.invariant.found fault
    (fault-defined c.seek.result (place_at document widget (c.args.position + c.loop-index.index)
    (chars c.as_str.result.now)) fault (gives g (goal.at.returns-in_err-place-clause-err g c).After-seek)
    c.in_err-place.was other))

pub loop-index-preserved : goal.loop-index-preserved
loop-index-preserved g c =
    let document = c.args.document.now in
    let holds = λ (place : ℕ). place ≤ length (shown document (widget_at document c.args.seat)) in
    let within = subst (λ (d : Document). c.in_ok-place.place ≤ length (shown d (widget_at d c.args.seat)))
    c.loop-index.invariant.same c.in_ok-place.ensures.within in
    record {
      same = c.seek.ensures.same ∙ c.loop-index.invariant.same;
      found = rw c.in_ok-push.ensures.ok
          (found-more document (widget_at document c.args.seat) c.args.position c.loop-index.index c.args.words.now
          c.index-words-index.result c.as_str.result.now c.loop-index.places.items
          c.loop-index-test.true c.index-words-index.is c.as_str.ensures.value c.loop-index.invariant.found
          c.in_ok-place.place
          (value-defined c.seek.result (place_at document (widget_at document c.args.seat)
          (c.args.position + c.loop-index.index) (chars c.as_str.result.now)) c.in_ok-place.place
          (gives g (goal.at.loop-index-preserved g c).After-seek) c.in_ok-place.was));
      within = rw c.in_ok-push.ensures.ok
          (All-append holds c.loop-index.places.items (c.in_ok-place.place ∷ []) c.loop-index.invariant.within
          (All-cons holds c.in_ok-place.place [] within (All-nil holds)));
    }
