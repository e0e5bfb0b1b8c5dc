use Rattle.documents.proofs.Common.{true, arith, LimitTable, sym, ap, ◌∙◌, refused, Ok, known_tags, sel, slot_of}
use Rattle.documents.proofs.Common.{log_of, state_of, tagged, widget_at, parts_of, Stands, add_spans, chars, take}
use Rattle.documents.proofs.ChangeLaws.{leaves-left}
use Rattle.documents.proofs.InsertionLaws.{stands-back, with_tags}
use Rattle.documents.proofs.PartsLaws.{sits, stand}
use Rattle.documents.proofs.SettledLaws.{IsSettled}
use Rattle.documents.proofs.SpanLaws.{added-left, fit-kept, found_by, settled-added}
use Rattle.documents.proofs.StateLaws.{with_state}
use Rattle.documents.proofs.documents.Document.add_spans.Given.{Over}
use Rattle.documents.proofs.documents.Document.add_spans.Goals.{In-Ok, After-truncate}
use Rattle.documents.proofs.documents.Document.add_spans.Goals as goal

pub tag_spans-requires-clause-spans : goal.tag_spans-requires-clause-spans
tag_spans-requires-clause-spans g c =
    fit-kept (stand c.self.invariant c.self.view_is) c.as_slice-spans.ensures c.in_ok-ranges.ensures.fit

pub truncate-requires : goal.truncate-requires
truncate-requires g c =
    ap (λ n. slot_of sel (take n c.tag_spans.new.tags.tags)) c.len-front.ensures.value
    ∙ ap (slot_of sel) c.in-Err.ensures.front.tags ∙ c.len-front.ensures.sound.selection

-- what is left where the tag was put on, and reported
done : (g : Over) (c : In-Ok g)
    → IsSettled c.args.caller.now.limits.now (with_state (with_tags c.tag_spans.new.tags
    (parts_of g.S.TextStore.content c.self.inside)) (state_of (g.S.TextStore.content c.tag_spans.new.text.store)
    c.tag_spans.new.text.anchors.items (log_of c.tag_spans.new.text.history))) c.args.self.now
    c.args.caller.now.follows (Ok c.in_ok-told.told) (add_spans c.args.caller.now.limits.now c.args.self.now
    (widget_at c.args.self.now c.args.caller.now.seat) (chars c.args.name.now) c.args.places.now)
done g c =
    let parts = parts_of g.S.TextStore.content c.self.inside in
    let new = c.tag_spans.new in
    let stands = stand c.self.invariant c.self.view_is in
    let few = c.in-Ok.ensures.few in
    let most = ap (λ (limits : LimitTable). limits.tags) c.rules-rules.ensures.limits in
    let found = found_by (λ slot. tagged slot true c.as_slice-spans.result.now parts.content)
    (known_tags new.tags.tags c.number.result (chars c.args.name.now)) (g.S.TextStore.content new.text.store)
    c.in-Ok.ensures.ok in
    settled-added c.args.places.now stands (sits c.args.caller.now.seat stands c.number.ensures.value) (record {
      slot = found.0;
      front = c.in-Ok.ensures.front;
      sound = c.in-Ok.ensures.sound;
      is = found.1;
      fit = fit-kept stands c.as_slice-spans.ensures c.in_ok-ranges.ensures.fit;
      content = found.2;
      anchors = c.in-Ok.ensures.anchors;
      log = c.in-Ok.ensures.log;
    }) (c.as_slice-spans.ensures ∙ c.in_ok-ranges.ensures.value) c.in-Ok.ensures.made (omega (arith, few, most))
    c.in_ok-told.ensures

pub invariant_of-self : goal.invariant_of-self
invariant_of-self g c = (done g (goal.at.invariant_of-self g c).In-Ok).sound

pub returns-in-Ok-clause-does : goal.returns-in-Ok-clause-does
returns-in-Ok-clause-does g c = (done g (goal.at.returns-in-Ok-clause-does g c).In-Ok).does

pub returns-in-Ok-clause-told : goal.returns-in-Ok-clause-told
returns-in-Ok-clause-told g c = (done g (goal.at.returns-in-Ok-clause-told g c).In-Ok).told

-- nothing is left of what was refused
back : (g : Over) (c : After-truncate g)
    → Stands (with_state (with_tags c.truncate.new.self (parts_of g.S.TextStore.content c.self.inside)) (state_of
    (g.S.TextStore.content c.tag_spans.new.text.store) c.tag_spans.new.text.anchors.items
    (log_of c.tag_spans.new.text.history))) c.args.self.now
back g c =
    stands-back (stand c.self.invariant c.self.view_is) c.len-front.ensures.value c.in-Err.ensures.front
    c.truncate.ensures c.in-Err.ensures.err c.in-Err.ensures.log c.in-Err.ensures.anchors

pub invariant_of-self-in-Err : goal.invariant_of-self-in-Err
invariant_of-self-in-Err g c = (back g c).sound

pub returns-clause-does : goal.returns-clause-does
returns-clause-does g c =
    let most = ap (λ (limits : LimitTable). limits.tags) c.rules-rules.ensures.limits in
    (leaves-left (back g (goal.at.returns-clause-does g c).After-truncate) (λ other.
    let found = c.in-Err.ensures.fault other in
    added-left c.args.caller.now.limits.now c.args.caller.now.seat (chars c.args.name.now) c.args.places.now
    (stand c.self.invariant c.self.view_is) (omega (arith, found.1, most))
    ∙ ap (refused c.args.self.now) (sym found.0))).does
