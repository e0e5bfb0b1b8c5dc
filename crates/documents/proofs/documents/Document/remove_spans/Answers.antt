use Rattle.documents.proofs.Common.{LimitTable, Ok, ap, sym, ◌∙◌, chars, is_some, front_same, log_of, state_of}
use Rattle.documents.proofs.Common.{parts_of, remove_spans, widget_at}
use Rattle.documents.proofs.ChangeLaws.{does-nothing, some_limits}
use Rattle.documents.proofs.PartsLaws.{sits, stand}
use Rattle.documents.proofs.SettledLaws.{IsSettled}
use Rattle.documents.proofs.SpanLaws.{fit-kept, removed-by, settled-removed}
use Rattle.documents.proofs.StateLaws.{with_state}
use Rattle.documents.proofs.documents.Document.remove_spans.Given.{Over}
use Rattle.documents.proofs.documents.Document.remove_spans.Goals.{In_ok-set_slot}
use Rattle.documents.proofs.documents.Document.remove_spans.Goals as goal

pub returns-in_default-clause-does : goal.returns-in_default-clause-does
returns-in_default-clause-does g c = λ limits.
    does-nothing limits c.args.self.now _ (removed-by c.args.caller.now.seat c.number.result (chars c.args.name.now)
    c.args.places.now (stand c.self.invariant c.self.view_is) (ap is_some (sym c.in_default.ensures.value)))

pub set_slot-requires-clause-spans : goal.set_slot-requires-clause-spans
set_slot-requires-clause-spans g c =
    fit-kept (stand c.self.invariant c.self.view_is) c.as_slice-spans.ensures c.in_ok-ranges.ensures.fit

-- what is left where the tag was taken off, and reported
done : (g : Over) (c : In_ok-set_slot g) (limits : LimitTable)
    → IsSettled limits (with_state (parts_of g.S.TextStore.content c.self.inside) (state_of
    (g.S.TextStore.content c.set_slot.new.text.store) c.set_slot.new.text.anchors.items
    (log_of c.set_slot.new.text.history))) c.args.self.now c.args.caller.now.follows (Ok c.in_ok-told.told)
    (remove_spans c.args.self.now (widget_at c.args.self.now c.args.caller.now.seat) (chars c.args.name.now)
    c.args.places.now)
done g c limits =
    let stands = stand c.self.invariant c.self.view_is in
    settled-removed c.args.places.now stands (sits c.args.caller.now.seat stands c.number.ensures.value) (record {
      slot = c.in-Some.slot.0;
      front = front_same c.self.inside.tags;
      sound = stands.sound.kept.tags;
      is = c.in-Some.ensures.value;
      fit = fit-kept stands c.as_slice-spans.ensures c.in_ok-ranges.ensures.fit;
      content = c.in_ok-set_slot.ensures.ok;
      anchors = c.in_ok-set_slot.ensures.anchors;
      log = c.in_ok-set_slot.ensures.log;
    }) (c.as_slice-spans.ensures ∙ c.in_ok-ranges.ensures.value) c.in_ok-told.ensures

pub invariant_of-self-2 : goal.invariant_of-self-2
invariant_of-self-2 g c = (done g (goal.at.invariant_of-self-2 g c).In_ok-set_slot some_limits).sound

pub returns-clause-does : goal.returns-clause-does
returns-clause-does g c = λ limits. (done g (goal.at.returns-clause-does g c).In_ok-set_slot limits).does

pub returns-clause-told : goal.returns-clause-told
returns-clause-told g c = (done g (goal.at.returns-clause-told g c).In_ok-set_slot some_limits).told
