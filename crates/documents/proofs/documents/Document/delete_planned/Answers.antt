use Rattle.documents.proofs.Common.{known-stand, length, arith, ◌≡◌, ap, ◌∙◌, All, LimitTable, Ok, Empty, SpanFits}
use Rattle.documents.proofs.Common.{deleted, log_of, state_of, delete_places, spans_shown, widget_at, parts_of, Content}
use Rattle.documents.proofs.Common.{Document, map, sym, Span, deletion, runs_below, delete_set, in_spans, deletions_in}
use Rattle.documents.proofs.Common.{planned-made, told-planned, edit_fault, refl, IfOk-from_err}
use Rattle.documents.proofs.ChangeLaws.{Leaves, some_limits}
use Rattle.documents.proofs.PartsLaws.{anchors-there, cells-kept, characters-kept, pairs_of, stand}
use Rattle.documents.proofs.RemovalLaws.{leaves-places}
use Rattle.documents.proofs.SpanLaws.{places-within, spans-in}
use Rattle.documents.proofs.ToldLaws.{does-refused}
use Rattle.documents.proofs.StateLaws.{stands-kept, stands-unedited, state_in, with_state}
use Rattle.documents.proofs.ViewLaws.{IsSeen, active-found, end-found-is, see-ends, start-found-is}
use Rattle.documents.proofs.documents.Document.delete_planned.Given.{Over}
use Rattle.documents.proofs.documents.Document.delete_planned.Goals.{After-deref-3, After-drop-spans-2}
use Rattle.documents.proofs.documents.Document.delete_planned.Goals.{After-end_of-end}
use Rattle.documents.proofs.documents.Document.delete_planned.Goals as goal

pub start_of-start-requires : goal.start_of-start-requires
start_of-start-requires g c =
    anchors-there c.args.caller.now.seat (stand c.self.invariant c.self.view_is) c.number-slot.ensures.value c.deref.ensures.value

pub end_of-end-requires : goal.end_of-end-requires
end_of-end-requires g c =
    anchors-there c.args.caller.now.seat (stand c.self.invariant c.self.view_is) c.number-slot.ensures.value
    c.deref-2.ensures.value

-- the view of the widget
seen : (g : Over) (c : After-end_of-end g)
    → IsSeen (parts_of g.S.TextStore.content c.self.inside) c.args.self.now c.args.caller.now.seat c.number-slot.result
    (g.S.TextStore.content c.self.inside.text.store) c.start_of-start.result c.end_of-end.result
seen g c =
    see-ends (stand c.self.invariant c.self.view_is) c.number-slot.ensures.value c.deref.ensures.value
    c.start_of-start.ensures c.deref-2.ensures.value c.len.ensures c.end_of-end.ensures

pub spans_of-requires-clause-within : goal.spans_of-requires-clause-within
spans_of-requires-clause-within g c =
    places-within c.args.places.now (seen g (goal.at.spans_of-requires-clause-within g c).After-end_of-end)
    c.requires.within

-- the spans between the places
spans : (g : Over) (c : After-deref-3 g)
    → (c.deref-3.result.now
    ≡ spans_shown c.args.self.now (widget_at c.args.self.now c.args.caller.now.seat) c.args.places.now)
    × All (SpanFits c.end_of-end.result) c.deref-3.result.now
spans g c =
    spans-in c.args.places.now (seen g (goal.at.plan_delete-requires-clause-spans g c).After-end_of-end)
    c.requires.within c.in_ok-spans.ensures c.deref-3.ensures.value

pub plan_delete-requires-clause-shows : goal.plan_delete-requires-clause-shows
plan_delete-requires-clause-shows g c =
    active-found (seen g (goal.at.plan_delete-requires-clause-shows g c).After-end_of-end) c.requires.active

pub plan_delete-requires-clause-spans : goal.plan_delete-requires-clause-spans
plan_delete-requires-clause-spans g c =
    let fit = (spans g (goal.at.plan_delete-requires-clause-spans g c).After-deref-3).1 in
    λ k d inside. (fit k d inside).within

pub carry_out-requires-clause-stand : goal.carry_out-requires-clause-stand
carry_out-requires-clause-stand g c =
    known-stand _ _ _ c.in_ok-plan.plan.delta (ap (λ (content : Content). content.cells) c.in_ok-plan.ensures.same.0)
    c.in_ok-plan.ensures.delta

pub carry_out-requires-clause-short : goal.carry_out-requires-clause-short
carry_out-requires-clause-short g c =
    let long = ap (λ (content : Content). length content.cells) c.in_ok-plan.ensures.same.0 in
    let short = c.self.invariant.kept.short in
    omega (arith, long, short)

-- what is left where the spans are deleted
left : (g : Over) (c : After-drop-spans-2 g) (limits : LimitTable)
    → Leaves limits (with_state (parts_of g.S.TextStore.content c.self.inside) (state_of
    (g.S.TextStore.content c.carry_out.new.text.store) c.carry_out.new.text.anchors.items
    (log_of c.carry_out.new.text.history))) c.args.self.now (Ok Empty)
    (delete_places c.args.self.now (widget_at c.args.self.now c.args.caller.now.seat) c.args.places.now)
left g c limits =
    let at = goal.at.returns-clause-does g c in
    let plan = c.in_ok-plan.ensures in
    leaves-places limits c.args.places.now (seen g at.After-end_of-end) c.requires.active (spans g at.After-deref-3)
    (planned-made c.in_ok-plan.plan.effects c.in_ok-carry_out.ensures.made plan.same.2 plan.same.1 plan.outcome
    ∙ ap (λ recording. deleted recording c.start_of-start.result c.end_of-end.result c.deref-3.result.now
    (state_in (parts_of g.S.TextStore.content c.self.inside))) c.rules-rules.ensures.recording)

pub invariant_of-self-2 : goal.invariant_of-self-2
invariant_of-self-2 g c = (left g c some_limits).sound

pub returns-clause-does : goal.returns-clause-does
returns-clause-does g c = λ limits. (left g c limits).does

pub returns-clause-told : goal.returns-clause-told
returns-clause-told g c = λ follows.
    let at = goal.at.returns-clause-told g c in
    let document = c.args.self.now in
    let parts = parts_of g.S.TextStore.content c.self.inside in
    let cells = parts.content.cells in
    let view = seen g at.After-end_of-end in
    let edits = (delete_places document (widget_at document c.args.caller.now.seat) c.args.places.now).edits in
    let text = characters-kept parts document c.self.view_is in
    let long = cells-kept parts document c.self.view_is in
    let starts = start-found-is view in
    let ends = end-found-is view in
    let all = (spans g at.After-deref-3).0 in
    let same : deletions_in cells c.start_of-start.result c.end_of-end.result c.deref-3.result.now ≡ edits =
    λ i. map (λ (run : Span). deletion (sym text i) run.from run.to)
    (runs_below (sym long i) (delete_set (sym text i) (starts i) (ends i) (in_spans (all i)))) in
    told-planned (pairs_of parts) c.in_ok-plan.plan.delta _ _ c.in_ok-carry_out.ensures.told
    (ap (λ (content : Content). content.cells) c.in_ok-plan.ensures.same.0) (c.rules-rules.ensures.follows ∙ follows)
    same c.in_ok-plan.ensures.delta (ap (λ (d : Document). d.cells) c.self.view_is)

-- nothing is left where memory is wanted
pub returns-in_err-spans : goal.returns-in_err-spans
returns-in_err-spans g c =
    let memory = c.from_residual.ensures in
    record {
      does = λ limits. does-refused c.from_residual.result memory refl refl;
      told = λ _. IfOk-from_err c.from_residual.result _ memory.0;
    }

pub invariant_of-self : goal.invariant_of-self
invariant_of-self g c =
    let same = c.plan_delete.ensures.same in
    (stands-unedited (stand c.self.invariant c.self.view_is) same.0 same.1 same.2).sound

pub returns-in_err-plan : goal.returns-in_err-plan
returns-in_err-plan g c =
    let fails = c.from_residual-in_err-plan.ensures in
    let same = c.plan_delete.ensures.same in
    record {
      does = λ limits. does-refused c.from_residual-in_err-plan.result fails
          (ap edit_fault c.in_err-plan.ensures.refused)
          (stands-unedited (stand c.self.invariant c.self.view_is) same.0 same.1 same.2).is;
      told = λ _. IfOk-from_err c.from_residual-in_err-plan.result _ fails.0;
    }

pub invariant_of-self-in_err-carry_out : goal.invariant_of-self-in_err-carry_out
invariant_of-self-in_err-carry_out g c =
    (stands-kept g.S.TextStore.content (stand c.self.invariant c.self.view_is) c.in_ok-plan.ensures.same
    c.in_err-carry_out.ensures.refused).sound

pub returns-in_err-carry_out : goal.returns-in_err-carry_out
returns-in_err-carry_out g c =
    let memory = c.from_residual-in_err-carry_out.ensures in
    record {
      does = λ limits. does-refused c.from_residual-in_err-carry_out.result memory refl
          (stands-kept g.S.TextStore.content (stand c.self.invariant c.self.view_is) c.in_ok-plan.ensures.same
          c.in_err-carry_out.ensures.refused).is;
      told = λ _. IfOk-from_err c.from_residual-in_err-carry_out.result _ memory.0;
    }
