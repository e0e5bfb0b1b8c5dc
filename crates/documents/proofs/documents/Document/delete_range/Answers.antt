use Rattle.documents.proofs.Common.{◌≡◌, true, [], ◌∷◌, Ok, Empty, LimitTable, ap, ◌∙◌, deleted, delete_places, log_of}
use Rattle.documents.proofs.Common.{parts_of, state_of, widget_at}
use Rattle.documents.proofs.ChangeLaws.{Leaves, some_limits}
use Rattle.documents.proofs.PartsLaws.{anchors-there, stand}
use Rattle.documents.proofs.StateLaws.{state_in, with_state}
use Rattle.documents.proofs.ViewLaws.{IsSeen, see-ends}
use Rattle.documents.proofs.WithinLaws.{leaves-range, two-places}
use Rattle.documents.proofs.documents.Document.delete_range.Given.{Over}
use Rattle.documents.proofs.documents.Document.delete_range.Goals.{After-end_of-end, In_ok-delete_within}
use Rattle.documents.proofs.documents.Document.delete_range.Goals as goal

pub start_of-start-requires : goal.start_of-start-requires
start_of-start-requires g c =
    anchors-there c.args.caller.now.seat (stand c.self.invariant c.self.view_is) c.number-slot.ensures.value
    c.deref.ensures.value

pub end_of-end-requires : goal.end_of-end-requires
end_of-end-requires g c =
    anchors-there c.args.caller.now.seat (stand c.self.invariant c.self.view_is) c.number-slot.ensures.value
    c.deref-2.ensures.value

-- the view of the widget
seen : (g : Over) (c : After-end_of-end g)
    → IsSeen (parts_of g.S.TextStore.content c.self.inside) c.args.self.now c.args.caller.now.seat c.number-slot.result
    (g.S.TextStore.content c.self.inside.text.store) c.start_of-start.result c.end_of-end.result
seen g c =
    see-ends (stand c.self.invariant c.self.view_is) c.number-slot.ensures.value c.deref.ensures.value
    c.start_of-start.ensures c.deref-2.ensures.value c.len.ensures c.end_of-end.ensures

-- what is left where the range is deleted
left : (g : Over) (c : In_ok-delete_within g) → IsSeen (parts_of g.S.TextStore.content c.self.inside) c.args.self.now
    c.args.caller.now.seat c.number-slot.result (g.S.TextStore.content c.self.inside.text.store)
    c.start_of-start.result c.end_of-end.result → c.in_ok-delete_within.field-0 ≡ true → (limits : LimitTable)
    → Leaves limits (with_state (parts_of g.S.TextStore.content c.self.inside) (state_of
    (g.S.TextStore.content c.delete_within.new.text.store) c.delete_within.new.text.anchors.items
    (log_of c.delete_within.new.text.history))) c.args.self.now (Ok Empty)
    (delete_places c.args.self.now (widget_at c.args.self.now c.args.caller.now.seat) c.args.places.now)
left g c view is_made limits =
    leaves-range limits c.args.places.now view c.requires.active
    c.requires.within (two-places c.args.places.now c.in-len2.len_at_least c.in-len2.len_below) c.span_between-span.ensures
    (c.in_ok-delete_within.ensures.made is_made c.start_of-start.result
    ∙ ap (λ recording. deleted recording c.start_of-start.result c.end_of-end.result (c.span_between-span.result ∷ [])
    (state_in (parts_of g.S.TextStore.content c.self.inside))) c.rules-rules.ensures.recording)

pub invariant_of-self-2 : goal.invariant_of-self-2
invariant_of-self-2 g c =
    let at = goal.at.invariant_of-self-2 g c in
    (left g at.In_ok-delete_within (seen g at.After-end_of-end) c.if-not-branch.false some_limits).sound

pub returns-clause-made : goal.returns-clause-made
returns-clause-made g c = λ _ limits.
    let at = goal.at.returns-clause-made g c in
    (left g at.In_ok-delete_within (seen g at.After-end_of-end) c.if-not-branch.false limits).does
