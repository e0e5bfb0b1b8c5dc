use Rattle.documents.proofs.Common.{◌+◌, ◌-◌, ◌*◌, ap, ◌∙◌, arith, map, log_of, state_of, piece_of, widget_at, parts_of}
use Rattle.documents.proofs.Common.{insertion_offset}
use Rattle.edit_ops.specs.Removals.{replaced}
use Rattle.documents.proofs.InsertionLaws.{with_tags}
use Rattle.documents.proofs.PartsLaws.{anchors-there, characters-kept, stand}
use Rattle.documents.proofs.ReplacementLaws.{cut-at, leaves-replaced, replace-left, replaced_at}
use Rattle.documents.proofs.StateLaws.{anchors-stand, state_in, with_state}
use Rattle.documents.proofs.PlannedLaws.{replacement-edits}
use Rattle.documents.proofs.SettledLaws.{IsSettled, settled}
use Rattle.documents.proofs.ViewLaws.{IsSeen, active-found, ends-found, length-found, ordered-found, see-ends}
use Rattle.documents.proofs.documents.Document.replace_between.Given.{Over}
use Rattle.documents.proofs.documents.Document.replace_between.Goals.{After-end_of-last, After-carry_out_tagged}
use Rattle.documents.proofs.documents.Document.replace_between.Goals as goal

pub start_of-start-requires : goal.start_of-start-requires
start_of-start-requires g c =
    anchors-there c.args.caller.now.seat (stand c.self.invariant c.self.view_is) c.number-slot.ensures.value
    c.deref.ensures.value

pub end_of-last-requires : goal.end_of-last-requires
end_of-last-requires g c =
    anchors-there c.args.caller.now.seat (stand c.self.invariant c.self.view_is) c.number-slot.ensures.value
    c.deref-2.ensures.value

-- the view of the widget
seen : (g : Over) (c : After-end_of-last g)
    → IsSeen (parts_of g.S.TextStore.content c.self.inside) c.args.self.now c.args.caller.now.seat c.number-slot.result
    (g.S.TextStore.content c.self.inside.text.store) c.start_of-start.result c.end_of-last.result
seen g c =
    see-ends (stand c.self.invariant c.self.view_is) c.number-slot.ensures.value c.deref.ensures.value
    c.start_of-start.ensures c.deref-2.ensures.value c.len.ensures c.end_of-last.ensures

pub overflow_sub-last : goal.overflow_sub-last
overflow_sub-last g c = let shows = active-found (seen g c) c.requires.active in omega (arith, shows)

-- both places lie in the view
pub overflow_add-target : goal.overflow_add-target
overflow_add-target g c =
    let sight = seen g (goal.at.overflow_add-target g c).After-end_of-last in
    let short = c.self.invariant.kept.short in
    omega (
      arith,
      c.requires.ordered,
      c.requires.within,
      length-found sight,
      ordered-found sight,
      ends-found sight,
      short,
    )

pub overflow_add-target-2 : goal.overflow_add-target-2
overflow_add-target-2 g c =
    let sight = seen g (goal.at.overflow_add-target-2 g c).After-end_of-last in
    let short = c.self.invariant.kept.short in
    omega (arith, c.requires.within, length-found sight, ordered-found sight, ends-found sight, short)

pub plan_replacement-planned-requires-clause-within : goal.plan_replacement-planned-requires-clause-within
plan_replacement-planned-requires-clause-within g c =
    let sight = seen g (goal.at.plan_replacement-planned-requires-clause-within g c).After-end_of-last in
    omega (arith, active-found sight c.requires.active, ends-found sight)

pub plan_replacement-planned-requires-clause-stand : goal.plan_replacement-planned-requires-clause-stand
plan_replacement-planned-requires-clause-stand g c = anchors-stand (stand c.self.invariant c.self.view_is)

-- what the replacement leaves and reports
done : (g : Over) (c : After-carry_out_tagged g)
    → IsSettled c.args.caller.now.limits.now (with_state (with_tags c.carry_out_tagged.new.tags
    (parts_of g.S.TextStore.content c.self.inside)) (state_of (g.S.TextStore.content c.carry_out_tagged.new.text.store)
    c.carry_out_tagged.new.text.anchors.items (log_of c.carry_out_tagged.new.text.history))) c.args.self.now
    c.args.caller.now.follows c.carry_out_tagged.result (replaced_at c.args.caller.now.limits.now c.args.self.now
    (widget_at c.args.self.now c.args.caller.now.seat) c.args.from c.args.to c.args.pairs.items)
done g c =
    let document = c.args.self.now in
    let widget = widget_at document c.args.caller.now.seat in
    let from = c.args.from in
    let to = c.args.to in
    let pairs = c.args.pairs.items in
    let parts = parts_of g.S.TextStore.content c.self.inside in
    let start = c.start_of-start.result in
    let slot = c.number-slot.result in
    let sight = seen g (goal.at.invariant_of-self g c).After-end_of-last in
    let active = c.requires.active in
    let shows = active-found sight active in
    let rules = c.rules-rules.ensures in
    let limits = c.rules-rules.result.limits.now in
    let plan = c.plan_replacement-planned.ensures in
    let tags = c.plan_replacement-planned.new.tags in
    let did = c.carry_out_tagged.ensures in
    settled g.S.TextStore.content _ (λ plan. plan.effects) _ _
    (λ limits. replaced_at limits document widget from to pairs) _ _ c.plan_replacement-planned.result
    c.carry_out_tagged.result (stand c.self.invariant c.self.view_is) c.len-front.ensures.value rules.limits rules.follows
    plan.bounds plan.front plan.sound plan.scalars plan.made plan.fits plan.same plan.outcome plan.delta plan.fault
    did.planned did.tags did.back did.refused did.fault did.made did.told
    (λ fault. replace-left limits from to pairs sight active)
    (λ listed is. leaves-replaced from to sight active c.requires.ordered listed
    (is ∙ ap (λ recording. replaced recording (2 * slot) (c.end_of-last.result - 1) (start + from) (start + to)
    (map (piece_of tags.tags slot) pairs) (state_in parts)) rules.recording))
    (λ new. replacement-edits limits document widget (insertion_offset document widget from)
    (insertion_offset document widget to) pairs tags slot parts.content.cells
    (characters-kept parts document c.self.view_is) (cut-at from sight shows) (cut-at to sight shows))

pub invariant_of-self : goal.invariant_of-self
invariant_of-self g c = (done g c).sound

pub returns-clause-does : goal.returns-clause-does
returns-clause-does g c = (done g c).does

pub returns-clause-told : goal.returns-clause-told
returns-clause-told g c = (done g c).told
