use Rattle.documents.proofs.Common.{ap, ◌∙◌, map, inserted_texts, log_of, state_of, piece_of, widget_at, parts_of}
use Rattle.documents.proofs.Common.{insert_at, Insert}
use Rattle.documents.proofs.InsertionLaws.{leaves-put, put-left, with_tags}
use Rattle.documents.proofs.PartsLaws.{sits, stand}
use Rattle.documents.proofs.PlannedLaws.{insertion-edits}
use Rattle.documents.proofs.StateLaws.{state_in, with_state}
use Rattle.documents.proofs.SettledLaws.{IsSettled, settled}
use Rattle.documents.proofs.documents.Document.insert_at.Given.{Over}
use Rattle.documents.proofs.documents.Document.insert_at.Goals.{After-carry_out_tagged}
use Rattle.documents.proofs.documents.Document.insert_at.Goals as goal

-- what the insertion leaves and reports
done : (g : Over) (c : After-carry_out_tagged g)
    → IsSettled c.args.caller.now.limits.now (with_state (with_tags c.carry_out_tagged.new.tags
    (parts_of g.S.TextStore.content c.self.inside)) (state_of (g.S.TextStore.content c.carry_out_tagged.new.text.store)
    c.carry_out_tagged.new.text.anchors.items (log_of c.carry_out_tagged.new.text.history))) c.args.self.now
    c.args.caller.now.follows c.carry_out_tagged.result (insert_at c.args.caller.now.limits.now c.args.self.now
    (widget_at c.args.self.now c.args.caller.now.seat) c.args.at c.args.pairs.items)
done g c =
    let stands = stand c.self.invariant c.self.view_is in
    let slot = c.number.result in
    let widget = widget_at c.args.self.now c.args.caller.now.seat in
    let pairs = c.args.pairs.items in
    let rules = c.rules-rules.ensures in
    let limits = c.rules-rules.result.limits.now in
    let plan = c.plan_pairs-planned.ensures in
    let tags = c.plan_pairs-planned.new.tags in
    let did = c.carry_out_tagged.ensures in
    settled g.S.TextStore.content _ (λ plan. plan.effects) _ _
    (λ limits. insert_at limits c.args.self.now widget c.args.at pairs) _ _ c.plan_pairs-planned.result
    c.carry_out_tagged.result stands c.len-front.ensures.value rules.limits rules.follows plan.bounds plan.front
    plan.sound plan.scalars plan.made plan.fits plan.same plan.outcome plan.delta plan.fault did.planned did.tags did.back
    did.refused did.fault did.made did.told (λ fault. put-left limits widget c.args.at pairs stands)
    (λ listed is. leaves-put stands (sits c.args.caller.now.seat stands c.number.ensures.value) listed c.requires.within
    (is ∙ ap (λ recording. inserted_texts recording Insert c.args.at (map (piece_of tags.tags slot) pairs)
    (state_in (parts_of g.S.TextStore.content c.self.inside))) rules.recording))
    (λ new. insertion-edits limits c.args.self.now widget c.args.at pairs tags slot)

pub invariant_of-self : goal.invariant_of-self
invariant_of-self g c = (done g c).sound

pub returns-clause-does : goal.returns-clause-does
returns-clause-does g c = (done g c).does

pub returns-clause-told : goal.returns-clause-told
returns-clause-told g c = (done g c).told
