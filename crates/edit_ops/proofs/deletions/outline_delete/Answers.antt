use Rattle.edit_ops.proofs.Common.{◌≡◌, ◌-◌, Bool, List, Span, State, ap, ap₂, arith, sym, ◌∙◌, subst, map, Log}
use Rattle.edit_ops.proofs.Common.{outlineed, Delete, deleted, deletion, characters, changed, if◌then◌else◌}
use Rattle.edit_ops.proofs.Common.{removed_all, without_slots, after, log_of, Fits, state_of, KnowsDelta}
use Rattle.edit_ops.proofs.DeleteLaws.{delete-made}
use Rattle.edit_ops.proofs.DeltaLaws.{deleted-cells}
use Rattle.edit_ops.proofs.deletions.outline_delete.Goals.{In_ok-remove_spans}
use Rattle.edit_ops.proofs.deletions.outline_delete.Goals as goal

makes : (g : _) (c : In_ok-remove_spans g) (log : Log) → Fits c.remove_spans.new.self.steps (g.S.TextStore.content c.args.text.now.store)
    × (outlineed c.args.rules.now.recording Delete c.remove_spans.new.self
    (state_of (g.S.TextStore.content c.args.text.now.store) c.args.text.now.anchors.items log)
    ≡ deleted c.args.rules.now.recording c.args.start c.args.end c.args.spans.now
    (state_of (g.S.TextStore.content c.args.text.now.store) c.args.text.now.anchors.items log))
makes g c log =
    let content = g.S.TextStore.content c.args.text.now.store in
    delete-made c.args.rules.now.recording.undo c.in_ok-outline.outline c.remove_spans.new.self content
    c.args.text.now.anchors.items
    c.args.start c.args.end c.args.spans.now c.in_ok-runs.runs.items c.in_ok-runs.takes_last c.in_ok-steps.steps
    c.requires.shows c.requires.within c.in_ok-runs.ensures.takes c.in_ok-runs.ensures.runs c.in_ok-steps.ensures
    c.in_ok-outline.ensures (rw c.deref.ensures.value at c.in_ok-remove_spans.ensures.makes) c.args.rules.now.recording log
    (λ on. on)

pub returns-clause-makes : goal.returns-clause-makes
returns-clause-makes g c = makes g (goal.at.returns-clause-makes g c).In_ok-remove_spans

pub returns-clause-delta : goal.returns-clause-delta
returns-clause-delta g c =
    let content = g.S.TextStore.content c.args.text.now.store in
    let cells = content.cells in
    let end = c.args.end in
    let log = log_of c.args.text.now.history in
    let shows = c.requires.shows in
    let left : Bool → List _ = λ b. if b then changed without_slots (end - 1) end cells else cells in
    let made : (after c.remove_spans.new.self.steps content).cells
    ≡ removed_all c.in_ok-runs.runs.items (left c.in_ok-runs.takes_last) =
    ap (λ (state : State). state.content.cells)
    (makes g (goal.at.returns-clause-delta g c).In_ok-remove_spans log).1
    ∙ deleted-cells c.args.rules.now.recording c.args.start end c.args.spans.now content c.args.text.now.anchors.items log
    (omega (arith, shows))
    ∙ sym (ap₂ (λ rs b. removed_all rs (left b)) c.in_ok-runs.ensures.runs c.in_ok-runs.ensures.takes) in
    subst (λ rs. KnowsDelta c.args.rules.now.follows
    (map (λ (run : Span). deletion (characters cells) run.from run.to) rs) cells
    (after c.remove_spans.new.self.steps content).cells c.in_ok-delta.delta) c.in_ok-runs.ensures.runs
    (subst (λ new. KnowsDelta c.args.rules.now.follows
    (map (λ (run : Span). deletion (characters cells) run.from run.to) c.in_ok-runs.runs.items) cells new
    c.in_ok-delta.delta) (sym made) c.in_ok-delta.ensures)
