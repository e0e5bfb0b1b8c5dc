use Rattle.edit_ops.proofs.Common.{◌≡◌, ◌≤◌, sym, ap, ap₂, subst, ◌∙◌, IfSome, drawn_up, replays, group_redone, stood}
use Rattle.edit_ops.proofs.Common.{State, Outline, state_of, Leads, after, after_actions, characters, no_history}
use Rattle.edit_ops.proofs.Common.{unmodified, KnowsDelta}
use Rattle.edit_ops.proofs.ReplayLaws.{follows-length}
use Rattle.edit_ops.proofs.ReversalLaws.{stood-cells}
use Rattle.edit_ops.proofs.reversals.outline_group.Goals as goal

pub put_end-requires-clause-bound : goal.put_end-requires-clause-bound
put_end-requires-clause-bound g c =
    let follows = c.in_ok-end.ensures.follows in
    subst (λ n. IfSome c.in_ok-end.end (λ at. at ≤ n))
    (sym (follows-length (g.S.TextStore.content c.args.text.now.store) c.replay_all.new.self c.replay_all.new.cursor
    follows)) c.in_ok-end.ensures.bound

pub returns-clause-makes : goal.returns-clause-makes
returns-clause-makes g c = λ log.
    let content = g.S.TextStore.content c.args.text.now.store in
    let all = replays c.args.back c.args.group.now in
    let start = state_of content c.args.text.now.anchors.items log in
    let begun : drawn_up c.in_ok-outline.outline content log
    ≡ start = ap (λ (d : Outline). drawn_up d content log) c.in_ok-outline.ensures in
    c.in_ok-put_end.ensures.makes log
    ∙ ap₂ (λ (made : State) end. record made { content = stood c.args.mark.0 end content made.content })
    (c.in_ok-end.ensures.makes log ∙ ap (group_redone all) begun) c.in_ok-end.ensures.end

pub returns-clause-delta : goal.returns-clause-delta
returns-clause-delta g c =
    let content = g.S.TextStore.content c.args.text.now.store in
    let all = replays c.args.back c.args.group.now in
    let made = after c.replay_all.new.self.steps content in
    let follows = c.in_ok-end.ensures.follows in
    let marked : (after c.put_end.new.self.steps content).cells ≡ made.cells =
    ap (λ (s : State). s.content.cells)
    (c.in_ok-put_end.ensures.makes (record { history = no_history; modified = unmodified; most = 0 }))
    ∙ stood-cells c.args.mark.0 _ made in
    let leads : Leads all c.replay_all.new.cursor = λ old long.
    let counted = long ∙ follows.old_len ∙ sym c.len-2.ensures in
    c.in_ok-end.ensures.acts old (counted ∙ sym c.in_ok-cursor.ensures.old)
    ∙ ap (λ cells. after_actions all (characters cells)) (c.in_ok-cursor.ensures.cells old counted) in
    subst (λ cells. KnowsDelta c.args.rules.now.follows all content.cells cells c.in_ok-delta.delta)
    (follows.cells ∙ sym marked) (c.in_ok-delta.ensures all content.cells (sym follows.old_len) leads)
