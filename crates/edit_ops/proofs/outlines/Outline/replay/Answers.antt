use Rattle.edit_ops.proofs.Common.{◌+◌, length, ap, sym, ◌∙◌, if◌then◌else◌, drawn_up, put_back, taken_back, All}
use Rattle.edit_ops.proofs.Common.{chars-scalars, subst, IsScalar}
use Rattle.edit_ops.proofs.outlines.Outline.replay.Goals as goal

pub returns-in_ok-put_back-clause-makes : goal.returns-in_ok-put_back-clause-makes
returns-in_ok-put_back-clause-makes g c = λ log.
    let state = drawn_up c.args.self.now (g.S.TextStore.content c.args.store.now) log in
    c.in_ok-put_back.ensures.makes log
    ∙ sym (ap (λ b. if b then put_back c.args.at c.args.text.now state
    else taken_back c.args.at (c.args.at + length c.args.text.now) state) c.if-inserts.true)

pub returns-in_ok-take_back-clause-makes : goal.returns-in_ok-take_back-clause-makes
returns-in_ok-take_back-clause-makes g c = λ log.
    let state = drawn_up c.args.self.now (g.S.TextStore.content c.args.store.now) log in
    c.in_ok-take_back.ensures.makes log
    ∙ ap (λ n. taken_back c.args.at (c.args.at + n) state) (c.count_characters-count.ensures ∙ ap length c.as_str.ensures.characters)
    ∙ sym (ap (λ b. if b then put_back c.args.at c.args.text.now state
    else taken_back c.args.at (c.args.at + length c.args.text.now) state) c.if-inserts.false)

pub returns-in_ok-put_back-clause-scalars : goal.returns-in_ok-put_back-clause-scalars
returns-in_ok-put_back-clause-scalars g c =
    subst (All IsScalar) c.as_str.ensures.characters (chars-scalars c.as_str.result.now c.as_str.utf8)

pub returns-in_ok-take_back-clause-scalars : goal.returns-in_ok-take_back-clause-scalars
returns-in_ok-take_back-clause-scalars g c =
    subst (All IsScalar) c.as_str.ensures.characters (chars-scalars c.as_str.result.now c.as_str.utf8)
