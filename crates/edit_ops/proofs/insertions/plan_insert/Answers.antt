use Rattle.edit_ops.proofs.Common.{◌+◌, ◌<◌, ◌^◌, refl, subst, sym, ◌∙◌, ltb-false, ltb-true, total, log_of, ◌≤◌, []}
use Rattle.edit_ops.proofs.Common.{◌∷◌, length, arith, insertion, pieces_text}
use Rattle.undo_stack.specs.declared.actions.EditKind.TheVariants.{Insert}
use Rattle.edit_ops.proofs.HunkLaws.{inserting-of}
use Rattle.edit_ops.proofs.InsertedLaws.{known-left}
use Rattle.edit_ops.proofs.ReplaceLaws.{no-longer}
use Rattle.edit_ops.proofs.insertions.plan_insert.Goals as goal

pub outline_insert-requires-clause-fits : goal.outline_insert-requires-clause-fits
outline_insert-requires-clause-fits g c =
    subst (λ n. n + total c.args.pieces.items < 2 ^ 64) c.len.ensures
    (rw c.deref.ensures.value at (c.is_too_long.ensures.short c.if-is_too_long.false))

pub returns-then-is_too_long-clause-too_long : goal.returns-then-is_too_long-clause-too_long
returns-then-is_too_long-clause-too_long g c =
    let count = total c.args.pieces.items in
    let long = ltb-true c.args.rules.now.limits.now.chars (c.len.result + count)
    (sym (rw c.deref.ensures.value at c.is_too_long.ensures.value) ∙ c.if-is_too_long.true) in
    (λ _. subst (λ n. c.args.rules.now.limits.now.chars < n + count) c.len.ensures long, λ _. refl)

pub prepare-requires : goal.prepare-requires
prepare-requires g c =
    (c.in_ok-outline.ensures.makes c.args.rules.now.recording Insert (log_of c.args.text.now.history) (λ on. on)).0

pub returns-clause-too_long : goal.returns-clause-too_long
returns-clause-too_long g c =
    let most = c.args.rules.now.limits.now.chars in
    let len = c.len.result + total c.args.pieces.items in
    let short = ltb-false most len
    (sym (rw c.deref.ensures.value at c.is_too_long.ensures.value) ∙ c.if-is_too_long.false) in (
      λ same. absurd (cc),
      λ long.
          absurd (no-longer most len short
          (subst (λ n. most < n + total c.args.pieces.items) (sym c.len.ensures) long)),
    )

pub returns-clause-outcome : goal.returns-clause-outcome
returns-clause-outcome g c =
    c.in_ok-prepare.ensures.outcome
    ∙ (c.in_ok-outline.ensures.makes c.args.rules.now.recording Insert (log_of c.args.text.now.history) (λ on. on)).1

pub delta_of_texts-requires : goal.delta_of_texts-requires
delta_of_texts-requires g c = c.in_ok-outline.ensures.put.short

pub returns-clause-delta : goal.returns-clause-delta
returns-clause-delta g c =
    let cells = (g.S.TextStore.content c.args.text.now.store).cells in
    let within : c.args.at ≤ length cells = let h = c.requires.within in omega (arith, h) in
    known-left c.args.rules.now.follows (insertion c.args.at (pieces_text c.args.pieces.items) ∷ []) (omega arith) within
    (inserting-of (length cells) c.args.at (pieces_text c.args.pieces.items) within) c.in_ok-outline.ensures.put
    c.in_ok-delta.ensures c.in_ok-prepare.ensures.delta c.in_ok-prepare.ensures.content
