use Rattle.edit_ops.proofs.Common.{◌≡◌, ◌+◌, ◌-◌, ◌<◌, ◌^◌, length, ap, ap₂, refl, subst, sym, ◌∙◌, ltb-false, ltb-true}
use Rattle.edit_ops.proofs.Common.{total, replaced_span, log_of, state_of, min, ◌≤◌, arith, characters}
use Rattle.edit_ops.proofs.Common.{length-characters, replacing, AreHunksOf, KnowsDelta, replacement, pieces_text}
use Rattle.edit_ops.proofs.HunkLaws.{replacing-of}
use Rattle.edit_ops.proofs.InsertedLaws.{known-left}
use Rattle.edit_ops.proofs.ReplaceLaws.{no-longer}
use Rattle.edit_ops.proofs.replacements.plan_replace.Goals as goal

pub outline_replace-requires-clause-room : goal.outline_replace-requires-clause-room
outline_replace-requires-clause-room g c =
    subst (λ n. n - (c.min-to.result - c.min-from.result) + total c.args.pieces.items
    < 2 ^ 64) c.len.ensures (rw c.deref.ensures.value at (c.is_too_long.ensures.short c.if-is_too_long.false))

pub returns-then-is_too_long-clause-too_long : goal.returns-then-is_too_long-clause-too_long
returns-then-is_too_long-clause-too_long g c =
    let count = total c.args.pieces.items in
    let len = length (g.S.TextStore.content c.args.text.now.store).cells in
    let left = c.len.result - (c.min-to.result - c.min-from.result) + count in
    let is : left ≡ len - (min c.args.target.to c.args.target.last - min c.args.target.from c.args.target.last) + count =
    ap (λ n. n - (c.min-to.result - c.min-from.result) + count) c.len.ensures
    ∙ ap₂ (λ a b. len - (a - b) + count) c.min-to.ensures c.min-from.ensures in
    let long = ltb-true c.args.rules.now.limits.now.chars left
    (sym (rw c.deref.ensures.value at c.is_too_long.ensures.value) ∙ c.if-is_too_long.true) in
    (λ _. (c.if-target.false, subst (λ n. c.args.rules.now.limits.now.chars < n) is long), λ _. refl)

pub returns-clause-too_long : goal.returns-clause-too_long
returns-clause-too_long g c =
    let count = total c.args.pieces.items in
    let len = length (g.S.TextStore.content c.args.text.now.store).cells in
    let left = c.len.result - (c.min-to.result - c.min-from.result) + count in
    let is : left ≡ len - (min c.args.target.to c.args.target.last - min c.args.target.from c.args.target.last) + count =
    ap (λ n. n - (c.min-to.result - c.min-from.result) + count) c.len.ensures
    ∙ ap₂ (λ a b. len - (a - b) + count) c.min-to.ensures c.min-from.ensures in
    let short = ltb-false c.args.rules.now.limits.now.chars left
    (sym (rw c.deref.ensures.value at c.is_too_long.ensures.value) ∙ c.if-is_too_long.false) in (
      λ same. absurd (cc),
      λ long.
          absurd (no-longer c.args.rules.now.limits.now.chars left short
          (subst (λ n. c.args.rules.now.limits.now.chars < n) (sym is) long.1)),
    )

pub returns-clause-outcome : goal.returns-clause-outcome
returns-clause-outcome g c =
    let log = log_of c.args.text.now.history in
    let state = state_of (g.S.TextStore.content c.args.text.now.store) c.args.text.now.anchors.items log in
    c.in_ok-prepare.ensures.outcome ∙ c.in_ok-outline.ensures.makes c.args.rules.now.recording log (λ on. on)
    ∙ ap₂ (λ from to. replaced_span c.args.rules.now.recording c.args.target.mark.0 from to c.args.pieces.items state)
    c.min-from.ensures c.min-to.ensures

pub delta_of_texts-requires : goal.delta_of_texts-requires
delta_of_texts-requires g c = c.in_ok-outline.ensures.put.short

pub returns-clause-delta : goal.returns-clause-delta
returns-clause-delta g c =
    let follows = c.args.rules.now.follows in
    let cells = (g.S.TextStore.content c.args.text.now.store).cells in
    let outcome = (g.S.TextStore.outcome c.prepare.new.text.store c.in_ok-prepare.field-0.prepared).cells in
    let delta = c.in_ok-prepare.field-0.delta in
    let text = pieces_text c.args.pieces.items in
    let from = c.min-from.result in
    let to = c.min-to.result in
    let ordered : from ≤ to = omega (arith, c.min-from.ensures, c.min-to.ensures, c.if-target.false) in
    let within : to ≤ length cells = omega (arith, c.min-to.ensures, c.requires.within) in
    subst (λ actions. KnowsDelta follows actions cells outcome delta)
    (ap₂ (λ a b. replacement cells a b text) c.min-from.ensures c.min-to.ensures)
    (known-left follows (replacement cells from to text) ordered within
    (subst (λ n. AreHunksOf (replacement cells from to text) n (replacing from to text)) (length-characters cells)
    (replacing-of (characters cells) from to text ordered (omega (arith, within, length-characters cells))))
    c.in_ok-outline.ensures.put c.in_ok-delta.ensures c.in_ok-prepare.ensures.delta c.in_ok-prepare.ensures.content)
