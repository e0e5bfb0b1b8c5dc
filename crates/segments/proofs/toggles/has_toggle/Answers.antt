use Rattle.segments.proofs.Common.{◌≡◌, ◌*◌, ◌<◌, get_or, length, sym, ap, ◌∙◌, arith, get_or_default, WORDS, Toggled}
use Rattle.segments.proofs.EntryLaws.{RiseIn-low}
use Rattle.segments.proofs.ToggleLaws.{told_by, told_none}
use Rattle.segments.proofs.toggles.has_toggle.Goals.{else-index-toggles-via-then-index-toggles+else-toggles-index}
use Rattle.segments.proofs.toggles.has_toggle.Goals.{else-index-toggles-via-else-index-toggles}
use Rattle.std.specs.FinSet as set
use Rattle.segments.proofs.toggles.has_toggle.Goals as goal

pub returns-then-toggles-index : goal.returns-then-toggles-index
returns-then-toggles-index c = λ from to lie.
    let entries = c.args.toggles.now in
    let i = c.count_before_word-index.result in
    let d = c.index-toggles-index-then-toggles-index.result in
    let asked = c.index-toggles-index.result in
    let within : i < length entries = c.if-index-toggles.true in
    let is : (get_or entries i d).column ≡ c.args.column =
    ap (λ (e : Toggled). e.column) (get_or_default entries i d asked within) ∙ c.if-toggles-index.true in
    let before = c.count_before_word-index.ensures.before (WORDS * from) (WORDS * to) lie in
    let behind = c.count_before_word-index.ensures.behind (WORDS * 0) (WORDS * to)
    (RiseIn-low (WORDS * from) (WORDS * 0) (WORDS * to) entries lie (omega arith)) (omega arith) in
    c.has.ensures
    ∙ told_by c.args.column c.args.slot.0 (WORDS * from) (WORDS * to) entries i d before behind within is

pub returns : goal.returns
returns c = λ from to lie.
    let entries = c.args.toggles.now in
    let i = c.count_before_word-index.result in
    let before = c.count_before_word-index.ensures.before (WORDS * from) (WORDS * to) lie in
    let behind = c.count_before_word-index.ensures.behind (WORDS * 0) (WORDS * to)
    (RiseIn-low (WORDS * from) (WORDS * 0) (WORDS * to) entries lie (omega arith)) (omega arith) in
    elim c.else-index-toggles.branch [
      | else-index-toggles-via-then-index-toggles+else-toggles-index w ↦
          sym (told_none c.args.column c.args.slot.0 (WORDS * from) (WORDS * to) entries i
          w.index-toggles-index.result before behind (λ within. w.if-toggles-index.false))
      | else-index-toggles-via-else-index-toggles w ↦
          let none : Toggled = record { column = 0; slots = set.empty } in
          sym (told_none c.args.column c.args.slot.0 (WORDS * from) (WORDS * to) entries i none before behind
          (λ within. absurd (omega (arith, w.if-index-toggles.false))))
    ]
