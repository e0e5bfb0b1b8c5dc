use Rattle.line_lists.proofs.Common.{◌≡◌, ◌-◌, ◌+◌, true, Some, length, take, drop, sym, ap, ◌∙◌, arith, slice_get}
use Rattle.line_lists.proofs.Common.{free_end, CanFollow, has_toggle, whole}
use Rattle.line_lists.proofs.ClearingLaws.{end-kept, end-passed, end-rest, end-within}
use Rattle.line_lists.proofs.CountRows.{count-lines}
use Rattle.line_lists.proofs.DraftLaws.{can-follow-next, last_is, no_last}
use Rattle.line_lists.proofs.drafts.Draft.free_up_to.Given.{Over}
use Rattle.line_lists.proofs.drafts.Draft.free_up_to.Goals.{After-next_below-index-in-Some, In-Some}
use Rattle.line_lists.proofs.drafts.Draft.free_up_to.Goals.{then-index-end-via-then-index-end}
use Rattle.line_lists.proofs.drafts.Draft.free_up_to.Goals.{then-index-end-via-else-index-end+then-has_toggle}
use Rattle.line_lists.proofs.drafts.Draft.free_up_to.Goals as goal

pub characters_behind-requires-clause-counted : goal.characters_behind-requires-clause-counted
characters_behind-requires-clause-counted g c =
    let lines = g.L.LineList.lines c.args.self.now.list.now in
    let slot = c.args.slot.0 in
    let front = c.args.self.now.front.items in
    let back = c.args.self.now.back.items in
    let reached = c.args.reached.now in
    let none = no_last back (c.in-None.ensures.value ∙ ap (λ xs. slice_get xs (length xs - 1)) c.deref.ensures.value) in
    let index = c.next_below-index in
    let end = end-rest slot lines front reached c.requires.reached index.result index.ensures.above index.ensures.free
    back none (λ small. index.ensures.stops (omega (arith, small, c.len.ensures))) in
    omega (arith, end, end-within slot lines front back, c.requires.is.counted)

pub returns-in-None-clause-some : goal.returns-in-None-clause-some
returns-in-None-clause-some g c =
    let lines = g.L.LineList.lines c.args.self.now.list.now in
    let slot = c.args.slot.0 in
    let front = c.args.self.now.front.items in
    let back = c.args.self.now.back.items in
    let reached = c.args.reached.now in
    let none = no_last back (c.in-None.ensures.value ∙ ap (λ xs. slice_get xs (length xs - 1)) c.deref.ensures.value) in
    let index = c.next_below-index in
    let end = end-rest slot lines front reached c.requires.reached index.result index.ensures.above index.ensures.free
    back none (λ small. index.ensures.stops (omega (arith, small, c.len.ensures))) in
    c.characters_behind.ensures ∙ end

-- the next copy
last : (g : Over) (c : In-Some g)
    → Some c.in-Some.copy.now ≡ slice_get c.args.self.now.back.items (length c.args.self.now.back.items - 1)
last g c = c.in-Some.ensures.value ∙ ap (λ xs. slice_get xs (length xs - 1)) c.deref.ensures.value

follows : (g : Over) (c : In-Some g)
    → CanFollow c.args.reached.now c.in-Some.copy.now (g.L.LineList.lines c.args.self.now.list.now)
follows g c =
    let back = c.args.self.now.back.items in
    can-follow-next (g.L.LineList.lines c.args.self.now.list.now) c.args.self.now.front.items back
    (take (length back - 1) back) c.args.reached.now c.in-Some.copy.now c.requires.is c.requires.reached
    (last_is back c.in-Some.copy.now (last g c))

pub overflow_add-end : goal.overflow_add-end
overflow_add-end g c =
    let lines = g.L.LineList.lines c.args.self.now.list.now in
    let few = (g.L.LineList.are_lines c.args.self.now.list.now).counted.lines in
    omega (arith, few, count-lines lines, (follows g (goal.at.overflow_add-end g c).In-Some).there)

pub next_below-index-requires-in-Some-clause-within : goal.next_below-index-requires-in-Some-clause-within
next_below-index-requires-in-Some-clause-within g c =
    omega (arith, (follows g (goal.at.next_below-index-requires-in-Some-clause-within g c).In-Some).there)

pub characters_behind-requires-then-index-end-clause-there : goal.characters_behind-requires-then-index-end-clause-there
characters_behind-requires-then-index-end-clause-there g c =
    let some = (goal.at.characters_behind-requires-then-index-end-clause-there g c).In-Some in
    let index = c.next_below-index-in-Some in
    omega (arith, (follows g some).there, index.ensures.above, index.ensures.bound)

-- the line that is found has a toggle of the slot, or the next copy's line, which it stands before, has one
end : (g : Over) (c : After-next_below-index-in-Some g)
    → (c.next_below-index-in-Some.result ≡ c.args.reached.now.used + c.in-Some.copy.now.kept →
    has_toggle c.args.slot.0 c.in-Some.copy.now.line ≡ true)
    → c.args.reached.now.characters + length (whole (take (c.next_below-index-in-Some.result
    - c.args.reached.now.used) (drop c.args.reached.now.used (g.L.LineList.lines c.args.self.now.list.now)))).columns
    ≡ free_end c.args.slot.0 (g.L.LineList.lines c.args.self.now.list.now) c.args.self.now.front.items
    c.args.self.now.back.items
end g c has =
    let index = c.next_below-index-in-Some in
    end-kept c.args.slot.0 (g.L.LineList.lines c.args.self.now.list.now) c.args.self.now.front.items
    c.args.reached.now c.requires.reached index.result index.ensures.above index.ensures.free
    c.args.self.now.back.items c.in-Some.copy.now
    (c.in-Some.ensures.value ∙ ap (λ xs. slice_get xs (length xs - 1)) c.deref.ensures.value) index.ensures.bound
    c.requires.is index.ensures.stops has

pub characters_behind-requires-then-index-end-clause-counted :
    goal.characters_behind-requires-then-index-end-clause-counted
characters_behind-requires-then-index-end-clause-counted g c =
    let at = (goal.at.characters_behind-requires-then-index-end-clause-counted g c).After-next_below-index-in-Some in
    let ends = end g at (λ same. elim c.then-index-end.branch [
      | then-index-end-via-then-index-end w ↦ absurd (omega (arith, same, w.if-index-end.true))
      | then-index-end-via-else-index-end+then-has_toggle w ↦ sym w.has_toggle.ensures ∙ w.if-has_toggle.true
    ]) in
    omega (
      arith,
      ends,
      end-within c.args.slot.0 (g.L.LineList.lines c.args.self.now.list.now) c.args.self.now.front.items
          c.args.self.now.back.items,
      c.requires.is.counted,
    )

pub returns-then-index-end-clause-some : goal.returns-then-index-end-clause-some
returns-then-index-end-clause-some g c =
    c.characters_behind-then-index-end.ensures
    ∙ end g (goal.at.returns-then-index-end-clause-some g c).After-next_below-index-in-Some
    (λ same. elim c.then-index-end.branch [
      | then-index-end-via-then-index-end w ↦ absurd (omega (arith, same, w.if-index-end.true))
      | then-index-end-via-else-index-end+then-has_toggle w ↦ sym w.has_toggle.ensures ∙ w.if-has_toggle.true
    ])

pub returns-else-has_toggle-clause-none : goal.returns-else-has_toggle-clause-none
returns-else-has_toggle-clause-none g c =
    let reached = c.args.reached.now in
    let copy = c.in-Some.copy.now in
    let index = c.next_below-index-in-Some in
    let all : index.result ≡ reached.used + copy.kept = omega (arith, index.ensures.bound, c.if-index-end.false) in
    let hasn't = sym c.has_toggle.ensures ∙ c.if-has_toggle.false in
    λ none. end-passed c.args.slot.0 (g.L.LineList.lines c.args.self.now.list.now) c.args.self.now.front.items reached
    c.requires.reached index.result index.ensures.above index.ensures.free c.args.self.now.back.items copy
    (last g (goal.at.returns-else-has_toggle-clause-none g c).In-Some) all hasn't
