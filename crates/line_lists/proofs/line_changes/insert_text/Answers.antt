use Rattle.line_lists.proofs.Common.{subst, slice_get, count_of, ◌≡◌, ◌+◌, ◌-◌, ◌<◌, ◌∙◌, sym, ap, arith, length, take}
use Rattle.line_lists.proofs.Common.{chars, true, false, Option, None, Some, is_some, differing, Slots, LineContent}
use Rattle.line_lists.proofs.Common.{after_text, tags_left_of, true≢false, IfNone}
use Rattle.line_lists.proofs.EditLaws.{length-text}
use Rattle.line_lists.proofs.LineChangeLaws.{column-inside, inserted-changed}
use Rattle.line_lists.proofs.line_changes.insert_text.Given.{Over}
use Rattle.line_lists.proofs.line_changes.insert_text.Goals.{After-len-2}
use Rattle.line_lists.proofs.line_changes.insert_text.Goals as goal

none-there : {A P : Type 0} (found : Option A) → IfNone found P → is_some found ≡ false → P
none-there None none free = none
none-there (Some x) none free = absurd (true≢false free)

-- the line is one of the list as it was
there : (g : Over) (c : After-len-2 g) →
    slice_get (g.L.LineList.lines c.args.list.now) c.seek-index.result.0 ≡ Some c.line-here.result.now
there g c = subst (λ lines. slice_get lines c.seek-index.result.0 ≡ Some c.line-here.result.now)
    c.seek-index.ensures.same c.line-here.ensures

-- the line with the text, and where that ends
put : (g : Over) (c : After-len-2 g) → c.insert_text.new.self
    ≡ after_text c.seek-index.result.1 (chars c.args.text.now) c.line-here.result.now
put g c = c.in_ok-insert_text.ensures.new
    ∙ ap (after_text c.seek-index.result.1 (chars c.args.text.now)) c.in_ok-line.ensures

inside : (g : Over) (c : After-len-2 g) → c.seek-index.result.1 < length c.line-here.result.now.columns
inside g c = column-inside (g.L.LineList.are_lines c.args.list.now) c.seek-index.ensures.place (there g c)

longer : (g : Over) (c : After-len-2 g) → length c.insert_text.new.self.columns
    ≡ length c.line-here.result.now.columns + length (chars c.args.text.now)
longer g c = let within = inside g c in
    ap (λ (line : LineContent). length line.columns) (put g c)
    ∙ length-text c.seek-index.result.1 (chars c.args.text.now) c.line-here.result.now.columns
    (omega (arith, within))

ends : (g : Over) (c : After-len-2 g) → c.len-2.result - (c.len.result - c.seek-index.result.1)
    ≡ c.seek-index.result.1 + length (chars c.args.text.now)
ends g c =
    let copied = ap (λ (line : LineContent). length line.columns) c.in_ok-line.ensures in
    omega (arith, longer g c, inside g c, copied, c.len.ensures, c.len-2.ensures)

pub toggle_ends-requires-clause-from : goal.toggle_ends-requires-clause-from
toggle_ends-requires-clause-from g c = let at = (goal.at.toggle_ends-requires-clause-from g c).After-len-2 in
    omega (arith, longer g at, inside g at)

pub toggle_ends-requires-clause-to : goal.toggle_ends-requires-clause-to
toggle_ends-requires-clause-to g c = let at = (goal.at.toggle_ends-requires-clause-to g c).After-len-2 in
    omega (arith, longer g at, inside g at, ends g at)

pub returns-clause-changed : goal.returns-clause-changed
returns-clause-changed g c =
    let at = (goal.at.returns-clause-changed g c).After-len-2 in
    let column = c.seek-index.result.1 in
    let here = c.line-here.result.now in
    inserted-changed (g.L.LineList.are_lines c.args.list.now) c.seek-index.ensures.place (there g at)
    (none-there _ c.cut_line.ensures.none (sym c.is_some.ensures ∙ c.if-is_some.false)) (put g at) (ends g at)
    c.in_ok-toggle_ends.ensures
    (c.differing-differ.ensures ∙ ap (λ (s : Slots). differing s c.args.slots.now) (c.slots_before.ensures
    ∙ ap (λ (s : Slots). differing s (tags_left_of (take column here.columns))) (c.odd_slots.ensures
    ∙ ap (λ lines. (count_of (take c.seek-index.result.0 lines)).parity) c.seek-index.ensures.same)))
