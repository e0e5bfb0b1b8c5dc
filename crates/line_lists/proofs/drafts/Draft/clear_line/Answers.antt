use Rattle.line_lists.proofs.Common.{◌≡◌, ◌<◌, ◌+◌, ◌-◌, ◌++◌, ◌∷◌, [], min, length, subst, sym, ap, ◌∙◌, lines_in}
use Rattle.line_lists.proofs.Common.{text_in, IsText, place_of, text_at, with_cleared}
use Rattle.line_lists.proofs.ClearingLaws.{ClearsLine, clears-line}
use Rattle.line_lists.proofs.drafts.Draft.clear_line.Given.{Over}
use Rattle.line_lists.proofs.drafts.Draft.clear_line.Goals.{After-clear}
use Rattle.line_lists.proofs.drafts.Draft.clear_line.Goals as goal

-- the line is cleared, and its copy put back
cleared : (g : Over) (c : After-clear g)
    → ClearsLine c.args.slot.0 c.args.from c.args.to (g.L.LineList.lines c.take.new.self.list.now)
    (lines_in g.L.LineList.lines c.args.self.now)
    (c.take.new.self.front.items ++ record c.in_ok-stop.field-0.stop {
      copy = record c.in_ok-stop.field-0.stop.copy { line = c.clear.new.self };
    } ∷ []) c.take.new.self.back.items
cleared g c =
    let found = c.in_ok-stop.field-0 in
    let line = found.stop.copy.line in
    let slot = c.args.slot.0 in
    let end_is = c.min-end.ensures ∙ ap (λ n. min n (found.column + (c.args.to - c.args.from))) c.len.ensures in
    let columns = c.clear.ensures.columns ∙ ap (λ n. (with_cleared slot found.column n line).columns) end_is in
    let new_is : c.clear.new.self ≡ with_cleared slot found.column
    (min (length line.columns) (found.column + (c.args.to - c.args.from))) line = λ i.
    record { columns = columns i; marks = c.clear.ensures.marks i } in
    let place = c.in_ok-stop.ensures in
    clears-line slot c.args.from c.args.to found.column (g.L.LineList.lines c.take.new.self.list.now)
    (lines_in g.L.LineList.lines c.args.self.now) c.take.new.self.front.items c.take.new.self.back.items found.stop
    c.clear.new.self place.taken place.same place.place c.requires.is.rows c.requires.is.draft.counted
    c.requires.ordered new_is

pub returns-clause-is : goal.returns-clause-is
returns-clause-is g c =
    let lines = g.L.LineList.lines c.take.new.self.list.now in
    subst (λ items. IsText lines items c.take.new.self.back.items) (sym c.push_reserved.ensures.items)
    (cleared g (goal.at.returns-clause-is g c).After-clear).is

pub returns-clause-above : goal.returns-clause-above
returns-clause-above g c =
    let lines = g.L.LineList.lines c.take.new.self.list.now in
    subst (λ items. c.args.from < place_of lines items) (sym c.push_reserved.ensures.items)
    (cleared g (goal.at.returns-clause-above g c).After-clear).above

pub returns-clause-new : goal.returns-clause-new
returns-clause-new g c =
    let lines = g.L.LineList.lines c.take.new.self.list.now in
    subst (λ items. text_at lines items c.take.new.self.back.items
    ≡ with_cleared c.args.slot.0 c.args.from (min c.args.to (place_of lines items))
    (text_in g.L.LineList.lines c.args.self.now))
    (sym c.push_reserved.ensures.items) (cleared g (goal.at.returns-clause-new g c).After-clear).new
