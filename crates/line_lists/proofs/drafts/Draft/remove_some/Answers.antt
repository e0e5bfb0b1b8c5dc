use Rattle.line_lists.proofs.Common.{Vec, Global, ◌≡◌, ◌+◌, ◌-◌, ◌<◌, ◌≤◌, length, sym, ap, ◌∙◌, arith, after_removal}
use Rattle.line_lists.proofs.Common.{Stop, held_at, held_text}
use Rattle.line_lists.proofs.HeldLaws.{Leaves, leaves-joined, leaves-within, next-there, with_line}
use Rattle.line_lists.proofs.drafts.Draft.remove_some.Given.{Over}
use Rattle.line_lists.proofs.drafts.Draft.remove_some.Goals.{In_ok-remove_range, In_ok-remove_range-2}
use Rattle.line_lists.proofs.drafts.Draft.remove_some.Goals as goal

-- what is left where the line goes on behind what is taken out of it
within : (g : Over) (c : In_ok-remove_range g)
    → Leaves (g.L.LineList.lines c.args.self.now.list.now) c.args.self.now.front.items c.args.self.now.back.items
    (with_line c.remove_range.new.self c.args.stop.now) c.args.column
    (held_at (g.L.LineList.lines c.args.self.now.list.now) c.args.self.now.front.items c.args.stop.now.copy
    c.args.column) c.args.left
    (held_text (g.L.LineList.lines c.args.self.now.list.now) c.args.self.now.front.items c.args.self.now.back.items
    c.args.stop.now.copy)
within g c =
    let few : c.args.left < length c.args.stop.now.copy.line.columns
    - c.args.column = omega (arith, c.if-left-rest.true, c.len.ensures) in
    leaves-within (g.L.LineList.lines c.args.self.now.list.now) c.args.self.now.front.items c.args.self.now.back.items
    c.args.stop.now c.remove_range.new.self c.args.column c.args.left c.requires.held few
    c.in_ok-remove_range.ensures.new

pub returns-then-left-rest-clause-held : goal.returns-then-left-rest-clause-held
returns-then-left-rest-clause-held g c =
    (within g (goal.at.returns-then-left-rest-clause-held g c).In_ok-remove_range).held

pub returns-then-left-rest-clause-new : goal.returns-then-left-rest-clause-new
returns-then-left-rest-clause-new g c =
    (within g (goal.at.returns-then-left-rest-clause-new g c).In_ok-remove_range).text

pub join_next-requires-clause-some : goal.join_next-requires-clause-some
join_next-requires-clause-some g c =
    let lines = g.L.LineList.lines c.args.self.now.list.now in
    let large : length c.args.stop.now.copy.line.columns - c.args.column
    ≤ c.args.left = omega (arith, c.if-left-rest.false, c.len.ensures) in
    next-there lines c.args.self.now.front.items c.args.self.now.back.items c.args.stop.now c.args.column c.args.left
    c.requires.within large

-- what is left where the next line joins it
joined : (g : Over) (c : In_ok-remove_range-2 g)
    → Leaves (g.L.LineList.lines c.join_next.new.self.list.now) c.join_next.new.self.front.items
    c.join_next.new.self.back.items (with_line c.remove_range-2.new.self c.join_next.new.stop) c.args.column
    (held_at (g.L.LineList.lines c.args.self.now.list.now) c.args.self.now.front.items c.args.stop.now.copy
    c.args.column) (length c.args.stop.now.copy.line.columns - c.args.column)
    (held_text (g.L.LineList.lines c.args.self.now.list.now) c.args.self.now.front.items c.args.self.now.back.items
    c.args.stop.now.copy)
joined g c =
    let stop = c.args.stop.now in
    let joint = c.join_next.new.stop in
    let column = c.args.column in
    let long : c.len.result ≡ length stop.copy.line.columns = c.len.ensures in
    let large : length stop.copy.line.columns - column ≤ c.args.left = omega (arith, c.if-left-rest.false, long) in
    leaves-joined (g.L.LineList.lines c.args.self.now.list.now) (g.L.LineList.lines c.join_next.new.self.list.now)
    c.args.self.now.front.items c.join_next.new.self.front.items c.args.self.now.back.items
    c.join_next.new.self.back.items stop joint c.remove_range-2.new.self column c.args.left
    (ap g.L.LineList.lines c.join_next.ensures.list)
    (ap (λ (front : Vec Stop Global). front.items) c.join_next.ensures.front)
    c.requires.held c.requires.within large c.join_next.ensures.kept c.in_ok-join_next.ensures.taken
    c.in_ok-join_next.ensures.joins
    (c.in_ok-remove_range-2.ensures.new ∙ ap (λ n. after_removal column (column + (n - column)) joint.copy.line) long)

pub returns-clause-held : goal.returns-clause-held
returns-clause-held g c = (joined g (goal.at.returns-clause-held g c).In_ok-remove_range-2).held

pub returns-clause-new : goal.returns-clause-new
returns-clause-new g c =
    let lines = g.L.LineList.lines c.args.self.now.list.now in
    let stop = c.args.stop.now in
    let column = c.args.column in
    (joined g (goal.at.returns-clause-new g c).In_ok-remove_range-2).text
    ∙ ap (λ n. after_removal (held_at lines c.args.self.now.front.items stop.copy column)
    (held_at lines c.args.self.now.front.items stop.copy column + (n - column))
    (held_text lines c.args.self.now.front.items c.args.self.now.back.items stop.copy)) (sym c.len.ensures)
