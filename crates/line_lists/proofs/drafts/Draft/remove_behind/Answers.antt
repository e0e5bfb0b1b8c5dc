use Rattle.line_lists.proofs.Common.{Vec, Global, ◌≡◌, ap, ◌∙◌, arith, Stop, held_at, held_text}
use Rattle.line_lists.proofs.HeldLaws.{at-same, left-long, left-same, none-left}
use Rattle.line_lists.proofs.drafts.Draft.remove_behind.Goals as goal

pub loop-left-preserved : goal.loop-left-preserved
loop-left-preserved g c =
    let so_far = c.loop-left.invariant in
    let step = c.in_ok-left.ensures in
    let now = c.loop-left.self in
    let new = c.remove_some.new.self in
    let lines = g.L.LineList.lines now.list.now in
    let others = g.L.LineList.lines new.list.now in
    let column = c.args.column in
    let at = held_at lines now.front.items c.loop-left.stop.copy column in
    let place = held_at others new.front.items c.remove_some.new.stop.copy column in
    let same : place ≡ at =
    at-same lines others now.front.items new.front.items c.loop-left.stop.copy c.remove_some.new.stop.copy column
    (ap g.L.LineList.lines step.list) (ap (λ (front : Vec Stop Global). front.items) step.front) step.kept in
    let old = held_text lines now.front.items now.back.items c.loop-left.stop.copy in
    let text = held_text others new.front.items new.back.items c.remove_some.new.stop.copy in
    let first = held_text (g.L.LineList.lines c.args.self.now.list.now) c.args.self.now.front.items
    c.args.self.now.back.items c.args.stop.now.copy in (
      step.list ∙ so_far.0,
      step.front ∙ so_far.1,
      step.kept ∙ so_far.2,
      step.held,
      left-long at place c.in_ok-left.field-0 c.loop-left.left old text same step.new step.most so_far.4,
      left-same at place c.in_ok-left.field-0 c.loop-left.left c.args.count old text first same step.new step.most
          so_far.4 so_far.5,
    )

pub returns-clause-new : goal.returns-clause-new
returns-clause-new g c =
    let so_far = c.loop-left.invariant in
    let now = c.loop-left.self in
    let lines = g.L.LineList.lines c.args.self.now.list.now in
    let others = g.L.LineList.lines now.list.now in
    let column = c.args.column in
    let at = held_at lines c.args.self.now.front.items c.args.stop.now.copy column in
    let place = held_at others now.front.items c.loop-left.stop.copy column in
    let same : place ≡ at =
    at-same lines others c.args.self.now.front.items now.front.items c.args.stop.now.copy c.loop-left.stop.copy column
    (ap g.L.LineList.lines so_far.0) (ap (λ (front : Vec Stop Global). front.items) so_far.1) so_far.2 in
    none-left at place c.loop-left.left c.args.count
    (held_text others now.front.items now.back.items c.loop-left.stop.copy)
    (held_text lines c.args.self.now.front.items c.args.self.now.back.items c.args.stop.now.copy) same
    (omega (arith, c.loop-left-test.false)) so_far.5
