use Rattle.line_lists.proofs.Common.{◌≡◌, ◌<◌, ◌+◌, ◌-◌, ◌≤◌, length, take, ap, ◌∙◌, arith, slice_get, nat_tests}
use Rattle.line_lists.proofs.Common.{line_start}
use Rattle.line_lists.proofs.DraftLaws.{begins-by, last-begins-behind, last_is}
use Rattle.line_lists.proofs.FindLaws.{last-starts}
use Rattle.line_lists.proofs.drafts.Draft.is_last.Given.{Over}
use Rattle.line_lists.proofs.drafts.Draft.is_last.Goals.{After-len}
use Rattle.line_lists.proofs.drafts.Draft.is_last.Goals as goal

-- where the last copy begins
starts : (g : Over) (c : After-len g)
    → line_start c.in-Some.stop.now.reached c.in-Some.stop.now.copy (g.L.LineList.lines c.args.self.now.list.now)
    + c.len.result ≡ c.args.end
starts g c =
    let front = c.args.self.now.front.items in
    let stop = c.in-Some.stop.now in
    let is = last_is front stop (c.in-Some.ensures.value
    ∙ ap (λ xs. slice_get xs (length xs - 1)) c.deref.ensures.value) in
    let starts = last-starts (g.L.LineList.lines c.args.self.now.list.now) front (take (length front - 1) front)
    c.args.self.now.back.items stop c.args.end c.requires.is is c.requires.end in
    omega (arith, starts, c.len.ensures)

pub overflow_sub-result : goal.overflow_sub-result
overflow_sub-result g c = omega (arith, starts g (goal.at.overflow_sub-result g c).After-len)

pub returns-then-offset-end-clause-begun : goal.returns-then-offset-end-clause-begun
returns-then-offset-end-clause-begun g c = λ yes.
    let small : c.args.end - c.len.result ≤ c.args.offset = grind (arith, nat_tests, yes) in
    begins-by (g.L.LineList.lines c.args.self.now.list.now) c.args.offset c.args.self.now.front.items
    c.args.self.now.back.items c.in-Some.stop.now c.requires.is
    (c.in-Some.ensures.value ∙ ap (λ xs. slice_get xs (length xs - 1)) c.deref.ensures.value)
    (omega (arith, starts g (goal.at.returns-then-offset-end-clause-begun g c).After-len, small))

pub returns-then-offset-end-clause-other : goal.returns-then-offset-end-clause-other
returns-then-offset-end-clause-other g c = λ no within.
    let large : c.args.offset < c.args.end - c.len.result = grind (arith, nat_tests, no) in
    last-begins-behind (g.L.LineList.lines c.args.self.now.list.now) c.args.offset c.args.self.now.front.items
    c.args.self.now.back.items c.in-Some.stop.now c.requires.is
    (c.in-Some.ensures.value ∙ ap (λ xs. slice_get xs (length xs - 1)) c.deref.ensures.value)
    (omega (arith, starts g (goal.at.returns-then-offset-end-clause-other g c).After-len, large))
