use Rattle.line_lists.proofs.Common.{◌-◌, ◌≤◌, length, take, ap, ◌∙◌, arith, slice_get, nat_tests}
use Rattle.line_lists.proofs.DraftLaws.{begins-by, last-start, last_is}
use Rattle.line_lists.proofs.drafts.Draft.is_begun.Goals as goal

pub returns-in-Some-clause-yes : goal.returns-in-Some-clause-yes
returns-in-Some-clause-yes g c = λ yes.
    let lines = g.L.LineList.lines c.args.self.now.list.now in
    let front = c.args.self.now.front.items in
    let back = c.args.self.now.back.items in
    let stop = c.in-Some.stop.now in
    let last = c.in-Some.ensures.value ∙ ap (λ xs. slice_get xs (length xs - 1)) c.deref.ensures.value in
    let small : stop.start ≤ c.args.offset = grind (arith, nat_tests, yes) in
    let start = last-start lines front (take (length front - 1) front) back stop c.requires (last_is front stop last) in
    begins-by lines c.args.offset front back stop c.requires last (omega (arith, small, start))
