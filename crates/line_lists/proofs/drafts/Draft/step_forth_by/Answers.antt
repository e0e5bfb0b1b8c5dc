use Rattle.line_lists.proofs.Common.{◌-◌, ◌++◌, ◌∷◌, [], length, take, subst, sym, ap, ◌∙◌, arith, slice_get, Stop}
use Rattle.line_lists.proofs.Common.{BeginsBy, IsDraft}
use Rattle.line_lists.proofs.DraftLaws.{begins-behind, can-follow-next, forth-by, last_is}
use Rattle.line_lists.proofs.drafts.Draft.step_forth_by.Given.{Over}
use Rattle.line_lists.proofs.drafts.Draft.step_forth_by.Goals.{After-push_reserved}
use Rattle.line_lists.proofs.drafts.Draft.step_forth_by.Goals as goal

pub start_of-start-requires : goal.start_of-start-requires
start_of-start-requires g c =
    let lines = g.L.LineList.lines c.args.self.now.list.now in
    let front = c.args.self.now.front.items in
    let back = c.args.self.now.back.items in
    let copy = c.in-Some.copy.now in
    can-follow-next lines front back (take (length back - 1) back) c.reached-reached.result copy c.requires.is
    c.reached-reached.ensures
    (last_is back copy (c.in-Some.ensures.value ∙ ap (λ xs. slice_get xs (length xs - 1)) c.deref.ensures.value))

pub returns-then-offset-start-clause-ahead : goal.returns-then-offset-start-clause-ahead
returns-then-offset-start-clause-ahead g c = λ _.
    let lines = g.L.LineList.lines c.args.self.now.list.now in
    begins-behind lines c.args.offset c.args.self.now.front.items c.args.self.now.back.items c.reached-reached.result
    c.in-Some.copy.now c.reached-reached.ensures
    (c.in-Some.ensures.value ∙ ap (λ xs. slice_get xs (length xs - 1)) c.deref.ensures.value)
    (omega (arith, c.if-offset-start.true, c.start_of-start.ensures))

-- the copy stands before the place then
moved : (g : Over) (c : After-push_reserved g)
    → IsDraft (g.L.LineList.lines c.args.self.now.list.now) c.push_reserved.new.self.items c.pop.new.self.items
    × BeginsBy (g.L.LineList.lines c.args.self.now.list.now) c.args.offset c.push_reserved.new.self.items
moved g c =
    let lines = g.L.LineList.lines c.args.self.now.list.now in
    let stop : Stop = record {
      reached = c.reached-reached.result;
      start = c.start_of-start.result;
      copy = c.in-Some-pop.copy;
    } in
    subst (λ items. IsDraft lines items c.pop.new.self.items × BeginsBy lines c.args.offset items)
    (sym (c.push_reserved.ensures.items ∙ ap (λ items. items ++ stop ∷ []) c.in_ok-reserve.ensures.items))
    (forth-by lines c.args.offset c.args.self.now.front.items c.args.self.now.back.items c.pop.new.self.items stop
    c.in-Some.copy.now c.requires.is c.in-Some-pop.ensures.items
    (c.in-Some.ensures.value ∙ ap (λ xs. slice_get xs (length xs - 1)) c.deref.ensures.value)
    c.reached-reached.ensures c.start_of-start.ensures (omega (arith, c.if-offset-start.false)))

pub returns-in-Some-pop-clause-is : goal.returns-in-Some-pop-clause-is
returns-in-Some-pop-clause-is g c = (moved g (goal.at.returns-in-Some-pop-clause-is g c).After-push_reserved).0

pub returns-in-Some-pop-clause-begun : goal.returns-in-Some-pop-clause-begun
returns-in-Some-pop-clause-begun g c = (moved g (goal.at.returns-in-Some-pop-clause-begun g c).After-push_reserved).1
