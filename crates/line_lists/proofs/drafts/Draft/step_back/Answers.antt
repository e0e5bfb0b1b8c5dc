use Rattle.line_lists.proofs.Common.{◌≤◌, ◌++◌, ◌∷◌, [], length, subst, sym, ap, ◌∙◌, IsDraft, copies_of, used}
use Rattle.line_lists.proofs.DraftLaws.{draft-back}
use Rattle.line_lists.proofs.KnownLaws.{draft-there}
use Rattle.line_lists.proofs.drafts.Draft.step_back.Goals as goal

pub leave_last-requires-clause-there : goal.leave_last-requires-clause-there
leave_last-requires-clause-there g c =
    let lines = g.L.LineList.lines c.args.self.now.list.now in
    subst (λ items. used (copies_of items) ≤ length lines) (sym c.deref.ensures.value)
    (draft-there lines c.args.self.now.front.items c.args.self.now.back.items c.requires)

pub returns-in-Some-clause-is : goal.returns-in-Some-clause-is
returns-in-Some-clause-is g c =
    let lines = g.L.LineList.lines c.args.self.now.list.now in
    let stop = c.in-Some.stop in
    let back = c.args.self.now.back.items in
    subst (λ items. IsDraft lines c.pop.new.self.items items)
    (sym (c.push_reserved.ensures.items ∙ ap (λ items. items ++ stop.copy ∷ []) c.in_ok-reserve.ensures.items))
    (draft-back lines c.pop.new.self.items back stop
    (subst (λ items. IsDraft lines items back) c.in-Some.ensures.items c.requires))
