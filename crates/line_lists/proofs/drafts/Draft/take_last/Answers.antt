use Rattle.line_lists.proofs.Common.{◌≡◌, ◌≤◌, ◌++◌, ◌∷◌, [], length, subst, sym, ap, ◌∙◌, arith, option_to_list}
use Rattle.line_lists.proofs.Common.{IsDraft, copies_of, drafted_at, used}
use Rattle.line_lists.proofs.FindLaws.{IsLast, taken-is, taken-last, the-last}
use Rattle.line_lists.proofs.KnownLaws.{draft-there}
use Rattle.line_lists.proofs.drafts.Draft.take_last.Given.{Over}
use Rattle.line_lists.proofs.drafts.Draft.take_last.Goals.{After-len}
use Rattle.line_lists.proofs.drafts.Draft.take_last.Goals as goal

pub leave_last-requires-clause-there : goal.leave_last-requires-clause-there
leave_last-requires-clause-there g c =
    let lines = g.L.LineList.lines c.args.self.now.list.now in
    subst (λ items. used (copies_of items) ≤ length lines) (sym c.deref.ensures.value)
    (draft-there lines c.args.self.now.front.items c.args.self.now.back.items c.requires.is)

-- the last copy before the place
stop-last : (g : Over) (c : After-len g)
    → c.args.self.now.front.items ≡ c.pop.new.self.items ++ c.unwrap-stop.result ∷ []
stop-last g c = c.pop.ensures.items ∙ ap (λ last. c.pop.new.self.items ++ option_to_list last) c.unwrap-stop.ensures

last : (g : Over) (c : After-len g)
    → IsLast (g.L.LineList.lines c.args.self.now.list.now) c.pop.new.self.items c.unwrap-stop.result c.args.offset
    c.args.end c.len.result
last g c =
    the-last (g.L.LineList.lines c.args.self.now.list.now) c.args.self.now.front.items c.pop.new.self.items
    c.args.self.now.back.items c.unwrap-stop.result c.args.offset c.args.end c.len.result c.requires.is
    (stop-last g c) c.requires.begun c.requires.end c.requires.within c.len.ensures

pub overflow_sub-start : goal.overflow_sub-start
overflow_sub-start g c = let is = last g (goal.at.overflow_sub-start g c).After-len in omega (arith, is.start)

pub overflow_sub-result : goal.overflow_sub-result
overflow_sub-result g c =
    let is = last g (goal.at.overflow_sub-result g c).After-len in
    omega (arith, is.start, is.begun)

pub returns-clause-taken : goal.returns-clause-taken
returns-clause-taken g c =
    let lines = g.L.LineList.lines c.args.self.now.list.now in
    taken-last lines c.pop.new.self.items c.args.self.now.back.items c.unwrap-stop.result
    (subst (λ front. IsDraft lines front c.args.self.now.back.items)
    (stop-last g (goal.at.returns-clause-taken g c).After-len) c.requires.is)

pub returns-clause-same : goal.returns-clause-same
returns-clause-same g c =
    let lines = g.L.LineList.lines c.args.self.now.list.now in
    let back = c.args.self.now.back.items in
    sym (ap (λ front. drafted_at lines front back) (stop-last g (goal.at.returns-clause-same g c).After-len)
    ∙ taken-is lines c.pop.new.self.items back c.unwrap-stop.result)

pub returns-clause-place : goal.returns-clause-place
returns-clause-place g c = (last g (goal.at.returns-clause-place g c).After-len).stands
