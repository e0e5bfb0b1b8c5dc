use Rattle.line_lists.proofs.Common.{subst, sym, ap, ◌∙◌, IsDraft, drafted_at}
use Rattle.line_lists.proofs.FindLaws.{put-back, taken-is}
use Rattle.line_lists.proofs.drafts.Draft.put.Goals as goal

pub returns-clause-is : goal.returns-clause-is
returns-clause-is g c =
    let lines = g.L.LineList.lines c.args.self.now.list.now in
    let back = c.args.self.now.back.items in
    subst (λ front. IsDraft lines front back) (sym c.push_reserved.ensures.items)
    (put-back lines c.args.self.now.front.items back c.args.stop c.requires.taken c.requires.counted)

pub returns-clause-lines : goal.returns-clause-lines
returns-clause-lines g c =
    let lines = g.L.LineList.lines c.args.self.now.list.now in
    let back = c.args.self.now.back.items in
    ap (λ front. drafted_at lines front back) c.push_reserved.ensures.items
    ∙ taken-is lines c.args.self.now.front.items back c.args.stop
