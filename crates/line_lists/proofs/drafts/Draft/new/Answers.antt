use Rattle.line_lists.proofs.Common.{[], subst, sym, IsDraft}
use Rattle.line_lists.proofs.DraftLaws.{draft-none}
use Rattle.line_lists.proofs.drafts.Draft.new.Goals as goal

pub returns-clause-is : goal.returns-clause-is
returns-clause-is g c =
    let lines = g.L.LineList.lines c.args.list.now in
    subst (λ front. IsDraft lines front c.new-2.result.items) (sym c.new.ensures.items)
    (subst (λ back. IsDraft lines [] back) (sym c.new-2.ensures.items)
    (draft-none lines (g.L.LineList.are_lines c.args.list.now).counted))

pub invariant_of-result : goal.invariant_of-result
invariant_of-result g c =
    record { told = c.nothing.ensures (g.L.LineList.lines c.args.list.now) c.new.result.items; shown = tt }
