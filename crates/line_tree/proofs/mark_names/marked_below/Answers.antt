use Rattle.line_tree.proofs.Common.{sym, subst, ◌∙◌, MatchOption, AreBare, IsMarkedBelow}
use Rattle.line_tree.proofs.HolderLaws.{bare-next, bare-rest, bare-until}
use Rattle.line_tree.proofs.mark_names.marked_below.Goals as goal

pub returns-in_err-index : goal.returns-in_err-index
returns-in_err-index c = let ls = c.args.tree.now.lines in
    subst (λ o. MatchOption o (AreBare c.args.from c.args.to ls) (IsMarkedBelow c.args.from c.args.to ls))
    (sym c.from_residual.ensures)
    (bare-rest ls c.args.from c.args.to c.requires.within (sym c.next_marked.ensures ∙ c.in_err-index.was))

pub returns-then-index-to : goal.returns-then-index-to
returns-then-index-to c = let ls = c.args.tree.now.lines in
    bare-next ls c.args.from c.args.to c.in_ok-index.index c.select-then-index-to.result (sym c.next_marked.ensures
    ∙ c.in_ok-index.was) c.if-index-to.true c.select-then-index-to.ensures.name

pub returns-else-index-to : goal.returns-else-index-to
returns-else-index-to c = bare-until c.args.tree.now.lines c.args.from c.args.to c.in_ok-index.index c.requires.within
    c.if-index-to.false (sym c.next_marked.ensures ∙ c.in_ok-index.was)
