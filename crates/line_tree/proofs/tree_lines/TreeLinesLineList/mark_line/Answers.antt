use Rattle.line_tree.proofs.Common.{◌≡◌, Some, sym, ap, ◌∙◌, holder, noted}
use Rattle.line_tree.proofs.ListedLaws.{held, held-name, held-next, nowhere}
use Rattle.line_tree.proofs.tree_lines.TreeLinesLineList.mark_line.Goals as goal

pub returns-in_err-name : goal.returns-in_err-name
returns-in_err-name c = let n = c.args.number.0 in let ls = c.args.self.now.tree.lines in
    let is : c.name_of.result ≡ holder n ls = c.name_of.ensures ∙ ap (noted n) c.deref.ensures.value
    ∙ c.args.self.now.table.each n in
    c.from_residual.ensures ∙ sym (nowhere n ls (sym is ∙ c.in_err-name.was))

pub rank-requires : goal.rank-requires
rank-requires c = let n = c.args.number.0 in let ls = c.args.self.now.tree.lines in let p = c.in_ok-name.name in
    let is : c.name_of.result ≡ holder n ls = c.name_of.ensures ∙ ap (noted n) c.deref.ensures.value
    ∙ c.args.self.now.table.each n in
    let at = held n ls p (sym is ∙ c.in_ok-name.was) in
    (at.0, held-name n ls p at.0 at.1)

pub returns : goal.returns
returns c = let n = c.args.number.0 in let ls = c.args.self.now.tree.lines in let p = c.in_ok-name.name in
    let is : c.name_of.result ≡ holder n ls = c.name_of.ensures ∙ ap (noted n) c.deref.ensures.value
    ∙ c.args.self.now.table.each n in
    let at = held n ls p (sym is ∙ c.in_ok-name.was) in
    ap (λ k. Some k) (c.rank.ensures.value at.0 (held-name n ls p at.0 at.1)) ∙ sym (held-next n ls p at.0 at.1)
