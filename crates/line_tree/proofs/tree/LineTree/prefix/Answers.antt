use Rattle.line_tree.proofs.Common.{take, sym, ap, ◌∙◌, contents, lines_in, records, count_of}
use Rattle.line_tree.proofs.PrefixLaws.{count-first}
use Rattle.line_tree.proofs.tree.LineTree.prefix.Goals as goal

pub returns : goal.returns
returns g c = let ls = lines_in (records c.self.inside.store) c.self.inside.height c.self.inside.root in
    c.prefix.ensures ∙ sym (count-first c.args.k ls)
    ∙ ap (λ v. count_of (take c.args.k (contents v.lines))) c.self.view_is
