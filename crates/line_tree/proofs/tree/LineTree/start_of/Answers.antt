use Rattle.line_tree.proofs.Common.{length, take, sym, subst, ap, ◌∙◌, Count, contents, lines_in, records, whole}
use Rattle.line_tree.proofs.Common.{count-characters, IsLineAt}
use Rattle.line_tree.proofs.PrefixLaws.{count-first}
use Rattle.line_tree.proofs.tree.LineTree.start_of.Goals as goal

pub returns : goal.returns
returns g c k at = let ls = lines_in (records c.self.inside.store) c.self.inside.height c.self.inside.root in
    c.start_of.ensures k (subst (λ v. IsLineAt v.lines k c.args.name) (sym c.self.view_is) at)
    ∙ ap (λ (s : Count). s.characters) (sym (count-first k ls))
    ∙ count-characters (take k (contents ls))
    ∙ ap (λ v. length (whole (take k (contents v.lines))).columns) c.self.view_is
