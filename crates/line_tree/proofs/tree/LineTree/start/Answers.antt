use Rattle.line_tree.proofs.Common.{length, take, sym, ap, ◌∙◌, Count, contents, lines_in, records, whole}
use Rattle.line_tree.proofs.Common.{count-characters}
use Rattle.line_tree.proofs.PrefixLaws.{count-first}
use Rattle.line_tree.proofs.tree.LineTree.start.Goals as goal

pub returns : goal.returns
returns g c = let ls = lines_in (records c.self.inside.store) c.self.inside.height c.self.inside.root in
    c.start.ensures ∙ ap (λ (s : Count). s.characters) (sym (count-first c.args.k ls))
    ∙ count-characters (take c.args.k (contents ls))
    ∙ ap (λ v. length (whole (take c.args.k (contents v.lines))).columns) c.self.view_is
