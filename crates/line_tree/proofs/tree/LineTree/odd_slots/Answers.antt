use Rattle.line_tree.proofs.Common.{take, sym, ap, ◌∙◌, Count, contents, lines_in, records, count_of}
use Rattle.line_tree.proofs.PrefixLaws.{count-first}
use Rattle.line_tree.proofs.tree.LineTree.odd_slots.Goals as goal

pub returns : goal.returns
returns g c = let ls = lines_in (records c.self.inside.store) c.self.inside.height c.self.inside.root in
    c.odd_slots.ensures ∙ ap (λ (s : Count). s.parity) (sym (count-first c.args.k ls))
    ∙ ap (λ v. (count_of (take c.args.k (contents v.lines))).parity) c.self.view_is
