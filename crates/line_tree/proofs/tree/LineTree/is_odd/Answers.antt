use Rattle.line_tree.proofs.Common.{take, sym, ap, ◌∙◌, Count, contents, lines_in, records, count_of}
use Rattle.line_tree.proofs.PrefixLaws.{count-first}
use Rattle.std.specs.FinSet as set
use Rattle.line_tree.proofs.tree.LineTree.is_odd.Goals as goal

pub returns : goal.returns
returns g c = let ls = lines_in (records c.self.inside.store) c.self.inside.height c.self.inside.root in
    let slot = c.args.slot.0 in
    c.is_odd.ensures ∙ ap (λ (s : Count). set.contains s.parity slot) (sym (count-first c.args.k ls))
    ∙ ap (λ v. set.contains (count_of (take c.args.k (contents v.lines))).parity slot) c.self.view_is
