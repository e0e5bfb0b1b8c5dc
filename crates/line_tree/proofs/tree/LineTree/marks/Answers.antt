use Rattle.line_tree.proofs.Common.{sym, ap, ◌∙◌, Count, contents, lines_in, records, count_of}
use Rattle.line_tree.proofs.PrefixLaws.{count-contents}
use Rattle.line_tree.proofs.RowLaws.{marks_is}
use Rattle.line_tree.proofs.TreeLaws.{named-tree, sum-tree}
use Rattle.line_tree.proofs.tree.LineTree.marks.Goals as goal

pub returns : goal.returns
returns g c =
    let m = records c.self.inside.store in
    let h = c.self.inside.height in
    let p = c.self.inside.root in
    let tree = c.self.invariant.0.stands.tree in
    marks_is m p c.marks.result (named-tree m h p tree) c.marks.ensures.value
    ∙ ap (λ (s : Count). s.marks) (sum-tree m h p tree ∙ sym (count-contents (lines_in m h p)))
    ∙ ap (λ v. (count_of (contents v.lines)).marks) c.self.view_is
