use Rattle.line_tree.proofs.Common.{◌≡◌, true, sym, ap, subst, ◌∙◌, Count, IsBare, contents, lines_in, records}
use Rattle.line_tree.proofs.Common.{count_of}
use Rattle.line_tree.proofs.PrefixLaws.{count-contents}
use Rattle.line_tree.proofs.RowLaws.{tells}
use Rattle.line_tree.proofs.TreeLaws.{named-tree, sum-tree}
use Rattle.line_tree.proofs.tree.LineTree.is_bare.Goals as goal

pub returns-clause-yes : goal.returns-clause-yes
returns-clause-yes g c is =
    let m = records c.self.inside.store in
    let h = c.self.inside.height in
    let p = c.self.inside.root in
    let tree = c.self.invariant.0.stands.tree in
    subst IsBare
    (sum-tree m h p tree ∙ sym (count-contents (lines_in m h p)) ∙ ap (λ v. count_of (contents v.lines)) c.self.view_is)
    (tells (λ (s : Count). c.is_bare.result ≡ true → IsBare s) m p (named-tree m h p tree) c.is_bare.ensures.yes is)

pub returns-clause-no : goal.returns-clause-no
returns-clause-no g c bare =
    let m = records c.self.inside.store in
    let h = c.self.inside.height in
    let p = c.self.inside.root in
    let tree = c.self.invariant.0.stands.tree in
    tells (λ (s : Count). IsBare s → c.is_bare.result ≡ true) m p (named-tree m h p tree) c.is_bare.ensures.no
    (subst IsBare
    (sym (sum-tree m h p tree ∙ sym (count-contents (lines_in m h p))
    ∙ ap (λ v. count_of (contents v.lines)) c.self.view_is)) bare)
