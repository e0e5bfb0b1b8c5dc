use Rattle.line_tree.proofs.Common.{◌≡◌, ap, sym, ◌∙◌, [], ◌∷◌, length, subst, get-empty, FitsSum, line_count}
use Rattle.line_tree.proofs.Common.{plain_line, records, name_cmp}
use Rattle.line_tree.proofs.GrowLaws.{unnamed}
use Rattle.line_tree.proofs.RootLaws.{first-root, first-root-alone, lone-fits, lone-line, new-line, new-sum}
use Rattle.line_tree.proofs.TreeLaws.{named-tree}
use Rattle.std.specs.FinMap as finite
use Rattle.line_tree.proofs.tree.LineTree.new.Goals as goal

pub top-root-requires-clause-child : goal.top-root-requires-clause-child
top-root-requires-clause-child g c = let n = records c.new_line-name.new.store in let x = c.new_line-name.result in
    named-tree n 0 x (new-line (records c.reserve_lines.new.self) n x c.in_ok-line.line c.new_line-name.ensures.line)

pub top-root-requires-clause-sum : goal.top-root-requires-clause-sum
top-root-requires-clause-sum g c =
    c.sum-sum.ensures ∙ sym (new-sum (records c.reserve_lines.new.self) (records c.new_line-name.new.store)
    c.new_line-name.result c.in_ok-line.line c.new_line-name.ensures.line)

pub invariant_of-result : goal.invariant_of-result
invariant_of-result g c = let m = records c.reserve_lines.new.self in
    let is : c.in_ok-line.line ≡ plain_line (10 ∷ []) = c.in_ok-line.ensures ∙ lone-line in
    let none = c.reserve_lines.ensures.records ∙ c.reserve.ensures.records ∙ c.new-store.ensures.records in
    let fits = subst (λ l. FitsSum (line_count l)) (sym is) lone-fits in
    let first = first-root m (records c.new_line-name.new.store) (records c.top-root.new.store) c.new_line-name.result
    c.in_ok-line.line c.new_line-name.ensures.line fits c.top-root.result c.top-root.ensures.root in (
      first-root-alone m (records c.new_line-name.new.store) (records c.top-root.new.store) c.new_line-name.result
          c.in_ok-line.line
          (λ q s. unnamed m q s (ap (λ z. finite.get z q) none ∙ get-empty name_cmp q))
          c.new_line-name.ensures.line fits c.top-root.result c.top-root.ensures.root,
      sym (ap length first.1),
    )

pub returns : goal.returns
returns g c =
    let is : c.in_ok-line.line ≡ plain_line (10 ∷ []) = c.in_ok-line.ensures ∙ lone-line in
    let first = first-root (records c.reserve_lines.new.self) (records c.new_line-name.new.store)
    (records c.top-root.new.store) c.new_line-name.result c.in_ok-line.line
    c.new_line-name.ensures.line (subst (λ l. FitsSum (line_count l)) (sym is) lone-fits) c.top-root.result
    c.top-root.ensures.root in
    (c.new_line-name.result, first.1 ∙ ap (λ l. (c.new_line-name.result, l) ∷ []) is)
