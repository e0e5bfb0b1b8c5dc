use Rattle.line_tree.proofs.Common.{◌≡◌, ap, sym, ◌∙◌, arith, holder, noted}
use Rattle.line_tree.proofs.ListedLaws.{held, held-name}
use Rattle.line_tree.proofs.TakeLaws.{noted-there, only-in, same-contents, taken-are, taken-lines, taken-table}
use Rattle.line_tree.proofs.TakeLaws.{taken-there}
use Rattle.line_tree.proofs.tree_lines.TreeLinesLineList.take_mark.Goals as goal

pub take_mark_named-requires : goal.take_mark_named-requires
take_mark_named-requires c = let n = c.args.number.0 in let list = c.args.self.now in let ls = list.tree.lines in
    let p = c.in-Some.name in
    let is : c.name_of.result ≡ holder n ls = c.name_of.ensures ∙ ap (noted n) c.deref.ensures.value
    ∙ list.table.each n in
    let at = held n ls p (sym is ∙ c.in-Some.is) in
    (at.0, held-name n ls p at.0 at.1)

pub index_mut-requires : goal.index_mut-requires
index_mut-requires c = let n = c.args.number.0 in let list = c.args.self.now in let ls = list.tree.lines in
    let p = c.in-Some.name in
    let is : c.name_of.result ≡ holder n ls = c.name_of.ensures ∙ ap (noted n) c.deref.ensures.value
    ∙ list.table.each n in
    let at = held n ls p (sym is ∙ c.in-Some.is) in
    let only = only-in n ls p at.0 list.are_lines at.1 in
    let below = noted-there n list.names.items ls at.0 only list.table in let ok = list.names.ok.0 in
    omega (arith, below, ok)

pub invariant_of-self : goal.invariant_of-self
invariant_of-self c = let n = c.args.number.0 in let list = c.args.self.now in let ls = list.tree.lines in
    let p = c.in-Some.name in
    let is : c.name_of.result ≡ holder n ls = c.name_of.ensures ∙ ap (noted n) c.deref.ensures.value
    ∙ list.table.each n in
    let at = held n ls p (sym is ∙ c.in-Some.is) in
    let only = only-in n ls p at.0 list.are_lines at.1 in
    let now = c.take_mark_named.new.self.lines in
    let made = c.take_mark_named.ensures.lines at.0 (held-name n ls p at.0 at.1) in
    record {
      are_lines = taken-are n ls now at.0 list.are_lines only made;
      table = taken-table n list.names.items ls now at.0 only list.table made;
      remembered = taken-there n ls now at.0 list.last only made list.remembered;
    }

pub returns-in-Some-clause-lines : goal.returns-in-Some-clause-lines
returns-in-Some-clause-lines c = let n = c.args.number.0 in let list = c.args.self.now in let ls = list.tree.lines in
    let p = c.in-Some.name in
    let is : c.name_of.result ≡ holder n ls = c.name_of.ensures ∙ ap (noted n) c.deref.ensures.value
    ∙ list.table.each n in
    let at = held n ls p (sym is ∙ c.in-Some.is) in
    taken-lines n ls c.take_mark_named.new.self.lines at.0 (only-in n ls p at.0 list.are_lines at.1)
    (c.take_mark_named.ensures.lines at.0 (held-name n ls p at.0 at.1))

pub returns-in_default-clause-lines : goal.returns-in_default-clause-lines
returns-in_default-clause-lines c = let n = c.args.number.0 in let list = c.args.self.now in
    sym (same-contents n list.tree.lines (sym (c.in_default.ensures ∙ ap (noted n) c.deref.ensures.value
    ∙ list.table.each n)))
