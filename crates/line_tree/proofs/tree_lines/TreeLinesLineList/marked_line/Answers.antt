use Rattle.line_tree.proofs.Common.{◌≡◌, sym, ap, ◌∙◌, subst, is_some, IfSome, IsThere, holder, noted}
use Rattle.line_tree.proofs.ListedLaws.{held, held-name, held-next, listed, marked-there, nowhere}
use Rattle.line_tree.proofs.tree_lines.TreeLinesLineList.marked_line.Goals as goal

pub returns-then-is_some-clause-some : goal.returns-then-is_some-clause-some
returns-then-is_some-clause-some c =
    let list = c.args.self.now in let last = c.in-Some.last in
    let there = subst (λ last. IfSome last (IsThere list.tree.lines)) c.in-Some.is list.remembered in
    marked-there c.args.number.0 list.tree.lines last c.line-line.result.now list.are_lines there
    (c.line-line.ensures last.index there.name)
    (ap is_some (sym c.mark_place.ensures.value) ∙ sym c.is_some.ensures ∙ c.if-is_some.true)

pub returns-in_err-name-clause-none : goal.returns-in_err-name-clause-none
returns-in_err-name-clause-none c none = let n = c.args.number.0 in let ls = c.args.self.now.tree.lines in
    let is : c.name_of.result ≡ holder n ls = c.name_of.ensures ∙ ap (noted n) c.deref.ensures.value
    ∙ c.args.self.now.table.each n in
    nowhere n ls (sym is ∙ c.in_err-name.was)

pub start_of-start-requires : goal.start_of-start-requires
start_of-start-requires c = let n = c.args.number.0 in let ls = c.args.self.now.tree.lines in
    let p = c.in_ok-name.name in
    let is : c.name_of.result ≡ holder n ls = c.name_of.ensures ∙ ap (noted n) c.deref.ensures.value
    ∙ c.args.self.now.table.each n in
    let at = held n ls p (sym is ∙ c.in_ok-name.was) in
    (at.0, held-name n ls p at.0 at.1)

pub line-requires : goal.line-requires
line-requires c = let n = c.args.number.0 in let ls = c.args.self.now.tree.lines in
    let p = c.in_ok-name.name in
    let is : c.name_of.result ≡ holder n ls = c.name_of.ensures ∙ ap (noted n) c.deref.ensures.value
    ∙ c.args.self.now.table.each n in
    let at = held n ls p (sym is ∙ c.in_ok-name.was) in
    (at.0, held-name n ls p at.0 at.1)

pub returns-clause-some : goal.returns-clause-some
returns-clause-some c = let n = c.args.number.0 in let ls = c.args.self.now.tree.lines in
    let p = c.in_ok-name.name in
    let is : c.name_of.result ≡ holder n ls = c.name_of.ensures ∙ ap (noted n) c.deref.ensures.value
    ∙ c.args.self.now.table.each n in
    let at = held n ls p (sym is ∙ c.in_ok-name.was) in
    let named = held-name n ls p at.0 at.1 in
    record {
      index = at.0;
      first = held-next n ls p at.0 at.1;
      starts = c.start_of-start.ensures at.0 named;
      there = listed ls at.0 p c.line.result.now (c.line.ensures at.0 named);
    }
