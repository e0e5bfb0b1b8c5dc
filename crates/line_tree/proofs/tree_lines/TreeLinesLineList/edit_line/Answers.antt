use Rattle.line_tree.proofs.Common.{◌≡◌, ◌+◌, ◌≤◌, ap, sym, ◌∙◌, subst, arith, contents, length, same_Some, slice_get}
use Rattle.line_tree.proofs.Common.{◌∷◌, [], slice_get_within, Some, AreLines, LineContent, Named, changed, has_mark}
use Rattle.line_tree.proofs.Common.{holder, spliced, spliced-fits}
use Rattle.std.proofs.Common.{option_map}
use Rattle.line_tree.proofs.ChangingLaws.{changed-at}
use Rattle.line_tree.proofs.HolderLaws.{holder-changed}
use Rattle.line_tree.proofs.OverLaws.{fits-one, named-listed, over-contents, over-there}
use Rattle.line_tree.proofs.tree_lines.TreeLinesLineList.edit_line.Given.{Over}
use Rattle.line_tree.proofs.tree_lines.TreeLinesLineList.edit_line.Goals.{In_ok-edit_named}
use Rattle.line_tree.proofs.tree_lines.TreeLinesLineList.edit_line.Goals as goal

pub edit_named-requires : goal.edit_named-requires
edit_named-requires g c = (
  c.args.index,
  c.requires.line,
  named-listed c.args.self.now.tree.lines c.args.index c.place-start.result.name c.requires.line c.place-start.ensures.name
      c.requires.is,
  (
    c.requires.fits,
    fits-one c.args.self.now.tree.lines (g.E.LineEdit.edited c.args.edit.now c.requires.line) c.requires.counted,
  ),
)

-- the line at the index with its name, and what is made of the lines
there : (g : Over) (c : In_ok-edit_named g) →
    slice_get c.args.self.now.tree.lines c.args.index ≡ Some (c.place-start.result.name, c.requires.line)
there g c =
    named-listed c.args.self.now.tree.lines c.args.index c.place-start.result.name c.requires.line
    c.place-start.ensures.name c.requires.is

made : (g : Over) (c : In_ok-edit_named g) → c.edit_named.new.self.lines
    ≡ changed c.args.index (λ _. g.E.LineEdit.edited c.args.edit.now c.requires.line) c.args.self.now.tree.lines
made g c = c.in_ok-edit_named.ensures.made c.args.index c.requires.line (there g c)

here : (g : Over) (c : In_ok-edit_named g) → slice_get c.edit_named.new.self.lines c.args.index
    ≡ Some (c.place-start.result.name, g.E.LineEdit.edited c.args.edit.now c.requires.line)
here g c =
    ap (λ ls. slice_get ls c.args.index) (made g c)
    ∙ changed-at c.args.self.now.tree.lines c.args.index (c.place-start.result.name, c.requires.line)
    (λ _. g.E.LineEdit.edited c.args.edit.now c.requires.line) (there g c)

pub line-requires : goal.line-requires
line-requires g c =
    (c.args.index, ap (option_map (λ (l : Named). l.0)) (here g (goal.at.line-requires g c).In_ok-edit_named))

pub overflow_add-end : goal.overflow_add-end
overflow_add-end g c =
    let at = (goal.at.overflow_add-end g c).In_ok-edit_named in
    let new = g.E.LineEdit.edited c.args.edit.now c.requires.line in
    let is : c.line.result.now ≡ new = ap (λ (l : Named). l.1) (same_Some (c.place-start.result.name, c.line.result.now)
    (c.place-start.result.name, new) (sym (c.line.ensures c.args.index (ap (option_map (λ (l : Named). l.0)) (here g at)))
    ∙ here g at)) in
    omega (
      arith,
      spliced-fits c.args.index c.place-start.result.start new (contents c.args.self.now.tree.lines)
          c.place-start.ensures.start c.requires.are,
      c.len.ensures,
      ap (λ (line : LineContent). length line.columns) is,
    )

pub invariant_of-self-2 : goal.invariant_of-self-2
invariant_of-self-2 g c =
    let at = (goal.at.invariant_of-self-2 g c).In_ok-edit_named in
    let list = c.args.self.now in
    let old = list.tree.lines in
    let now = c.edit_named.new.self.lines in
    let k = c.args.index in
    let p = c.place-start.result.name in
    let was = c.requires.line in
    let new = g.E.LineEdit.edited c.args.edit.now was in
    let within = slice_get_within (contents old) k was c.requires.is in
    let low : k + 1 ≤ length (contents old) = omega (arith, within) in
    let is : c.line.result.now ≡ new = ap (λ (l : Named). l.1) (same_Some (p, c.line.result.now) (p, new)
    (sym (c.line.ensures k (ap (option_map (λ (l : Named). l.0)) (here g at))) ∙ here g at)) in
    record {
      are_lines = subst AreLines (sym (over-contents old now k p was new low (there g at) (made g at))) c.requires.are;
      table = record {
        each = λ n. list.table.each n ∙ sym (ap (holder n) (made g at) ∙ holder-changed n k old (λ _. new) (λ l found.
            c.requires.marks n ∙ ap (λ (l : Named). has_mark n l.1) (same_Some (p, was) l (sym (there g at) ∙ found))));
      };
      remembered = over-there old now k p was new low (there g at) (made g at) c.place-start.result.start
          (c.place-start.result.start + c.len.result) c.place-start.ensures.start
          (ap (λ n. c.place-start.result.start + n) (c.len.ensures ∙ ap (λ (line : LineContent). length line.columns) is));
    }

pub returns-clause-made : goal.returns-clause-made
returns-clause-made g c = λ line is.
    let at = (goal.at.returns-clause-made g c).In_ok-edit_named in
    let old = c.args.self.now.tree.lines in
    let k = c.args.index in
    let was = c.requires.line in
    let new = g.E.LineEdit.edited c.args.edit.now was in
    let within = slice_get_within (contents old) k was c.requires.is in
    let low : k + 1 ≤ length (contents old) = omega (arith, within) in
    over-contents old c.edit_named.new.self.lines k c.place-start.result.name was new low (there g at) (made g at)
    ∙ ap (λ l. spliced k 1 (g.E.LineEdit.edited c.args.edit.now l ∷ []) (contents old))
    (same_Some was line (sym c.requires.is ∙ is))
