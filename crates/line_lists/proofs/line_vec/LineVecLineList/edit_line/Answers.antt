use Rattle.line_lists.proofs.Common.{◌≡◌, ◌<◌, ◌∙◌, sym, ap, subst, slice_get_within, AreLines, LineContent, Some}
use Rattle.line_lists.proofs.Common.{length, slice_get, spliced, ◌∷◌, [], get_or_from_slice_get}
use Rattle.line_lists.proofs.LineChangeLaws.{replaced-made}
use Rattle.line_lists.proofs.line_vec.LineVecLineList.edit_line.Given.{Over}
use Rattle.line_lists.proofs.line_vec.LineVecLineList.edit_line.Goals.{In_ok-make}
use Rattle.line_lists.proofs.line_vec.LineVecLineList.edit_line.Goals as goal

-- the copy is edited as the line is
made : (g : Over) (c : In_ok-make g) (line : LineContent) → slice_get c.args.self.now.lines.items c.args.index ≡ Some line
    → c.make.new.line ≡ g.E.LineEdit.edited c.args.edit.now line
made g c line is =
    c.in_ok-make.ensures.made
    ∙ ap (g.E.LineEdit.edited c.args.edit.now) (c.in_ok-line.ensures ∙ c.index.ensures
    ∙ get_or_from_slice_get c.args.self.now.lines.items c.args.index line c.index.result.now is)

pub invariant_of-self : goal.invariant_of-self
invariant_of-self g c =
    let at = (goal.at.invariant_of-self g c).In_ok-make in
    let items = c.args.self.now.lines.items in
    let within : c.args.index < length items = slice_get_within items c.args.index c.requires.line c.requires.is in
    record {
      are_lines = subst AreLines (ap (λ line. spliced c.args.index 1 (line ∷ []) items) (sym (made g at c.requires.line c.requires.is))
          ∙ sym (replaced-made c.args.index c.make.new.line items within)) c.requires.are;
    }

pub returns-clause-made : goal.returns-clause-made
returns-clause-made g c = λ line is.
    let at = (goal.at.returns-clause-made g c).In_ok-make in
    let items = c.args.self.now.lines.items in
    replaced-made c.args.index c.make.new.line items (slice_get_within items c.args.index line is)
    ∙ ap (λ line. spliced c.args.index 1 (line ∷ []) items) (made g at line is)
