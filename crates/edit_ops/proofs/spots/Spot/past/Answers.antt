use Rattle.edit_ops.proofs.Common.{◌+◌, sym, ap, ◌∙◌, is_newline, Spot}
use Rattle.edit_ops.proofs.SpotLaws.{end-newline, end-other, first_of, grown-is, newline-no}
use Rattle.edit_ops.proofs.spots.Spot.past.Goals as goal

pub returns-then-character-eq10-clause-end : goal.returns-then-character-eq10-clause-end
returns-then-character-eq10-clause-end c = λ before is.
    c.start_of.ensures ∙ ap (λ (spot : Spot). first_of (spot.line + 1)) is
    ∙ sym (end-newline c.args.character before (ap is_newline c.if-character-eq10.true))

pub returns-clause-end : goal.returns-clause-end
returns-clause-end c = λ before is.
    grown-is c.args.character c.len_utf8.result c.len_utf16.result c.args.self _ is c.len_utf8.ensures.len
    c.len_utf16.ensures.bmp c.len_utf16.ensures.surrogate_pair
    ∙ sym (end-other c.args.character before (newline-no c.args.character c.if-character-eq10.false))
