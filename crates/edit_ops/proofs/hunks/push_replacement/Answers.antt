use Rattle.edit_ops.proofs.Common.{◌≡◌, [], arith, ap, sym, ◌∙◌, chars, eqb-true, nil_from_length, chars-nil}
use Rattle.edit_ops.proofs.HunkLaws.{none-more}
use Rattle.edit_ops.proofs.hunks.push_replacement.Goals as goal

pub returns-then-is_empty : goal.returns-then-is_empty
returns-then-is_empty c =
    let none = eqb-true _ 0 (sym c.is_empty.ensures ∙ c.if-is_empty.true) in
    let empty : c.args.text ≡ [] = sym c.as_str.ensures.characters
    ∙ ap chars (nil_from_length c.as_str.result.now none) ∙ chars-nil in
    let test = c.if-to-from.true in
    none-more c.args.from c.args.to c.args.text c.args.hunks.now.items (omega (arith, test)) empty
