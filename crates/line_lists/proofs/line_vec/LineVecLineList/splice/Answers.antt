use Rattle.line_lists.proofs.Common.{subst, sym, ap, ◌∙◌, arith, inserted, AreLines}
use Rattle.line_lists.proofs.VecLaws.{spliced-made}
use Rattle.line_lists.proofs.line_vec.LineVecLineList.splice.Goals as goal

pub returns-clause-lines : goal.returns-clause-lines
returns-clause-lines c =
    c.put_lines.ensures.items
    ∙ ap (inserted c.args.from c.args.new.items) c.drop_lines.ensures.items
    ∙ spliced-made c.args.from c.args.count c.args.new.items c.args.self.now.lines.items
    (omega (arith, c.requires.within))

pub invariant_of-self : goal.invariant_of-self
invariant_of-self c =
    let made = c.put_lines.ensures.items
    ∙ ap (inserted c.args.from c.args.new.items) c.drop_lines.ensures.items
    ∙ spliced-made c.args.from c.args.count c.args.new.items c.args.self.now.lines.items
    (omega (arith, c.requires.within)) in
    record { are_lines = subst AreLines (sym made) c.requires.lines }
