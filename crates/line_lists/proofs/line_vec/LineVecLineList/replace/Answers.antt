use Rattle.line_lists.proofs.Common.{subst, sym, AreLines}
use Rattle.line_lists.proofs.LineChangeLaws.{replaced-made}
use Rattle.line_lists.proofs.line_vec.LineVecLineList.replace.Goals as goal

pub returns-clause-lines : goal.returns-clause-lines
returns-clause-lines c = replaced-made c.args.index c.args.line c.args.self.now.lines.items c.requires.within

pub invariant_of-self : goal.invariant_of-self
invariant_of-self c =
    let made = replaced-made c.args.index c.args.line c.args.self.now.lines.items c.requires.within in
    record { are_lines = subst AreLines (sym made) c.requires.lines }
