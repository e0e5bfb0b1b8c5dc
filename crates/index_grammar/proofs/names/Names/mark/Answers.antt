use Rattle.index_grammar.proofs.Common.{◌∙◌}
use Rattle.index_grammar.proofs.NameLaws.{known-insert, known-current, known-shared}
use Rattle.index_grammar.proofs.names.Names.mark.Goals as goal

pub returns-then-eq : goal.returns-then-eq
returns-then-eq c =
    known-insert c.args.self.now.marks.now.marks c.args.self.now.widget.0 c.args.name.now c.utf8.name (cc)

pub returns-then-eq-2 : goal.returns-then-eq-2
returns-then-eq-2 c =
    known-current c.args.self.now.marks.now.marks c.args.self.now.widget.0 c.args.name.now c.utf8.name (cc) (cc)

pub returns : goal.returns
returns c = c.find.ensures ∙ known-shared c.args.self.now.marks.now.marks c.args.self.now.widget.0 c.args.name.now
    c.utf8.name (cc) (cc)
