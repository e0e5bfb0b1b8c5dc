use Rattle.index_grammar.proofs.Common.{is_break}
use Rattle.index_grammar.proofs.FrontLaws.{front-some, front-none}
use Rattle.index_grammar.proofs.tokens.unbroken.Goals as goal

pub returns-in-Some : goal.returns-in-Some
returns-in-Some c =
    front-some is_break c.args.text.now c.find_break.result c.in-Some.at c.find_break.ensures c.in-Some.is

pub returns-in-None : goal.returns-in-None
returns-in-None c = front-none is_break c.args.text.now c.find_break.result c.find_break.ensures c.in-None.is
