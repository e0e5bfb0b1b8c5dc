use Rattle.index_grammar.proofs.Common.{not, ◌∙◌, is_blank}
use Rattle.index_grammar.proofs.FrontLaws.{front-some, front-none, twice}
use Rattle.index_grammar.proofs.tokens.blanks.Goals as goal

pub returns-in-Some : goal.returns-in-Some
returns-in-Some c = front-some (λ b. not (is_blank b)) c.args.text.now c.find_other.result c.in-Some.at
    c.find_other.ensures c.in-Some.is ∙ twice is_blank c.args.text.now

pub returns-in-None : goal.returns-in-None
returns-in-None c = front-none (λ b. not (is_blank b)) c.args.text.now c.find_other.result c.find_other.ensures
    c.in-None.is ∙ twice is_blank c.args.text.now
