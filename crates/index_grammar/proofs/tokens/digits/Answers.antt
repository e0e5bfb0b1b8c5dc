use Rattle.index_grammar.proofs.Common.{not, ◌∙◌, is_ascii_digit}
use Rattle.index_grammar.proofs.FrontLaws.{front-some, front-none, twice}
use Rattle.index_grammar.proofs.tokens.digits.Goals as goal

pub returns-in-Some : goal.returns-in-Some
returns-in-Some c = front-some (λ b. not (is_ascii_digit b)) c.args.text.now c.find_no_digit.result c.in-Some.at
    c.find_no_digit.ensures c.in-Some.is ∙ twice is_ascii_digit c.args.text.now

pub returns-in-None : goal.returns-in-None
returns-in-None c = front-none (λ b. not (is_ascii_digit b)) c.args.text.now c.find_no_digit.result
    c.find_no_digit.ensures c.in-None.is ∙ twice is_ascii_digit c.args.text.now
