use Rattle.script_cli.proofs.Common.{refl, false≢true}
use Rattle.script_cli.proofs.LineLaws.{front-some, front-none}
use Rattle.script_cli.proofs.lines.front_of.Goals as goal

pub returns-in-Some : goal.returns-in-Some
returns-in-Some c = front-some c.args.word.now c.in-Some.front.now c.args.len c.utf8.word
    (c.in-Some.ensures.variant.0 refl) c.in-Some.ensures.front

pub returns-in-None : goal.returns-in-None
returns-in-None c =
    front-none c.args.word.now c.args.len c.utf8.word (λ whole. absurd (false≢true (c.in-None.ensures.variant.1 whole)))
