use Rattle.handles.proofs.Common.{◌++◌, ◌∙◌, ap, arith}
use Rattle.handles.proofs.WordLaws.{written-over}
use Rattle.handles.proofs.words.write_word.Goals as goal

pub returns-in_ok-push_str-clause-words : goal.returns-in_ok-push_str-clause-words
returns-in_ok-push_str-clause-words c =
    written-over c.args.words.now.items c.args.index c.push_str.new.self c.args.text.now
    (omega (arith, c.if-index-len.true, c.len.ensures, c.args.words.now.ok.0))
    (c.in_ok-push_str.ensures.bytes ∙ ap (λ b. b ++ c.args.text.now) c.clear.ensures.bytes)
