use Rattle.tcl_words.proofs.Common.{◌++◌, ◌∙◌, ap, arith, spelled_by}
use Rattle.tcl_words.proofs.WordWriting.{written_over}
use Rattle.tcl_words.proofs.plain_words.write_word.Goals as goal

pub returns-in_ok-add_to-clause-words : goal.returns-in_ok-add_to-clause-words
returns-in_ok-add_to-clause-words c =
    written_over c.args.words.now.items c.args.place c.add_to.new.word _
    (omega (arith, c.if-place-len.true, c.len.ensures, c.args.words.now.ok.0))
    (c.in_ok-add_to.ensures
    ∙ ap (λ b. b ++ spelled_by c.args.text.now.has_escapes c.args.text.now.text.now) c.clear.ensures.bytes)
