use Rattle.tcl_words.proofs.Common.{take_rest, BeforeWord, IsPlainWord, IsClosed}
use Rattle.tcl_words.proofs.PlainWords.{braced_is, some_left, if_word}
use Rattle.tcl_words.proofs.plain_words.braced_word.Goals as goal

pub returns : goal.returns
returns c =
    let bytes = c.args.bytes.now in
    let run = c.braced_run.result in
    if_word c.closed_word.result (IsClosed bytes run 125) (IsPlainWord BeforeWord bytes)
    (λ word closed. braced_is bytes _ run word c.requires.brace (take_rest bytes 1)
    (some_left _ c.is_empty.result c.is_empty.ensures c.if-is_empty.false)
    c.if-rest-eq42.false c.braced_run.ensures.plain closed)
    c.closed_word.ensures
