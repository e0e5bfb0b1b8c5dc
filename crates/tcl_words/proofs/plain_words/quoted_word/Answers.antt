use Rattle.tcl_words.proofs.Common.{take_rest, BeforeWord, IsPlainWord, IsClosed}
use Rattle.tcl_words.proofs.PlainWords.{quoted_is, if_word}
use Rattle.tcl_words.proofs.plain_words.quoted_word.Goals as goal

pub returns : goal.returns
returns c =
    let bytes = c.args.bytes.now in
    let run = c.quoted_run.result in
    if_word c.closed_word.result (IsClosed bytes run 34) (IsPlainWord BeforeWord bytes)
    (λ word closed. quoted_is bytes _ run word c.requires.quote (take_rest bytes 1) c.quoted_run.ensures.plain closed)
    c.closed_word.ensures
