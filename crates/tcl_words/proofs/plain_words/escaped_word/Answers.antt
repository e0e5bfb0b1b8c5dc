use Rattle.tcl_words.proofs.Common.{refl, take_rest}
use Rattle.tcl_words.proofs.PlainWords.{escaped_is}
use Rattle.tcl_words.proofs.plain_words.escaped_word.Goals as goal

pub returns : goal.returns
returns c =
    escaped_is c.args.bytes.now _ _ c.quoted_run-run.result c.quoted_front-more.result c.in_ok-word.word _ refl
    c.requires.quote (take_rest c.args.bytes.now 1) (take_rest _ c.quoted_run-run.result) c.quoted_run-run.ensures.plain
    c.quoted_front-more.ensures.scans c.quoted_front-more.ensures.front c.in_ok-word.ensures
