use Rattle.command_effects.proofs.Common.{sym, ap, ◌∙◌, Err, chars, ok_or, encodes-chars, BadInteger}
use Rattle.command_effects.proofs.Common.{err_from_is_err_and}
use Rattle.tcl_words.proofs.ListForms.{some_chars}
use Rattle.tcl_words.proofs.Plain.{none_left}
use Rattle.command_effects.proofs.SettingLaws.{line_of_word-none, line_of_word-fault}
use Rattle.command_effects.proofs.settings.line_at.Goals as goal

pub returns-then-is_empty : goal.returns-then-is_empty
returns-then-is_empty c =
    sym (ap (λ line. ok_or line (BadInteger c.args.position))
    (line_of_word-none c.args.word.now (none_left c.args.word.now c.is_empty.result c.is_empty.ensures
    c.if-is_empty.true)))

pub returns-in_err-integer_at : goal.returns-in_err-integer_at
returns-in_err-integer_at c =
    let fault = err_from_is_err_and c.from_residual.result c.from_residual.ensures.1 in
    fault.1 ∙ ap Err fault.2
    ∙ line_of_word-fault c.args.position (chars c.args.word.now) c.integer_at.result _
    (some_chars (chars c.args.word.now) c.args.word.now (encodes-chars c.args.word.now c.utf8.word)
    (sym c.is_empty.ensures ∙ c.if-is_empty.false))
    c.integer_at.ensures (c.in_err-integer_at.was {u = tt})
