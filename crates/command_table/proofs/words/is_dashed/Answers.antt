use Rattle.command_table.proofs.Common.{sym, ap, ◌∙◌, is_dashed}
use Rattle.command_table.proofs.WordLaws.{is_dashed-chars, is_dashed-none, is_dashed-some}
use Rattle.command_table.proofs.words.is_dashed.Goals as goal

pub returns-in_default : goal.returns-in_default
returns-in_default c =
    sym (is_dashed-none _ c.in_default.len_below) ∙ ap is_dashed c.as_bytes.ensures.value
    ∙ sym (is_dashed-chars c.args.word.now c.utf8.word)

pub returns-in-len1-up : goal.returns-in-len1-up
returns-in-len1-up c =
    sym (is_dashed-some _ c.in-len1-up.len_at_least) ∙ ap is_dashed c.as_bytes.ensures.value
    ∙ sym (is_dashed-chars c.args.word.now c.utf8.word)
