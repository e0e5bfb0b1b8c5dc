use Rattle.peers.proofs.Common.{sym, ap, ◌∙◌, is_window_name}
use Rattle.peers.proofs.NameLaws.{is_window_name-chars, is_window_name-short, is_window_name-long}
use Rattle.peers.proofs.words.is_window_name.Goals as goal

pub returns-in_default : goal.returns-in_default
returns-in_default c =
    sym (is_window_name-short _ c.in_default.len_below) ∙ ap is_window_name c.as_bytes.ensures.value
    ∙ sym (is_window_name-chars c.args.word.now c.utf8.word)

pub returns-in-len2-up : goal.returns-in-len2-up
returns-in-len2-up c =
    sym (is_window_name-long _ c.in-len2-up.len_at_least) ∙ ap is_window_name c.as_bytes.ensures.value
    ∙ sym (is_window_name-chars c.args.word.now c.utf8.word)
