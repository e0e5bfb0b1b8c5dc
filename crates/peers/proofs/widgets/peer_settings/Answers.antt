use Rattle.peers.proofs.Common.{false, ap₂, ◌∙◌, texts_of, with_value, settings_checked, settings_read, Settings}
use Rattle.peers.proofs.widgets.peer_settings.Goals as goal

pub returns-clause-value : goal.returns-clause-value
returns-clause-value g c =
    let words = texts_of c.args.words.now in
    c.settings_given.ensures.value
    ∙ ap₂ (λ lines (settings : Settings).
    with_value (settings_read lines c.args.position words (record settings { disabled = false })) settings_checked)
    c.lines.ensures c.settings-settings.ensures.value
