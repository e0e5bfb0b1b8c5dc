use Rattle.peers.proofs.Common.{◌≡◌, sym, ap₂, ◌∙◌, with_value, settings_checked, settings_read, Empty, settings_of}
use Rattle.peers.proofs.Common.{with_settings, answered, settings_given, subst, Change, Does, Settings, change_with}
use Rattle.peers.proofs.Common.{widget_of, words_of}
use Rattle.peers.proofs.PromiseLaws.{does-found, does-refused, faulted}
use Rattle.peers.proofs.options.configure.Goals as goal

pub returns-in_err-settings : goal.returns-in_err-settings
returns-in_err-settings g c = λ limits.
    let document = c.args.document.now in let request = c.args.request.now in let widget = widget_of document request in
    let defined = settings_given document request.position (words_of request) (settings_of document widget) in
    let same : c.settings_given.result ≡ defined =
    c.settings_given.ensures.value ∙ ap₂ (λ lines settings.
    with_value (settings_read lines request.position (words_of request) settings) settings_checked)
    c.lines-lines.ensures c.settings.ensures.value in
    let fault = c.in_err-settings.field-0.0 in
    let next : Settings → Change = λ settings. answered (with_settings widget settings document) Empty in
    subst (λ result. Does limits document document result (change_with document defined next))
    (sym (faulted c.from_residual.result fault c.from_residual.ensures))
    (does-refused limits document defined fault next (λ _. sym same ∙ c.in_err-settings.was))

pub returns : goal.returns
returns g c = λ limits.
    let document = c.args.document.now in let request = c.args.request.now in let widget = widget_of document request in
    let defined = settings_given document request.position (words_of request) (settings_of document widget) in
    let same : c.settings_given.result ≡ defined =
    c.settings_given.ensures.value ∙ ap₂ (λ lines settings.
    with_value (settings_read lines request.position (words_of request) settings) settings_checked)
    c.lines-lines.ensures c.settings.ensures.value in
    does-found defined c.in_ok-settings.settings (λ settings.
    answered (with_settings widget settings document) Empty) (sym same ∙ c.in_ok-settings.was) (c.put_settings.ensures limits)
