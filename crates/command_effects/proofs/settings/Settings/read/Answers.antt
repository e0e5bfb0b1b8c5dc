use Rattle.command_effects.proofs.Common.{◌+◌, sym, ap, ap₂, ◌∙◌, arith, Err, length-drop, take_rest, setting_read}
use Rattle.command_effects.proofs.Common.{err_from_is_err_and}
use Rattle.command_effects.proofs.PairLaws.{word_read}
use Rattle.command_effects.proofs.SettingLaws.{settings_read-next}
use Rattle.command_effects.proofs.settings.Settings.read.Goals as goal

pub loop-rest-preserved : goal.loop-rest-preserved
loop-rest-preserved c =
    let rest = c.loop-rest.rest.now in
    let first = word_read rest 0 c.index-rest-0.result c.as_str.result.now (omega (arith, c.loop-rest-test.true))
    c.index-rest-0.is c.as_str.ensures.value in
    let second = word_read rest 1 c.index-rest-1.result c.as_str-in-loop-rest.result.now
    (omega (arith, c.loop-rest-test.true)) c.index-rest-1.is c.as_str-in-loop-rest.ensures.value in
    record {
      value = settings_read-next c.args.lines _ c.loop-rest.here rest c.loop-rest.settings c.read_one.result _
          (omega (arith, c.loop-rest-test.true)) c.loop-rest.invariant.value
          (c.read_one.ensures
          ∙ ap₂ (λ o v. setting_read c.args.lines (c.loop-rest.here + 1) o v c.loop-rest.settings) first second)
          (c.in_ok-settings.was {u = tt});
      room =
          rw (take_rest rest 2) (omega (arith, length-drop 2 rest, c.loop-rest.invariant.room, c.loop-rest-test.true));
    }

pub returns-in_err-settings : goal.returns-in_err-settings
returns-in_err-settings c =
    let fault = err_from_is_err_and c.from_residual.result c.from_residual.ensures.1 in
    let rest = c.loop-rest.rest.now in
    let first = word_read rest 0 c.index-rest-0.result c.as_str.result.now (omega (arith, c.loop-rest-test.true))
    c.index-rest-0.is c.as_str.ensures.value in
    let second = word_read rest 1 c.index-rest-1.result c.as_str-in-loop-rest.result.now
    (omega (arith, c.loop-rest-test.true)) c.index-rest-1.is c.as_str-in-loop-rest.ensures.value in
    fault.1 ∙ ap Err fault.2 ∙ sym (settings_read-next c.args.lines _ c.loop-rest.here rest c.loop-rest.settings c.read_one.result _
    (omega (arith, c.loop-rest-test.true)) c.loop-rest.invariant.value
    (c.read_one.ensures ∙ ap₂ (λ o v. setting_read c.args.lines (c.loop-rest.here + 1) o v c.loop-rest.settings)
    first second) (c.in_err-settings.was {u = tt}))
