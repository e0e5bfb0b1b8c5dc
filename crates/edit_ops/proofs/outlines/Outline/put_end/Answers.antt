use Rattle.edit_ops.proofs.Common.{sym, ap, ◌∙◌, option_and_then, option_map, Place, with_mark, drawn_up}
use Rattle.edit_ops.proofs.ReplaceLaws.{mark-fits}
use Rattle.edit_ops.proofs.ReplayLaws.{mark-stood, stood-within}
use Rattle.edit_ops.proofs.outlines.Outline.put_end.Goals as goal

pub returns-in_ok-put_mark-in-Some-clause-fits : goal.returns-in_ok-put_mark-in-Some-clause-fits
returns-in_ok-put_mark-in-Some-clause-fits g c =
    mark-fits c.args.self.now c.put_mark.new.self (g.S.TextStore.content c.args.store.now) c.args.mark c.in-Some.place
    c.requires.fits
    (stood-within c.mark_place.result c.args.end _ c.in-Some.place c.requires.bound (sym c.stood.ensures
    ∙ c.in-Some.is)) c.in_ok-put_mark-in-Some.ensures

pub returns-in_ok-put_mark-in-Some-clause-makes : goal.returns-in_ok-put_mark-in-Some-clause-makes
returns-in_ok-put_mark-in-Some-clause-makes g c = λ log.
    let place = c.stood.ensures ∙ ap (option_and_then (λ (place : Place).
    option_map (λ at. record place { offset = at }) c.args.end)) c.mark_place.ensures.value in
    mark-stood c.args.self.now c.put_mark.new.self (g.S.TextStore.content c.args.store.now) c.args.mark _
    c.in-Some.place log (sym place ∙ c.in-Some.is) c.in_ok-put_mark-in-Some.ensures

pub returns-in-None-clause-makes : goal.returns-in-None-clause-makes
returns-in-None-clause-makes g c = λ log.
    let made = drawn_up c.args.self.now (g.S.TextStore.content c.args.store.now) log in
    let place = c.stood.ensures ∙ ap (option_and_then (λ (place : Place).
    option_map (λ at. record place { offset = at }) c.args.end)) c.mark_place.ensures.value in
    ap (λ o. record made { content = with_mark c.args.mark.0 o made.content }) (sym c.in-None.is ∙ place)
