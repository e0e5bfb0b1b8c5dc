use Rattle.text_model.proofs.Common.{None, get_or, sym, ap, ◌∙◌, get_or_past}
use Rattle.text_model.proofs.PlaceLaws.{get-plain_marks, stands_if_some}
use Rattle.text_model.proofs.plain_store.PlainStoreTextStore.mark_place.Goals as goal

pub returns-in-Some-clause-value : goal.returns-in-Some-clause-value
returns-in-Some-clause-value c =
    c.in-Some.ensures.lookup.3.1 None
    ∙ ap (λ places. get_or places c.args.number.0 None) c.deref.ensures.value
    ∙ sym (get-plain_marks c.args.self.now.places.items c.args.number.0)

pub returns-in-Some-clause-bound : goal.returns-in-Some-clause-bound
returns-in-Some-clause-bound c =
    let found = returns-in-Some-clause-value c in
    stands_if_some c.in-Some.place.now _ (λ place is.
    c.args.self.now.plain.stand c.args.number.0 place (sym found ∙ is))

pub returns-in-None-clause-value : goal.returns-in-None-clause-value
returns-in-None-clause-value c =
    sym (get-plain_marks c.args.self.now.places.items c.args.number.0
    ∙ ap (λ places. get_or places c.args.number.0 None) (sym c.deref.ensures.value)
    ∙ get_or_past c.deref.result.now c.args.number.0 None c.in-None.ensures.lookup.3)
