use Rattle.documents.proofs.Common.{sym, ap, ◌∙◌, chars, option_map, MarkNo}
use Rattle.documents.proofs.PartsLaws.{sits, stand}
use Rattle.documents.proofs.SetMarkLaws.{named-known, named-none}
use Rattle.documents.proofs.documents.Document.place_named.Goals as goal

pub returns-in_err-mark-clause-value : goal.returns-in_err-mark-clause-value
returns-in_err-mark-clause-value g c =
    let stands = stand c.self.invariant c.self.view_is in
    c.from_residual.ensures
    ∙ sym (named-none stands (sits c.args.seat stands c.number.ensures.value) (chars c.args.name.now)
    (sym c.mark.ensures ∙ ap (option_map (λ (n : MarkNo). n.0)) c.in_err-mark.was))

pub returns-clause-value : goal.returns-clause-value
returns-clause-value g c =
    let stands = stand c.self.invariant c.self.view_is in
    let named = named-known stands (sits c.args.seat stands c.number.ensures.value) (chars c.args.name.now)
    c.in_ok-mark.field-0.0 (sym c.mark.ensures ∙ ap (option_map (λ (n : MarkNo). n.0)) c.in_ok-mark.was) in
    c.mark_place.ensures.value ∙ named.1 ∙ sym named.2
