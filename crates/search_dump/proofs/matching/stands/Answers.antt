use Rattle.search_dump.proofs.Common.{part_of, ap, chars, sym, ◌∙◌, bytes_eq-Decides, shown}
use Rattle.search_dump.proofs.WindowLaws.{compared-part}
use Rattle.search_dump.proofs.matching.stands.Goals as goal

pub returns : goal.returns
returns g c = λ is.
    let view = c.args.view.now in
    sym (compared-part c.args.ignores_case (shown (part_of view)) c.args.from
    c.args.to) ∙ sym c.in_ok-found.ensures ∙ sym (ap chars c.as_str.ensures.value)
    ∙ ap chars ((bytes_eq-Decides c.as_str.result.now c.args.text.now).0 (sym c.eq.ensures ∙ is))
