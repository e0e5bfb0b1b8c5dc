use Rattle.peers.proofs.Common.{ap, sym, ◌∙◌, arith, Ok, chars, Text, widget_at, chars-nil}
use Rattle.peers.proofs.GotLaws.{got-empty}
use Rattle.peers.proofs.texts.got.Goals as goal

pub returns : goal.returns
returns g c = λ _.
    let document = c.args.document.now in
    ap (λ t. Ok (Text t)) (c.new-2.ensures ∙ ap chars c.new.ensures.bytes ∙ chars-nil)
    ∙ ap Ok (sym (got-empty document (widget_at document c.args.seat) c.args.places.now
    (omega (arith, c.if-places-gt2.false, c.if-places-eq2.false, c.if-places-eq1.false))))
