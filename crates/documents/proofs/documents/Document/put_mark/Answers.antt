use Rattle.documents.proofs.Common.{◌∙◌, Empty, LimitTable, Mark, MarkNo, Ok, answered, ap, arith, chars, option_map}
use Rattle.documents.proofs.Common.{parts_of, sym, widget_at, with_mark}
use Rattle.documents.proofs.ChangeLaws.{Leaves, some_limits}
use Rattle.documents.proofs.PartsLaws.{cells-kept, sits, stand}
use Rattle.documents.proofs.SetMarkLaws.{does-unknown, leaves-put, table-set, untouched}
use Rattle.documents.proofs.documents.Document.put_mark.Given.{Over}
use Rattle.documents.proofs.documents.Document.put_mark.Goals.{After-set_gravity}
use Rattle.documents.proofs.documents.Document.put_mark.Goals as goal

pub returns-in_default : goal.returns-in_default
returns-in_default g c = λ limits.
    let stands = stand c.self.invariant c.self.view_is in
    does-unknown stands (sits c.args.seat stands c.number.ensures.value) limits (chars c.args.name.now) c.args.place
    (sym c.mark.ensures ∙ ap (option_map (λ (n : MarkNo). n.0)) c.in_default.is)

-- what is left where the mark was put
left : (g : Over) (c : After-set_gravity g) (limits : LimitTable)
    → Leaves limits (record (parts_of g.S.TextStore.content c.self.inside) {
      marks = c.set_gravity.new.self;
      content = g.S.TextStore.content c.put_mark.new.store;
    }) c.args.self.now (Ok Empty) (answered (with_mark c.args.self.now (widget_at c.args.self.now c.args.seat)
    (chars c.args.name.now) c.args.place) Empty)
left g c limits =
    let stands = stand c.self.invariant c.self.view_is in
    let word = chars c.args.name.now in
    let did = c.set_gravity.ensures in
    let set = table-set stands c.set_gravity.result word c.args.place did.known did.ok did.sound did.err in
    leaves-put stands (sits c.args.seat stands c.number.ensures.value) limits word c.in-Some.number.0 c.args.place
    (sym c.mark.ensures ∙ ap (option_map (λ (n : MarkNo). n.0)) c.in-Some.is)
    (omega (arith, c.requires.stands, cells-kept (parts_of g.S.TextStore.content c.self.inside) c.args.self.now stands.is))
    (λ none. set.1 ∙ untouched stands word c.args.place (λ (mark : Mark). mark.number) none) (λ _. set)
    c.in_ok-put_mark.ensures.ok

pub invariant_of-self-2 : goal.invariant_of-self-2
invariant_of-self-2 g c = (left g c some_limits).sound

pub returns : goal.returns
returns g c = λ limits. (left g c limits).does
