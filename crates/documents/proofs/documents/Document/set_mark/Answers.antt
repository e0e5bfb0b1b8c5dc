use Rattle.documents.proofs.Common.{sym, ap, subst, arith, ◌∙◌, chars, LimitTable, MarkNo, option_map, widget_at}
use Rattle.documents.proofs.Common.{parts_of, place_named, set_found, Does, Ok, Empty, none-some}
use Rattle.documents.proofs.ChangeLaws.{Leaves, some_limits}
use Rattle.documents.proofs.PartsLaws.{cells-kept, sits, stand}
use Rattle.documents.proofs.SetMarkLaws.{leaves-set, named-known, named-none}
use Rattle.documents.proofs.documents.Document.set_mark.Given.{Over}
use Rattle.documents.proofs.documents.Document.set_mark.Goals.{In_ok-put_mark}
use Rattle.documents.proofs.documents.Document.set_mark.Goals as goal

pub make_mark-requires-clause-new : goal.make_mark-requires-clause-new
make_mark-requires-clause-new g c =
    let stands = stand c.self.invariant c.self.view_is in
    named-none stands (sits c.args.seat stands c.number.ensures.value) (chars c.args.name.now)
    (sym c.mark.ensures ∙ ap (option_map (λ (n : MarkNo). n.0)) c.in_default.is)

pub returns-in_default : goal.returns-in_default
returns-in_default g c =
    let document = c.args.self.now in
    let stands = stand c.self.invariant c.self.view_is in
    let word = chars c.args.name.now in
    subst (λ found. Does c.args.limits.now document c.make_mark.new.self c.make_mark.result
    (set_found c.args.limits.now document (widget_at document c.args.seat) word c.args.offset found))
    (sym (named-none stands (sits c.args.seat stands c.number.ensures.value) word
    (sym c.mark.ensures ∙ ap (option_map (λ (n : MarkNo). n.0)) c.in_default.is))) c.make_mark.ensures

pub unreachable-requires : goal.unreachable-requires
unreachable-requires g c =
    let stands = stand c.self.invariant c.self.view_is in
    let there = named-known stands (sits c.args.seat stands c.number.ensures.value) (chars c.args.name.now)
    c.in-Some.number.0 (sym c.mark.ensures ∙ ap (option_map (λ (n : MarkNo). n.0)) c.in-Some.is) in
    none-some there.0 (sym c.in_default-mark_place.is ∙ c.mark_place.ensures.value ∙ there.1)

-- what is left where the mark was put
left : (g : Over) (c : In_ok-put_mark g) (limits : LimitTable)
    → Leaves limits (record (parts_of g.S.TextStore.content c.self.inside) {
      content = g.S.TextStore.content c.put_mark.new.store;
    }) c.args.self.now (Ok Empty) (set_found limits c.args.self.now (widget_at c.args.self.now c.args.seat)
    (chars c.args.name.now) c.args.offset
    (place_named c.args.self.now (widget_at c.args.self.now c.args.seat) (chars c.args.name.now)))
left g c limits =
    let stands = stand c.self.invariant c.self.view_is in
    leaves-set stands (sits c.args.seat stands c.number.ensures.value) limits (chars c.args.name.now)
    c.in-Some.number.0 c.args.offset c.in-Some-mark_place.old
    (sym c.mark.ensures ∙ ap (option_map (λ (n : MarkNo). n.0)) c.in-Some.is)
    (sym c.mark_place.ensures.value ∙ c.in-Some-mark_place.is)
    (omega (arith, c.requires.within, cells-kept (parts_of g.S.TextStore.content c.self.inside) c.args.self.now stands.is))
    c.in_ok-put_mark.ensures.ok

pub invariant_of-self-2 : goal.invariant_of-self-2
invariant_of-self-2 g c = (left g c some_limits).sound

pub returns : goal.returns
returns g c = (left g c c.args.limits.now).does
