use Rattle.documents.proofs.Common.{arith, Anchors, parts_of}
use Rattle.documents.proofs.ChangeLaws.{some_limits}
use Rattle.documents.proofs.PartsLaws.{sits, stand}
use Rattle.documents.proofs.WidgetLaws.{leaves-settings}
use Rattle.documents.proofs.documents.Document.put_settings.Goals as goal

pub index_mut-requires : goal.index_mut-requires
index_mut-requires g c =
    let seat = sits c.args.seat (stand c.self.invariant c.self.view_is) c.number-slot.ensures.value in
    omega (arith, seat.anchors, c.self.inside.text.anchors.ok.0)

pub index_mut-requires-2 : goal.index_mut-requires-2
index_mut-requires-2 g c =
    let seat = sits c.args.seat (stand c.self.invariant c.self.view_is) c.number-slot.ensures.value in
    omega (arith, seat.disabled, c.self.inside.disabled.ok.0)

pub invariant_of-self : goal.invariant_of-self
invariant_of-self g c =
    let old = c.self.inside in
    let stands = stand c.self.invariant c.self.view_is in
    let anchors : Anchors = record { start = c.anchor_at-start.result; end = c.anchor_at-end.result } in
    (leaves-settings {anchors = anchors} some_limits (parts_of g.S.TextStore.content old) old.text.history
    c.bound.new.history stands (sits c.args.seat stands c.number-slot.ensures.value) c.requires.lines c.requires.ordered
    (λ i. record { start = c.anchor_at-start.ensures i; end = c.anchor_at-end.ensures i }) c.bound.ensures.history
    c.bound.ensures.modified c.bound.ensures.most).sound

pub returns : goal.returns
returns g c = λ limits.
    let old = c.self.inside in
    let stands = stand c.self.invariant c.self.view_is in
    let anchors : Anchors = record { start = c.anchor_at-start.result; end = c.anchor_at-end.result } in
    (leaves-settings {anchors = anchors} limits (parts_of g.S.TextStore.content old) old.text.history
    c.bound.new.history stands (sits c.args.seat stands c.number-slot.ensures.value) c.requires.lines c.requires.ordered
    (λ i. record { start = c.anchor_at-start.ensures i; end = c.anchor_at-end.ensures i }) c.bound.ensures.history
    c.bound.ensures.modified c.bound.ensures.most).does
