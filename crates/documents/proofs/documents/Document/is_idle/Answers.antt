use Rattle.documents.proofs.Common.{◌≡◌, true, false, get_or, sym, ap, ap₂, ◌∙◌, arith, ◌||◌, ◌==◌, parts_of}
use Rattle.documents.proofs.PartsLaws.{anchors-there, sits, stand}
use Rattle.documents.proofs.ViewLaws.{end_in, flag-at, idle-is, see-ends, start_in}
use Rattle.documents.proofs.documents.Document.is_idle.Goals as goal

pub index-requires : goal.index-requires
index-requires g c =
    let seat = sits c.args.seat (stand c.self.invariant c.self.view_is) c.number-slot.ensures.value in
    omega (arith, seat.disabled, c.self.inside.disabled.ok.0)

pub returns-then-index : goal.returns-then-index
returns-then-index g c =
    let flags = c.self.inside.disabled.items in
    let slot = c.number-slot.result in
    let parts = parts_of g.S.TextStore.content c.self.inside in
    let seat = sits c.args.seat (stand c.self.invariant c.self.view_is) c.number-slot.ensures.value in
    let off : get_or flags slot false ≡ true = flag-at flags slot c.index.result.now true seat.disabled c.index.ensures
    c.if-index.true in
    sym (idle-is parts c.args.self.now c.args.seat slot (stand c.self.invariant c.self.view_is) seat
    ∙ ap (λ b. b || start_in parts slot == end_in parts slot) off)

pub start_of-requires : goal.start_of-requires
start_of-requires g c =
    anchors-there c.args.seat (stand c.self.invariant c.self.view_is) c.number-slot.ensures.value c.deref.ensures.value

pub end_of-requires : goal.end_of-requires
end_of-requires g c =
    anchors-there c.args.seat (stand c.self.invariant c.self.view_is) c.number-slot.ensures.value
    c.deref-2.ensures.value

pub returns : goal.returns
returns g c =
    let flags = c.self.inside.disabled.items in
    let slot = c.number-slot.result in
    let parts = parts_of g.S.TextStore.content c.self.inside in
    let stands = stand c.self.invariant c.self.view_is in
    let seat = sits c.args.seat stands c.number-slot.ensures.value in
    let on : get_or flags slot false ≡ false = flag-at flags slot c.index.result.now false seat.disabled c.index.ensures
    c.if-index.false in
    let seen = see-ends {place = c.args.seat} stands c.number-slot.ensures.value c.deref.ensures.value
    c.start_of.ensures c.deref-2.ensures.value c.len.ensures c.end_of.ensures in
    sym (idle-is parts c.args.self.now c.args.seat slot stands seat
    ∙ ap₂ (λ b e. b || e) on (ap₂ (λ s e. s == e) (sym seen.starts) (sym seen.ends)))
