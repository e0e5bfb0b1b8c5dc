use Rattle.segments.proofs.Common.{◌<◌, length, ap, sym, ◌∙◌, arith, LieIn, LineContent, reset, subst, columns_from}
use Rattle.segments.proofs.Common.{toggled_if}
use Rattle.segments.proofs.ChangeLaws.{columns_cleared, columns_flipped_if}
use Rattle.segments.proofs.RichLaws.{as_long}
use Rattle.segments.proofs.rich.RichLine.reset_toggles.Goals as goal

pub invariant_of-self-2 : goal.invariant_of-self-2
invariant_of-self-2 c =
    let end = length c.self.inside.text in
    let within : c.args.to < end = omega (arith, c.requires.within, as_long c.self.inside c.self.view_is) in
    let bare = c.clear.ensures.lie 0 end (subst (LieIn 0 end) (sym c.in_ok-reserve_ends.ensures.same) c.self.invariant.0)
    in
    let one = c.flip_if.ensures.lie 0 end bare (omega arith) (omega (arith, within, c.requires.ordered)) in
    (c.flip_if-2.ensures.lie 0 end one (omega arith) within, c.self.invariant.1)

pub returns-clause-columns : goal.returns-clause-columns
returns-clause-columns c =
    let text = c.self.inside.text in
    let slot = c.args.slot.0 in
    let from = c.args.from in
    let to = c.args.to in
    let within : to < length text = omega (arith, c.requires.within, as_long c.self.inside c.self.view_is) in
    let same = c.in_ok-reserve_ends.ensures.same in
    let kept = subst (LieIn 0 (length text)) (sym same) c.self.invariant.0 in
    columns_flipped_if c.args.last to slot text c.flip_if-2.new.toggles.items c.flip_if.new.toggles.items within
    c.flip_if-2.ensures.slots
    ∙ ap (toggled_if c.args.last slot to)
    (columns_flipped_if c.args.first from slot text c.flip_if.new.toggles.items c.clear.new.toggles.items
    (omega (arith, within, c.requires.ordered)) c.flip_if.ensures.slots
    ∙ ap (toggled_if c.args.first slot from)
    (columns_cleared slot from to text c.clear.new.toggles.items c.reserve_ends.new.toggles.items c.requires.ordered
    (omega (arith, within)) (λ at. c.clear.ensures.slots 0 (length text) at kept)))
    ∙ ap (reset slot from to c.args.first c.args.last)
    (ap (columns_from 0 text) same ∙ ap (λ (line : LineContent). line.columns) c.self.view_is)
