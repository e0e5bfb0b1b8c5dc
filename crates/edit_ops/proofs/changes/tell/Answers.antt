use Rattle.edit_ops.proofs.Common.{ap, arith, nil_from_length, SpotWalk}
use Rattle.edit_ops.proofs.SpotLaws.{room-at}
use Rattle.edit_ops.proofs.TellLaws.{next-told, more-told, all-changes, all-told}
use Rattle.edit_ops.proofs.changes.tell.Goals as goal

pub to-requires-clause-stands : goal.to-requires-clause-stands
to-requires-clause-stands g c = c.loop-hunk.invariant.stands

pub to-requires-clause-ordered : goal.to-requires-clause-ordered
to-requires-clause-ordered g c = (next-told c.loop-hunk.invariant c.in-Some.ensures.steps.0).before

pub to-requires-clause-within : goal.to-requires-clause-within
to-requires-clause-within g c = (next-told c.loop-hunk.invariant c.in-Some.ensures.steps.0).from

pub to-requires-in-loop-hunk-clause-ordered : goal.to-requires-in-loop-hunk-clause-ordered
to-requires-in-loop-hunk-clause-ordered g c =
    let next = next-told c.loop-hunk.invariant c.in-Some.ensures.steps.0 in
    let here = ap (λ (walk : SpotWalk). walk.offset) c.in_ok-start.ensures in
    omega (arith, here, next.is.ordered)

pub to-requires-in-loop-hunk-clause-within : goal.to-requires-in-loop-hunk-clause-within
to-requires-in-loop-hunk-clause-within g c = (next-told c.loop-hunk.invariant c.in-Some.ensures.steps.0).to

pub change_of-requires-clause-ordered : goal.change_of-requires-clause-ordered
change_of-requires-clause-ordered g c = (next-told c.loop-hunk.invariant c.in-Some.ensures.steps.0).is.ordered

pub change_of-requires-clause-room : goal.change_of-requires-clause-room
change_of-requires-clause-room g c =
    room-at (g.S.TextStore.content c.args.store.now).cells c.in-Some.hunk.from _ c.in_ok-start.start.spot
    c.requires.short (ap (λ (walk : SpotWalk). walk.spot) c.in_ok-start.ensures) (omega arith)

pub loop-hunk-preserved : goal.loop-hunk-preserved
loop-hunk-preserved g c =
    more-told c.loop-hunk.invariant c.in-Some.ensures.steps.0 c.in_ok-start.ensures c.in_ok-walk.ensures
    c.change_of.ensures c.in_ok-push.ensures.items

pub returns-clause-changes : goal.returns-clause-changes
returns-clause-changes g c =
    let rest = c.loop-hunk.hunk-iterator.rest in
    all-changes c.loop-hunk.invariant
    (nil_from_length rest.items (omega (arith, c.in-None.ensures.steps.0, rest.ok.0))) c.reverse.ensures.items

pub returns-clause-tells : goal.returns-clause-tells
returns-clause-tells g c =
    all-told (g.S.TextStore.content c.args.store.now).cells c.args.hunks.items c.reverse.new.self.items
    c.requires.stand (returns-clause-changes g c)
