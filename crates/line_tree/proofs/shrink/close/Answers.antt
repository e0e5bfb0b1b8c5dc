use Rattle.line_tree.proofs.Common.{◌≡◌, ◌+◌, ◌∙◌, length, refl, sym, subst, arith, IfSome, IsSome, records}
use Rattle.line_tree.proofs.ClosingLaws.{Closing, close-first, close-last, close-next, close-read}
use Rattle.line_tree.proofs.RowLaws.{none_of}
use Rattle.line_tree.proofs.shrink.close.Goals as goal

pub loop-next-init : goal.loop-next-init
loop-next-init g c = let m = records c.args.store.now in let p = c.args.node in let r = c.requires in
    let first = close-first m p c.args.slot r.row r.links r.slot r.fill in
    record {
      closing = first;
      hand = close-read m p c.args.slot r.row r.links r.slot r.fill m c.args.slot first c.kid_behind-next.result
          c.kid_behind-next.ensures;
      spares = refl;
      rooms = refl;
    }

pub kid_behind-next-requires-in-Some : goal.kid_behind-next-requires-in-Some
kid_behind-next-requires-in-Some g c = let m = records c.args.store.now in let p = c.args.node in let r = c.requires in
    let n = records c.loop-next.store in let s = c.loop-next.invariant.closing in
    let hand = sym c.in-Some.is ∙ c.loop-next.invariant.hand in
    let next = subst (λ z. Closing m z p c.args.slot (c.loop-next.at + 1)) (sym c.link.ensures.records)
    (close-next m p c.args.slot r.row r.links r.slot r.fill n c.loop-next.at s c.in-Some.child hand) in
    record {
      name = subst (λ o. IsSome o) (sym next.is) refl;
      long = subst (λ o. IfSome o (λ x. length x.children ≡ 12)) (sym next.is) next.long;
      slot = omega arith;
    }

pub loop-next-preserved : goal.loop-next-preserved
loop-next-preserved g c = let m = records c.args.store.now in let p = c.args.node in let r = c.requires in
    let n = records c.loop-next.store in let s = c.loop-next.invariant.closing in
    let hand = sym c.in-Some.is ∙ c.loop-next.invariant.hand in
    let next = subst (λ z. Closing m z p c.args.slot (c.loop-next.at + 1)) (sym c.link.ensures.records)
    (close-next m p c.args.slot r.row r.links r.slot r.fill n c.loop-next.at s c.in-Some.child hand) in
    record {
      closing = next;
      hand = close-read m p c.args.slot r.row r.links r.slot r.fill (records c.link.new.store) (c.loop-next.at + 1) next
          c.kid_behind-next-in-Some.result c.kid_behind-next-in-Some.ensures;
      spares = c.link.ensures.spares ∙ c.loop-next.invariant.spares;
      rooms = c.link.ensures.rooms ∙ c.loop-next.invariant.rooms;
    }

pub returns-clause-records : goal.returns-clause-records
returns-clause-records g c = let m = records c.args.store.now in let p = c.args.node in let r = c.requires in
    c.link-2.ensures.records
    ∙ close-last m p c.args.slot r.row r.links r.slot r.fill (records c.loop-next.store) c.loop-next.at
    c.loop-next.invariant.closing (sym (none_of c.loop-next.next c.in_default.not-Some) ∙ c.loop-next.invariant.hand)
