use Rattle.documents.proofs.Common.{◌+◌, ◌++◌, ◌∷◌, [], length, ap, ◌∙◌, arith, replicate, length-append}
use Rattle.documents.proofs.Common.{replicate_more, append_assoc}
use Rattle.documents.proofs.seats.make_room.Goals as goal

pub loop-preserved : goal.loop-preserved
loop-preserved g c =
    let before = c.loop.invariant.0 in
    let value = c.args.value in (
      (
        before.0 + 1,
        c.in_ok-push.ensures.items ∙ ap (λ xs. xs ++ value ∷ []) before.1
            ∙ append_assoc c.args.list.now.items (replicate before.0 value) (value ∷ [])
            ∙ ap (λ xs. c.args.list.now.items ++ xs) (replicate_more before.0 value),
      ),
      (let h = c.loop.invariant.1 in let l = ap length c.in_ok-push.ensures.items in
          let m = length-append c.loop.list.items (value ∷ []) in omega (arith, h, l, m)),
    )

pub returns-clause-long : goal.returns-clause-long
returns-clause-long g c = (let h = c.loop.invariant.1 in let t = c.loop-test.false in omega (arith, h, t))
