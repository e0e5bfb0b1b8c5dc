use Rattle.text_cursor.proofs.Common.{refl, arith, Side}
use Rattle.text_cursor.proofs.SideLaws.{popped-block}
use Rattle.text_cursor.proofs.sides.Side.pop_block.Goals as goal

pub returns-clause-items : goal.returns-clause-items
returns-clause-items c =
    let own = c.args.self.now in
    let now : Side = record { turned = own.turned; least = own.least; far = c.pop.new.self; near = own.near } in
    popped-block own now c.pop.result refl
    (let long = own.near.ok.0 in let none = c.if-len-gt0.false in let is = c.len.ensures in
    omega (arith, long, none, is)) refl c.pop.ensures.items
