use Rattle.text_cursor.proofs.Common.{refl, arith}
use Rattle.text_cursor.proofs.SideLaws.{open-stays}
use Rattle.text_cursor.proofs.sides.Side.open.Goals as goal

pub returns-clause-stays : goal.returns-clause-stays
returns-clause-stays c =
    open-stays c.args.self.now _ c.in-Some.block refl
    (let long = c.args.self.now.near.ok.0 in let none = c.if-len-gt0.false in let is = c.len.ensures in
    omega (arith, long, none, is))
    c.into_parts.ensures c.in-Some.ensures.items
