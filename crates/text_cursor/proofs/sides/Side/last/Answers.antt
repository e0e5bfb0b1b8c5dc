use Rattle.text_cursor.proofs.Common.{arith, block_parts}
use Rattle.text_cursor.proofs.SideLaws.{ends-behind, ends-read, last-block}
use Rattle.text_cursor.proofs.sides.Side.last.Goals as goal

pub returns-then-near-gt0 : goal.returns-then-near-gt0
returns-then-near-gt0 c =
    let own = c.args.self.now in
    let long = own.near.ok.0 in let is = c.len-near.ensures in
    ends-behind (block_parts own.turned own.far.items) own.near.items c.index.result.now
    (ends-read own.near.items c.index.result.now c.len-near.result (omega (arith, long, is)) c.if-near-gt0.true
    c.index.ensures)

pub returns : goal.returns
returns c =
    let own = c.args.self.now in
    let long = own.near.ok.0 in let is = c.len-near.ensures in let none = c.if-near-gt0.false in
    last-block own c.index-2.result.now c.last.result.now c.len.result (omega (arith, long, is, none)) c.requires
    (let h = own.far.ok.0 in let k = c.len.ensures in omega (arith, h, k)) c.index-2.ensures c.last.ensures
