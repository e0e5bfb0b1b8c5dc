use Rattle.line_tree.proofs.Common.{◌≡◌, length, subst, vec_len, arith, NumbersBelow}
use Rattle.line_tree.proofs.WalkLaws.{Passes, all-forgotten, forgets, forgets-within}
use Rattle.line_tree.proofs.mark_names.forget.Goals as goal

pub write-requires : goal.write-requires
write-requires c = let ls = c.args.tree.now.lines in let l = c.loop-index in
    let passes : Passes ls l.at c.args.to c.in-Some.index c.in-Some.name c.line.result.now
    = record {
      are = c.requires.lines;
      marked = c.in-Some.ensures;
      is = c.line.ensures c.in-Some.index c.in-Some.ensures.named;
    } in
    let same : length l.names.items ≡ vec_len l.names = let ok = l.names.ok.0 in omega (arith, ok) in
    subst (λ n. NumbersBelow n c.line.result.now.marks) same
    (forgets-within l.names.items ls c.args.from l.at c.args.to c.in-Some.index c.in-Some.name c.line.result.now
    passes l.invariant.above l.invariant.table)

pub loop-index-preserved : goal.loop-index-preserved
loop-index-preserved c = let ls = c.args.tree.now.lines in let l = c.loop-index in
    let passes : Passes ls l.at c.args.to c.in-Some.index c.in-Some.name c.line.result.now
    = record {
      are = c.requires.lines;
      marked = c.in-Some.ensures;
      is = c.line.ensures c.in-Some.index c.in-Some.ensures.named;
    } in
    let first = l.invariant.above in let above = c.in-Some.ensures.above in let below = c.in-Some.ensures.below in
    let before = l.invariant.len in let after = c.write.ensures.len in
    record {
      above = omega (arith, first, above);
      below = omega (arith, below);
      table = forgets l.names.items c.write.new.names.items ls c.args.from l.at c.args.to c.in-Some.index c.in-Some.name
          c.line.result.now passes l.invariant.above l.invariant.table c.write.ensures.table;
      len = omega (arith, before, after);
    }

pub returns-clause-table : goal.returns-clause-table
returns-clause-table c = let l = c.loop-index in
    all-forgotten l.names.items c.args.tree.now.lines c.args.from l.at c.args.to l.invariant.below c.in_default.ensures
    l.invariant.table
