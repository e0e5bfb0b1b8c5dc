use Rattle.line_tree.proofs.Common.{sym, subst, vec_len, arith, NumbersBelow}
use Rattle.line_tree.proofs.TableLaws.{index-below, index-within, number-below, written-all, written-more}
use Rattle.line_tree.proofs.mark_names.write.Goals as goal

pub index_mut-requires : goal.index_mut-requires
index_mut-requires c = let line = c.args.line.now in
    number-below (vec_len c.loop-number.names) line c.loop-number.index c.in-Some.number.0 c.in-Some.field-0-1
    (subst (λ n. NumbersBelow n line.marks) (sym c.loop-number.invariant.len) c.requires) c.in-Some.ensures.value

pub overflow_add-index : goal.overflow_add-index
overflow_add-index c = let line = c.args.line.now in
    let low = index-below line c.loop-number.index c.in-Some.number.0 c.in-Some.field-0-1 c.in-Some.ensures.value in
    let below = number-below (vec_len c.loop-number.names) line c.loop-number.index c.in-Some.number.0
    c.in-Some.field-0-1 (subst (λ n. NumbersBelow n line.marks) (sym c.loop-number.invariant.len) c.requires)
    c.in-Some.ensures.value in
    let small = c.loop-number.names.small in omega (arith, low, below, small)

pub loop-number-smaller : goal.loop-number-smaller
loop-number-smaller c = let less = index-within c.args.line.now c.loop-number.index c.in-Some.number.0
    c.in-Some.field-0-1 c.in-Some.ensures.value in omega (arith, less)

pub loop-number-preserved : goal.loop-number-preserved
loop-number-preserved c = let line = c.args.line.now in
    let below = number-below (vec_len c.loop-number.names) line c.loop-number.index c.in-Some.number.0
    c.in-Some.field-0-1 (subst (λ n. NumbersBelow n line.marks) (sym c.loop-number.invariant.len) c.requires)
    c.in-Some.ensures.value in
    let same = c.loop-number.names.ok.0 in
    record {
      table = written-more c.args.names.now.items c.loop-number.names.items _ c.loop-number.index c.in-Some.number.0
          c.in-Some.field-0-1 c.args.name (omega (arith, below, same)) c.in-Some.ensures.value
          c.loop-number.invariant.table;
      len = c.loop-number.invariant.len;
    }

pub returns-clause-table : goal.returns-clause-table
returns-clause-table c = written-all c.args.names.now.items c.loop-number.names.items c.args.line.now
    c.loop-number.index c.args.name c.in_default.ensures.value c.loop-number.invariant.table
