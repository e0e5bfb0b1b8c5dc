use Rattle.line_tree.proofs.Common.{◌∙◌, arith, counting, no_text, records, without_mark}
use Rattle.line_tree.proofs.ClimbingLaws.{above-of, climbed, has-parent, line-can, line-tree, root-can, starts}
use Rattle.line_tree.proofs.ClimbingLaws.{still-named}
use Rattle.line_tree.proofs.TakingLaws.{inner-here, marks-here, takes-here, takes-line}
use Rattle.line_tree.proofs.taking.take_up.Goals as goal

pub take_off-gone-requires : goal.take_off-gone-requires
take_off-gone-requires g c = record {
  line = line-tree (records c.args.store.now) c.args.height c.args.root c.requires.named.0 c.args.name c.requires.tree
      c.requires.named.1;
}

pub loop-level-init : goal.loop-level-init
loop-level-init g c = let m = records c.args.store.now in let l = records c.take_off-gone.new.store in
    let gone = c.take_off-gone.result in let number = c.args.number.0 in
    record {
      climbs = λ k at. starts m c.args.height c.args.root k c.args.name c.requires.tree at l (without_mark number)
          (counting 0 0 gone) no_text
          (takes-line m l c.args.name 0 number gone
          (line-can m c.args.height c.args.root k c.args.name c.requires.tree at) c.take_off-gone.ensures.takes);
      within = omega arith;
      spares = c.take_off-gone.ensures.spares;
      rooms = c.take_off-gone.ensures.rooms;
    }

pub parent-requires : goal.parent-requires
parent-requires g c = let m = records c.args.store.now in let l = records c.loop-level.store in
    let k = c.requires.named.0 in
    still-named m l c.args.height c.args.root k (without_mark c.args.number.0) (counting 0 0 c.take_off-gone.result)
    no_text c.loop-level.level c.loop-level.at (c.loop-level.invariant.climbs k c.requires.named.1)
    c.loop-level-test.true

pub unwrap-at-requires : goal.unwrap-at-requires
unwrap-at-requires g c = let m = records c.args.store.now in let l = records c.loop-level.store in
    let k = c.requires.named.0 in
    has-parent m l c.args.height c.args.root k (without_mark c.args.number.0) (counting 0 0 c.take_off-gone.result)
    no_text c.loop-level.level c.loop-level.at (c.loop-level.invariant.climbs k c.requires.named.1)
    c.loop-level-test.true c.parent.result c.parent.ensures.value

pub lose_counts-requires : goal.lose_counts-requires
lose_counts-requires g c =
    let m = records c.args.store.now in let l = records c.loop-level.store in let k = c.requires.named.0 in
    let at = c.requires.named.1 in let gone = c.take_off-gone.result in let h = c.args.height in let r = c.args.root in
    let number = c.args.number.0 in
    let above = above-of m l h r k (without_mark number) (counting 0 0 gone) no_text c.loop-level.level c.loop-level.at
    (c.loop-level.invariant.climbs k at) c.loop-level-test.true c.parent.result c.parent.ensures.value
    c.unwrap-at.result c.unwrap-at.ensures in
    record {
      name = inner-here m l h r k number gone c.loop-level.level c.loop-level.at c.unwrap-at.result
          c.loop-level-test.true above (root-can m h r k c.args.name c.requires.tree at c.requires.distinct);
      counts = marks-here m l h r k number gone c.loop-level.level c.loop-level.at c.unwrap-at.result
          c.loop-level-test.true above (root-can m h r k c.args.name c.requires.tree at c.requires.distinct);
    }

pub loop-level-preserved : goal.loop-level-preserved
loop-level-preserved g c = let m = records c.args.store.now in let l = records c.loop-level.store in
    let gone = c.take_off-gone.result in let number = c.args.number.0 in
    let h = c.args.height in let r = c.args.root in
    let j = c.loop-level.level in let p = c.loop-level.at in let q = c.unwrap-at.result in
    let less = c.loop-level-test.true in
    record {
      climbs = λ k at. takes-here m l h r k number gone j p q less
          (above-of m l h r k (without_mark number) (counting 0 0 gone) no_text j p (c.loop-level.invariant.climbs k at)
          less c.parent.result c.parent.ensures.value q c.unwrap-at.ensures)
          (root-can m h r k c.args.name c.requires.tree at c.requires.distinct)
          (records c.lose_counts.new.self) c.lose_counts.ensures.records;
      within = omega (arith, less);
      spares = c.lose_counts.ensures.spares ∙ c.loop-level.invariant.spares;
      rooms = c.lose_counts.ensures.rooms ∙ c.loop-level.invariant.rooms;
    }

pub returns-clause-takes : goal.returns-clause-takes
returns-clause-takes g c = let m = records c.args.store.now in let l = records c.loop-level.store in
    let within = c.loop-level.invariant.within in (
      c.take_off-gone.result,
      λ k at. climbed m l c.args.height c.args.root k (without_mark c.args.number.0)
          (counting 0 0 c.take_off-gone.result) no_text c.loop-level.level c.loop-level.at
          (c.loop-level.invariant.climbs k at) (omega (arith, within, c.loop-level-test.false)),
    )
