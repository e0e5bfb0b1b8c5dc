use Rattle.line_tree.proofs.Common.{◌∙◌, refl, subst, arith, records, Changes}
use Rattle.line_tree.proofs.ClimbingLaws.{above-of, climbed, has-parent, line-can, root-can, starts, still-named}
use Rattle.line_tree.proofs.ReplacingLaws.{came-here, fits-here, puts-line, replaces-here, row-here, sum-here}
use Rattle.line_tree.proofs.ReplacingLaws.{went-here, went-next, within-line}
use Rattle.line_tree.proofs.replacing.exchange_up.Goals as goal

pub loop-level-init : goal.loop-level-init
loop-level-init g c =
    let l = records c.args.store.now in
    let h = c.args.height in
    let r = c.args.root in
    let name = c.args.name in
    let gone = c.args.exchange.now.gone.now in
    let more = c.args.exchange.now.more.now in
    record {
      climbs = λ m new was k at. starts m h r k name was.tree at l (λ _. new) gone more
          (puts-line m l name 0 new gone more (line-can m h r k name was.tree at) was.puts);
      within = omega arith;
      went = λ m new was. within-line m name l new gone more was.puts;
      spares = refl;
      rooms = refl;
    }

pub parent-requires : goal.parent-requires
parent-requires g c =
    let m = c.requires.stale.0 in
    let new = c.requires.stale.1 in
    let was = c.requires.stale.2 in
    let k = was.named.0 in
    still-named m (records c.loop-level.store) c.args.height c.args.root k (λ _. new) c.args.exchange.now.gone.now
    c.args.exchange.now.more.now c.loop-level.level c.loop-level.at
    (c.loop-level.invariant.climbs m new was k was.named.1) c.loop-level-test.true

pub unwrap-at-requires : goal.unwrap-at-requires
unwrap-at-requires g c =
    let m = c.requires.stale.0 in
    let new = c.requires.stale.1 in
    let was = c.requires.stale.2 in
    let k = was.named.0 in
    has-parent m (records c.loop-level.store) c.args.height c.args.root k (λ _. new) c.args.exchange.now.gone.now
    c.args.exchange.now.more.now c.loop-level.level c.loop-level.at
    (c.loop-level.invariant.climbs m new was k was.named.1) c.loop-level-test.true c.parent.result c.parent.ensures.value

pub exchange_sum-requires : goal.exchange_sum-requires
exchange_sum-requires g c =
    let m = c.requires.stale.0 in
    let new = c.requires.stale.1 in
    let was = c.requires.stale.2 in
    let l = records c.loop-level.store in
    let k = was.named.0 in
    let at = was.named.1 in
    let gone = c.args.exchange.now.gone.now in
    let more = c.args.exchange.now.more.now in
    let h = c.args.height in
    let r = c.args.root in
    let j = c.loop-level.level in
    let p = c.loop-level.at in
    let q = c.unwrap-at.result in
    let less = c.loop-level-test.true in
    let above = above-of m l h r k (λ _. new) gone more j p (c.loop-level.invariant.climbs m new was k at) less
    c.parent.result c.parent.ensures.value q c.unwrap-at.ensures in
    let can = root-can m h r k c.args.name was.tree at was.distinct in
    let came = was.puts.came in
    record {
      row = row-here m l h r k new gone more j p q less above (can, was.fits) came;
      sum = sum-here m l h r k new gone more j p q less above (can, was.fits) came;
      came = came-here m l h r k new gone more j p q less above (can, was.fits) came;
      went = went-here m l h r k new gone more j p q less above (can, was.fits) came
          (c.loop-level.invariant.went m new was);
      fits = fits-here m l h r k new gone more j p q less above (can, was.fits) came;
    }

pub loop-level-preserved : goal.loop-level-preserved
loop-level-preserved g c =
    let l = records c.loop-level.store in
    let gone = c.args.exchange.now.gone.now in
    let more = c.args.exchange.now.more.now in
    let h = c.args.height in
    let r = c.args.root in
    let j = c.loop-level.level in
    let p = c.loop-level.at in
    let q = c.unwrap-at.result in
    let less = c.loop-level-test.true in
    record {
      climbs = λ m new was k at. replaces-here m l h r k new gone more j p q less
          (above-of m l h r k (λ _. new) gone more j p (c.loop-level.invariant.climbs m new was k at) less
          c.parent.result c.parent.ensures.value q c.unwrap-at.ensures)
          (root-can m h r k c.args.name was.tree at was.distinct, was.fits) was.puts.came
          (records c.exchange_sum.new.store) c.exchange_sum.ensures.records;
      within = omega (arith, less);
      went = λ m new was.
          let k = was.named.0 in
          went-next m l h r k new gone more j p q less
          (above-of m l h r k (λ _. new) gone more j p (c.loop-level.invariant.climbs m new was k was.named.1) less
          c.parent.result c.parent.ensures.value q c.unwrap-at.ensures)
          (root-can m h r k c.args.name was.tree was.named.1 was.distinct, was.fits) was.puts.came
          (c.loop-level.invariant.went m new was);
      spares = c.exchange_sum.ensures.spares ∙ c.loop-level.invariant.spares;
      rooms = c.exchange_sum.ensures.rooms ∙ c.loop-level.invariant.rooms;
    }

pub returns-clause-changes : goal.returns-clause-changes
returns-clause-changes g c = λ m new was k at.
    let l = records c.loop-level.store in
    let within = c.loop-level.invariant.within in
    subst (λ s. Changes m l c.args.height c.args.root k (λ _. new) c.args.exchange.now.gone.now s) was.puts.came
    (climbed m l c.args.height c.args.root k (λ _. new) c.args.exchange.now.gone.now c.args.exchange.now.more.now
    c.loop-level.level c.loop-level.at (c.loop-level.invariant.climbs m new was k at)
    (omega (arith, within, c.loop-level-test.false)))
