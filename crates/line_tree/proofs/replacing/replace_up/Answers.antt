use Rattle.line_tree.proofs.Common.{records, IsStale}
use Rattle.line_tree.proofs.ClimbingLaws.{line-tree}
use Rattle.line_tree.proofs.ReplacingLaws.{counted-so}
use Rattle.line_tree.proofs.replacing.replace_up.Given.{Over}
use Rattle.line_tree.proofs.replacing.replace_up.Goals.{After-between-exchange}
use Rattle.line_tree.proofs.replacing.replace_up.Goals as goal

pub put_over-requires-clause-line : goal.put_over-requires-clause-line
put_over-requires-clause-line g c =
    line-tree (records c.args.store.now) c.args.height c.args.root c.requires.named.0 c.args.name c.requires.tree
    c.requires.named.1

stale : (g : Over) (c : After-between-exchange g) → IsStale (records c.args.store.now) c.args.line
    (records c.put_over.new.store) c.args.height c.args.root c.args.name c.between-exchange.result.gone.now
    c.between-exchange.result.more.now
stale g c = record {
  tree = c.requires.tree;
  distinct = c.requires.distinct;
  named = c.requires.named;
  fits = c.requires.fits;
  puts = counted-so (records c.args.store.now) (records c.put_over.new.store) c.args.name c.args.line
      c.put_over.new.gone c.put_over.new.more _ _ c.between-exchange.ensures.same.0 c.between-exchange.ensures.same.1
      c.put_over.ensures.puts;
}

pub exchange_up-requires : goal.exchange_up-requires
exchange_up-requires g c = record {
  stale = (
    records c.args.store.now,
    c.args.line,
    stale g (goal.at.exchange_up-requires g c).After-between-exchange,
  );
}

pub returns-clause-changes : goal.returns-clause-changes
returns-clause-changes g c = (
  c.between-exchange.result.gone.now,
  c.exchange_up.ensures.changes (records c.args.store.now) c.args.line
      (stale g (goal.at.returns-clause-changes g c).After-between-exchange),
)
