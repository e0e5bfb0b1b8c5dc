use Rattle.line_tree.proofs.Common.{subst, IfSome, lines_in, records, total, CanEditNamed, IsStale}
use Rattle.line_tree.proofs.ClimbingLaws.{line-tree}
use Rattle.line_tree.proofs.ReplacingLaws.{counted-so}
use Rattle.line_tree.proofs.replacing.edit_up.Given.{Over}
use Rattle.line_tree.proofs.replacing.edit_up.Goals.{After-between-exchange}
use Rattle.line_tree.proofs.replacing.edit_up.Goals as goal

pub edit_over-requires-clause-line : goal.edit_over-requires-clause-line
edit_over-requires-clause-line g c =
    line-tree (records c.args.store.now) c.args.height c.args.root c.requires.named.0 c.args.name c.requires.tree
    c.requires.named.1

stale : (g : Over) (c : After-between-exchange g) → IsStale (records c.args.store.now)
    (g.E.LineEdit.edited c.args.edit.now c.in_ok-edit_over.ensures.edits.line) (records c.edit_over.new.store)
    c.args.height c.args.root c.args.name c.between-exchange.result.gone.now c.between-exchange.result.more.now
stale g c =
    let m = records c.args.store.now in
    let edits = c.in_ok-edit_over.ensures.edits in
    let all = total (lines_in m c.args.height c.args.root) in
    let can = subst (λ o. IfSome o (CanEditNamed (g.E.LineEdit.fits c.args.edit.now)
    (g.E.LineEdit.edited c.args.edit.now) all)) edits.was c.requires.can in
    record {
      tree = c.requires.tree;
      distinct = c.requires.distinct;
      named = c.requires.named;
      fits = can.1;
      puts = counted-so m (records c.edit_over.new.store) c.args.name (g.E.LineEdit.edited c.args.edit.now edits.line)
          c.edit_over.new.gone c.edit_over.new.more _ _ c.between-exchange.ensures.same.0
          c.between-exchange.ensures.same.1 edits.puts;
    }

pub exchange_up-requires : goal.exchange_up-requires
exchange_up-requires g c = record {
  stale = (
    records c.args.store.now,
    g.E.LineEdit.edited c.args.edit.now c.in_ok-edit_over.ensures.edits.line,
    stale g (goal.at.exchange_up-requires g c).After-between-exchange,
  );
}

pub returns-clause-edits : goal.returns-clause-edits
returns-clause-edits g c =
    let edits = c.in_ok-edit_over.ensures.edits in
    record {
      line = edits.line;
      was = edits.was;
      gone = c.between-exchange.result.gone.now;
      changes = c.exchange_up.ensures.changes (records c.args.store.now)
          (g.E.LineEdit.edited c.args.edit.now edits.line)
          (stale g (goal.at.returns-clause-edits g c).After-between-exchange);
    }
