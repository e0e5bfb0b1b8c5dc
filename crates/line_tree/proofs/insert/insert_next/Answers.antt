use Rattle.line_tree.proofs.Common.{sym, ap, ◌∙◌, subst, arith, records, sum_at, CanInsert, Inserts}
use Rattle.line_tree.proofs.insert.insert_next.Goals as goal

pub insert_in-requires : goal.insert_in-requires
insert_in-requires g c = record {
  node = c.requires.node;
  insert = subst (λ n. CanInsert n c.args.height c.args.root c.args.k c.args.added.now.line)
      (sym (c.insert_behind.ensures.no c.if-insert_behind.false)) c.requires.insert;
  more = c.requires.more
      ∙ ap (λ n. sum_at n c.args.added.now.line) (sym (c.insert_behind.ensures.no c.if-insert_behind.false));
  spares = let s = c.insert_behind.ensures.spares in let enough = c.requires.spares in omega (arith, s, enough);
  rooms = let s = c.insert_behind.ensures.rooms in let enough = c.requires.rooms in omega (arith, s, enough);
}

pub returns-then-insert_behind-clause-inserts : goal.returns-then-insert_behind-clause-inserts
returns-then-insert_behind-clause-inserts g c = c.insert_behind.ensures.yes c.if-insert_behind.true

pub returns-then-insert_behind-clause-count : goal.returns-then-insert_behind-clause-count
returns-then-insert_behind-clause-count g c =
    let s = c.insert_behind.ensures.spares in let n = c.insert_behind.ensures.len in omega (arith, s, n)

pub returns : goal.returns
returns g c = let s = c.insert_behind.ensures.spares in
    record {
      inserts = subst (λ n. Inserts n (records c.insert_in.new.store) c.args.height c.args.root c.args.k
          c.args.added.now.line c.insert_in.result) (c.insert_behind.ensures.no c.if-insert_behind.false)
          c.insert_in.ensures.inserts;
      spares = let n = c.insert_in.ensures.spares in omega (arith, s, n);
      rooms = let r = c.insert_behind.ensures.rooms in let n = c.insert_in.ensures.rooms in omega (arith, s, r, n);
      count = let e = c.insert_behind.ensures.len in let n = c.insert_in.ensures.count in omega (arith, s, e, n);
    }
