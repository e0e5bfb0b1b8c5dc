use Rattle.line_tree.proofs.Common.{ap, subst, arith, lines_in, records, IsLineAt, CharactersBefore}
use Rattle.line_tree.proofs.SearchLaws.{arrives-at, arrives-before, arrives-named}
use Rattle.line_tree.proofs.TreeLaws.{total-lines}
use Rattle.line_tree.proofs.starts.place.Goals as goal

pub descend-arrived-requires-clause-within : goal.descend-arrived-requires-clause-within
descend-arrived-requires-clause-within g c =
    let count = total-lines (lines_in (records c.args.store.now) c.args.height c.args.root) in
    let within = c.requires.within in omega arith

pub returns-clause-name : goal.returns-clause-name
returns-clause-name g c = let ls = lines_in (records c.args.store.now) c.args.height c.args.root in
    let w = c.descend-arrived.ensures.arrives in
    subst (λ n. IsLineAt ls n c.descend-arrived.result.name) (arrives-at w) (arrives-named w)

pub returns-clause-start : goal.returns-clause-start
returns-clause-start g c =
    let before = ap (λ (a : CharactersBefore). a.characters) (arrives-before c.descend-arrived.ensures.arrives) in
    omega arith
