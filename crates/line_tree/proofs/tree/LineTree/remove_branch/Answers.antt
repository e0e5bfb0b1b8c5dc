use Rattle.line_tree.proofs.Common.{◌≡◌, ◌+◌, length, ap, ◌∙◌, arith, lines_in, records, removed}
use Rattle.line_tree.proofs.GivingLaws.{Out, branch-out}
use Rattle.line_tree.proofs.LineRoomLaws.{fewer-lines, length-removed, room-grows}
use Rattle.line_tree.proofs.LowerLaws.{branch-after, can-lower, can-remove}
use Rattle.line_tree.proofs.tree.LineTree.remove_branch.Given.{Over}
use Rattle.line_tree.proofs.tree.LineTree.remove_branch.Goals.{After-give_back_all-lines}
use Rattle.line_tree.proofs.tree.LineTree.remove_branch.Goals as goal

pub remove_in-requires-clause-remove : goal.remove_in-requires-clause-remove
remove_in-requires-clause-remove g c = let same = ap (λ v. length v.lines) c.self.view_is in
    let some = c.requires.some in let left = c.requires.left in let within = c.requires.within in
    can-remove (records c.self.inside.store) c.self.inside.height c.self.inside.root c.args.k
    c.self.invariant.0.stands (omega arith) (omega arith)

pub lower-left-requires-clause-lower : goal.lower-left-requires-clause-lower
lower-left-requires-clause-lower g c = let same = ap (λ v. length v.lines) c.self.view_is in
    let some = c.requires.some in let left = c.requires.left in
    can-lower (records c.self.inside.store) (records c.remove_in.new.store) c.self.inside.height c.self.inside.root
    c.args.k 1 c.in-Some.name c.self.invariant.0.stands (omega arith) c.in-Some.ensures.removes

pub give_back_all-lines-requires : goal.give_back_all-lines-requires
give_back_all-lines-requires g c = record {
  tree = (branch-after (records c.self.inside.store) (records c.remove_in.new.store) (records c.lower-left.new.store)
      c.self.inside.height c.lower-left.result.height c.self.inside.root c.lower-left.result.root c.args.k 1
      c.in-Some.name c.in-Some.ensures.removes c.lower-left.ensures.lowers).0;
}

out : (g : Over) (c : After-give_back_all-lines g) →
    (c.give_back_all-lines.result ≡ length (lines_in (records c.self.inside.store) 1 c.in-Some.name))
    × Out (records c.self.inside.store) (records c.give_back_all-lines.new.store) c.self.inside.height
    c.lower-left.result.height c.self.inside.root c.lower-left.result.root c.args.k c.give_back_all-lines.result
out g c = branch-out (records c.self.inside.store) (records c.remove_in.new.store) (records c.lower-left.new.store)
    (records c.give_back_all-lines.new.store) c.self.inside.height c.lower-left.result.height c.self.inside.root
    c.lower-left.result.root c.args.k c.in-Some.name c.give_back_all-lines.result c.self.invariant.0
    c.in-Some.ensures.removes c.in-Some.ensures.clean c.lower-left.ensures.lowers c.give_back_all-lines.ensures.lines
    c.give_back_all-lines.ensures.without

pub overflow_sub-self : goal.overflow_sub-self
overflow_sub-self g c = let long = (out g c).0 in let most = c.in-Some.ensures.most in
    let same = ap (λ v. length v.lines) c.self.view_is in let count = c.self.invariant.1 in
    let left = c.requires.left in omega arith

pub invariant_of-self-2 : goal.invariant_of-self-2
invariant_of-self-2 g c = let gone = out g (goal.at.invariant_of-self-2 g c).After-give_back_all-lines in
    let long = gone.0 in let most = c.in-Some.ensures.most in let same = ap (λ v. length v.lines) c.self.view_is in
    let within = c.requires.within in (
      gone.1.alone,
      fewer-lines (lines_in (records c.self.inside.store) c.self.inside.height c.self.inside.root) _ c.args.k
          c.give_back_all-lines.result c.self.inside.count (omega arith) c.self.invariant.1 gone.1.lines,
    )

pub returns-clause-lines : goal.returns-clause-lines
returns-clause-lines g c = (out g (goal.at.returns-clause-lines g c).After-give_back_all-lines).1.lines
    ∙ ap (λ v. removed c.args.k (c.args.k + c.give_back_all-lines.result) v.lines) c.self.view_is

pub returns-clause-most : goal.returns-clause-most
returns-clause-most g c = let long = (out g (goal.at.returns-clause-most g c).After-give_back_all-lines).0 in
    let most = c.in-Some.ensures.most in omega arith

pub returns-clause-room : goal.returns-clause-room
returns-clause-room g c = let most = returns-clause-most g c in let within = c.requires.within in
    let v = ap (λ z. z.spares) c.self.view_is in let w = ap (λ z. z.rooms) c.self.view_is in
    let x = ap (λ z. z.nodes) c.self.view_is in
    let r1 = c.remove_in.ensures.rooms in let r2 = c.lower-left.ensures.rooms in
    let r3 = c.give_back_all-lines.ensures.rooms in let s3 = c.give_back_all-lines.ensures.spares in
    let s1 = c.remove_in.ensures.spares in let s2 = c.lower-left.ensures.spares in
    let n1 = c.remove_in.ensures.count in let n2 = c.lower-left.ensures.count in
    let n3 = c.give_back_all-lines.ensures.nodes in
    let grows = room-grows c.args.self.now _ c.give_back_all-lines.result (omega arith)
    (length-removed c.args.self.now.lines _ c.args.k c.give_back_all-lines.result (omega arith)
    (returns-clause-lines g c)) (omega arith) (omega arith) in
    record {
      nodes = omega (arith, x, n1, n2, n3);
      spares = omega (arith, v, s1, s2, s3);
      rooms = omega (arith, v, w, r1, r2, r3, s1, s2, s3);
      names = ap (λ z. z.row_room) c.self.view_is;
      lines = grows;
    }
