use Rattle.line_tree.proofs.Common.{◌≡◌, ◌+◌, ◌-◌, subst, arith, Leaves}
use Rattle.line_tree.proofs.LeavingLaws.{leaves-all, leaves-fewer, leaves-long}
use Rattle.line_tree.proofs.tree.LineTree.take_branches.Goals as goal

pub returns-then-gone-lt6 : goal.returns-then-gone-lt6
returns-then-gone-lt6 g c = leaves-all c.args.self.now c.args.k c.args.gone c.requires.within

pub loop-end-init : goal.loop-end-init
loop-end-init g c = let all : c.args.gone ≡ c.args.k + c.args.gone - c.args.k = omega arith in
    let near = c.branch_near-start.ensures in record {
      start = near.0;
      end = near.1;
      leaves = subst (λ n. Leaves c.args.self.now c.args.k c.args.gone n c.args.self.now) all
          (leaves-all c.args.self.now c.args.k c.args.gone c.requires.within);
    }

pub remove_branch-taken-requires-clause-within : goal.remove_branch-taken-requires-clause-within
remove_branch-taken-requires-clause-within g c = let l = c.loop-end in let low = l.invariant.start in
    let high = l.invariant.end in let within = c.requires.within in
    let long = leaves-long c.args.self.now l.self c.args.k c.args.gone (l.end - c.args.k) within l.invariant.leaves in
    omega arith

pub remove_branch-taken-requires-clause-left : goal.remove_branch-taken-requires-clause-left
remove_branch-taken-requires-clause-left g c = let l = c.loop-end in let low = l.invariant.start in
    let high = l.invariant.end in let within = c.requires.within in let some = c.requires.some in
    let long = leaves-long c.args.self.now l.self c.args.k c.args.gone (l.end - c.args.k) within l.invariant.leaves in
    omega arith

pub loop-end-preserved : goal.loop-end-preserved
loop-end-preserved g c = let l = c.loop-end in let low = l.invariant.start in let high = l.invariant.end in
    let most = c.remove_branch-taken.ensures.most in
    record {
      start = low;
      end = omega arith;
      leaves = leaves-fewer c.args.self.now l.self _ c.args.k c.args.gone (l.end - c.args.k) c.branch_near-start.result
          c.remove_branch-taken.result (l.end - c.remove_branch-taken.result - c.args.k) c.requires.within
          l.invariant.leaves low (omega arith) (omega arith) c.remove_branch-taken.ensures.lines
          c.remove_branch-taken.ensures.room;
    }
