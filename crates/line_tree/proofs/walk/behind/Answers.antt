use Rattle.line_tree.proofs.Common.{◌+◌, sym, ap, ◌∙◌, arith, option_map, slice_get_past, Named, lines_in, tree_at}
use Rattle.line_tree.proofs.Common.{records}
use Rattle.line_tree.proofs.NextLaws.{balanced-high}
use Rattle.line_tree.proofs.walk.behind.Goals as goal

pub returns-in_err-branch : goal.returns-in_err-branch
returns-in_err-branch g c = let m = records c.args.store.now in let h = c.args.height in
    let ls = lines_in m h c.args.root in
    let climbed = c.climb.ensures.ticks in
    let high = balanced-high h (tree_at m h c.args.root) c.requires.stands.balanced in
    record {
      value = λ k at. let last = c.in_err-branch.ensures.branch k at in
          c.from_residual.ensures
          ∙ sym (ap (option_map (λ (l : Named). l.0)) (slice_get_past ls (k + 1) (omega arith)));
      ticks = omega arith;
    }

pub returns : goal.returns
returns g c = let first = c.first.ensures.ticks in let climbed = c.climb.ensures.ticks in
    let begins = c.in_ok-branch.ensures.branch in
    let low = (begins c.requires.named.0 c.requires.named.1).low in
    record {
      value = λ k at. sym (ap (option_map (λ (l : Named). l.0)) (begins k at).line ∙ c.first.ensures.name);
      ticks = omega arith;
    }
