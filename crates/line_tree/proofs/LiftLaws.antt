-- One more level, up to the root.
use Rattle.line_tree.proofs.Common.{◌≡◌, ℕ, zero, suc, ◌+◌, ◌-◌, ◌*◌, ◌^◌, ◌≤◌, List, [], ◌∷◌, length, sym, ap, ◌∙◌}
use Rattle.line_tree.proofs.Common.{subst, arith, AllByRecursion, mul-le-mul_right, length-map, FitsSum, sum_all}
use Rattle.line_tree.proofs.Common.{IsBalanced, IsBalancedRoot, Tree, least_below_root, total, NodePtr, Records}
use Rattle.line_tree.proofs.Common.{tree_at, IsWide, lines_of, names_of, CanLift, CanRaise, Lifted, Raises, trees_at}
use Rattle.line_tree.proofs.Common.{levels_at_most}
use Rattle.line_tree.proofs.BecomeLaws.{and-then}
use Rattle.line_tree.proofs.BuildLaws.{sum-trees}
use Rattle.line_tree.proofs.CountLaws.{least-lines, lines-sum, lines-within, many-lines}
use Rattle.line_tree.proofs.FrameLaws.{names-all-held}
use Rattle.line_tree.proofs.LevelLaws.{levels-many}
use Rattle.line_tree.proofs.RemakeLaws.{lines-below, some-above, wide-all}
use Rattle.line_tree.proofs.RoomLaws.{len-many}
use Rattle.line_tree.proofs.StepLaws.{all-balanced}
use Rattle.line_tree.proofs.TreeLaws.{tops-tree_at, total-lines}
use Rattle.std.specs.FinMap as finite

pub lift-can : (m : Records) (h : ℕ) (cs : List NodePtr) → CanLift m h cs → CanRaise m h cs
lift-can m h cs can = record {
  holds = can.holds;
  distinct = can.distinct;
  fits = subst FitsSum
      (sym (ap (sum_all m) (sym (tops-tree_at m h cs)) ∙ sum-trees m h (trees_at m h cs) can.holds)) can.fits;
}

-- so many levels there are at most
pub lift-levels : (m : Records) (h : ℕ) (cs : List NodePtr) (spares : ℕ) → CanLift m h cs → 2 ≤ length cs →
    suc h ≤ levels_at_most (spares + finite.len m)
lift-levels m h cs spares can two =
    let ts = trees_at m h cs in let long = length-map cs (tree_at m h) in
    let many = many-lines m h (6 ^ h) (least-lines m h) ts can.holds (can.split two) in
    let both : 2 ≤ length ts = omega arith in
    let more = mul-le-mul_right (6 ^ h) both in
    let count = total-lines (lines_of h ts) in let fits = can.fits.lines in
    let all = lines-sum h (lines-within h) ts in
    let records = len-many (names_of h ts) m can.distinct (names-all-held m h ts can.holds) in
    levels-many (spares + finite.len m) (length (lines_of h ts)) (suc h)
    (λ some. let e : suc h - 1 ≡ h = omega arith in
    subst (λ j. 2 * 6 ^ j ≤ length (lines_of h ts)) (sym e) (omega arith)) (omega arith) (omega arith)

least-two : (h : ℕ) → least_below_root h ≤ 2
least-two zero = omega arith
least-two (suc h) = omega arith

root-all : (h : ℕ) (vs : List (Tree (suc h))) → AllByRecursion (IsWide 2 (suc h)) vs →
    AllByRecursion (IsBalancedRoot (suc h)) vs
root-all h [] wide = tt
root-all h (v ∷ vs) wide = let low = least-two h in let some = wide.0.0 in (
  (omega arith, wide.0.1, wide.0.2),
  root-all h vs wide.1,
)

pub lift-more : (m l n : Records) (h : ℕ) (cs : List NodePtr) (top : ℕ) (ps qs : List NodePtr) →
    Lifted m l h cs top ps → 2 ≤ length ps → Raises l n top ps (length ps) qs → 12 * length qs ≤ length ps + 11 →
    Lifted m n h cs (suc top) qs
lift-more m l n h cs top ps qs lifted two raises few =
    let can = lifted.can in let vs = trees_at n (suc top) qs in
    let lines = lines-below top vs ∙ ap (lines_of top) raises.below in
    let balanced = subst (AllByRecursion (IsBalanced top)) (sym raises.below) (can.split two) in
    record {
      can = record {
        some = some-above l n top ps (length ps) qs raises can.some;
        holds = raises.becomes.holds;
        distinct = raises.becomes.distinct;
        fits = subst (λ ls. FitsSum (total ls)) (sym lines) can.fits;
        root = root-all top vs (wide-all 2 top vs (raises.wide 2 (omega arith) two) balanced);
        split = λ more. all-balanced (suc top) vs
            (wide-all 6 top vs (raises.wide 6 (omega arith) (omega (arith, few, more))) balanced);
        loose = raises.loose;
      };
      becomes = and-then m l n (names_of h (trees_at m h cs)) top (suc top) (trees_at l top ps) vs lifted.becomes
          raises.becomes;
      lines = lines ∙ lifted.lines;
    }
