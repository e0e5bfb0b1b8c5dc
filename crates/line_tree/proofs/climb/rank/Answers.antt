use Rattle.line_tree.proofs.Common.{◌≡◌, ℕ, ◌+◌, ◌-◌, suc, subst, arith, slice_get_within, NodePtr, Records, kids}
use Rattle.line_tree.proofs.Common.{lines_in, records, IsLineAt, Sits}
use Rattle.line_tree.proofs.PlaceLaws.{Up, child-named, child-parent, level, line-within, sits, up_from}
use Rattle.line_tree.proofs.TreeLaws.{row-tree}
use Rattle.line_tree.proofs.climb.rank.Given.{Over}
use Rattle.line_tree.proofs.climb.rank.Goals.{After-ahead-arg-1}
use Rattle.line_tree.proofs.climb.rank.Goals as goal

start : (m : Records) (h : ℕ) (r p : NodePtr) (o : ℕ) → Sits m h 0 r p o → Sits m (h - 0) 0 r p o
start m h r p o s = let e : h ≡ h - 0 = omega arith in subst (λ x. Sits m x 0 r p o) e s

next : (m : Records) (h j : ℕ) (r p : NodePtr) (o : ℕ) → Sits m (h - suc j) (suc j) r p o →
    Sits m (h - (j + 1)) (j + 1) r p o
next m h j r p o s = let e : suc j ≡ j + 1 = omega arith in subst (λ x. Sits m (h - x) x r p o) e s

pub loop-level-init : goal.loop-level-init
loop-level-init g c = let m = records c.args.store.now in record {
  sits = λ k at. (
    k,
    start m c.args.height c.args.root c.args.name k
        (sits m c.args.height c.args.root c.args.name k c.requires.tree at),
    omega arith,
  );
  ticks = omega arith;
}

pub parent-requires : goal.parent-requires
parent-requires g c = let m = records c.args.store.now in
    let s = c.loop-level.invariant.sits c.requires.named.0 c.requires.named.1 in
    let up = level m c.args.height c.loop-level.level c.args.root c.loop-level.at s.0 c.loop-level-test.true s.1 in
    child-named m c.loop-level.level up.0 up.1 c.loop-level.at up.4

pub slot-slot-requires : goal.slot-slot-requires
slot-slot-requires g c = let m = records c.args.store.now in
    let s = c.loop-level.invariant.sits c.requires.named.0 c.requires.named.1 in
    let up = level m c.args.height c.loop-level.level c.args.root c.loop-level.at s.0 c.loop-level-test.true s.1 in
    child-named m c.loop-level.level up.0 up.1 c.loop-level.at up.4

pub returns-in_default-clause-value : goal.returns-in_default-clause-value
returns-in_default-clause-value g c k at = let m = records c.args.store.now in
    let s = c.loop-level.invariant.sits k at in
    let up = level m c.args.height c.loop-level.level c.args.root c.loop-level.at s.0 c.loop-level-test.true s.1 in
    absurd (c.in_default.not-Some _ (child-parent m c.loop-level.level up.0 up.1 c.loop-level.at up.4 c.parent.result
    c.parent.ensures.value))

here : (g : Over) (c : After-ahead-arg-1 g) (k : ℕ)
    (at : IsLineAt (lines_in (records c.args.store.now) c.args.height c.args.root) k c.args.name)
    → Up (records c.args.store.now) (c.args.height - suc c.loop-level.level) c.loop-level.level c.args.root
    c.loop-level.at (c.loop-level.invariant.sits k at).0 c.in-Some.up c.slot-slot.result
here g c k at = let m = records c.args.store.now in let s = c.loop-level.invariant.sits k at in
    up_from m (c.args.height - suc c.loop-level.level) c.loop-level.level c.args.root c.loop-level.at s.0
    (level m c.args.height c.loop-level.level c.args.root c.loop-level.at s.0 c.loop-level-test.true s.1)
    c.parent.result c.parent.ensures.value c.in-Some.up c.in-Some.is c.slot-slot.result c.slot-slot.ensures

pub ahead-rank-requires : goal.ahead-rank-requires
ahead-rank-requires g c = let m = records c.args.store.now in
    record {
      tree = (here g c c.requires.named.0 c.requires.named.1).child.tree;
      within =
          let less = slice_get_within (kids m c.in-Some.up) c.slot-slot.result c.loop-level.at
          (here g c c.requires.named.0 c.requires.named.1).child.at in omega arith;
      fits =
          let k = c.requires.named.0 in let at = c.requires.named.1 in let offset = (here g c k at).offset in
          let sum = (c.loop-level.invariant.sits k at).2 in let fits = c.requires.fits in
          let within = line-within (lines_in m c.args.height c.args.root) k c.args.name at in omega arith;
    }

pub overflow_add-rank : goal.overflow_add-rank
overflow_add-rank g c =
    let k = c.requires.named.0 in let at = c.requires.named.1 in
    let offset = (here g (goal.at.overflow_add-rank g c).After-ahead-arg-1 k at).offset in
    let sum = (c.loop-level.invariant.sits k at).2 in let fits = c.requires.fits in
    let within = line-within (lines_in (records c.args.store.now) c.args.height c.args.root) k c.args.name at in
    let value = c.ahead-rank.ensures.value in omega arith

pub loop-level-preserved : goal.loop-level-preserved
loop-level-preserved g c = let m = records c.args.store.now in
    let some = here g (goal.at.loop-level-preserved g c).After-ahead-arg-1 c.requires.named.0 c.requires.named.1 in
    let less = slice_get_within (kids m c.in-Some.up) c.slot-slot.result c.loop-level.at some.child.at in
    let few = (row-tree m c.loop-level.level c.in-Some.up some.child.tree).few in
    let so_far = c.loop-level.invariant.ticks in let one = c.parent.ensures.tick in
    let more = c.ahead-rank.ensures.ticks in let value = c.ahead-rank.ensures.value in
    record {
      sits = λ k at. let up = here g (goal.at.loop-level-preserved g c).After-ahead-arg-1 k at in
          let offset = up.offset in let sum = (c.loop-level.invariant.sits k at).2 in
          (up.base, next m c.args.height c.loop-level.level c.args.root c.in-Some.up up.base up.sits, omega arith);
      ticks = omega arith;
    }
