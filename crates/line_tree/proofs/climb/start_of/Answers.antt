use Rattle.line_tree.proofs.Common.{◌≡◌, ℕ, ◌+◌, ◌-◌, suc, ap, subst, arith, slice_get_within, NodePtr, Records, kids}
use Rattle.line_tree.proofs.Common.{lines_in, records, Begins, IsLineAt}
use Rattle.line_tree.proofs.BeginLaws.{BeginsUp, begins-level, begins-named, begins-up, first-characters}
use Rattle.line_tree.proofs.LocateLaws.{size-below}
use Rattle.line_tree.proofs.PlaceLaws.{child-named, child-parent}
use Rattle.line_tree.proofs.TreeLaws.{row-tree}
use Rattle.line_tree.proofs.climb.start_of.Given.{Over}
use Rattle.line_tree.proofs.climb.start_of.Goals.{After-characters_ahead-arg-1}
use Rattle.line_tree.proofs.climb.start_of.Goals as goal

from-none : (m : Records) (h : ℕ) (r p : NodePtr) (b : ℕ) → Begins m h 0 r p b → Begins m (h - 0) 0 r p b
from-none m h r p b s = let e : h ≡ h - 0 = omega arith in subst (λ x. Begins m x 0 r p b) e s

next : (m : Records) (h j : ℕ) (r p : NodePtr) (b : ℕ) → Begins m (h - suc j) (suc j) r p b →
    Begins m (h - (j + 1)) (j + 1) r p b
next m h j r p b s = let e : suc j ≡ j + 1 = omega arith in subst (λ x. Begins m (h - x) x r p b) e s

pub loop-level-init : goal.loop-level-init
loop-level-init g c = let m = records c.args.store.now in record {
  begins = λ k at.
      let b = begins-named m c.args.height c.args.root c.args.name k c.requires.tree at in
      (_, from-none m c.args.height c.args.root c.args.name _ b, omega arith);
}

pub parent-requires : goal.parent-requires
parent-requires g c = let m = records c.args.store.now in
    let s = c.loop-level.invariant.begins c.requires.named.0 c.requires.named.1 in
    let up = begins-level m c.args.height c.loop-level.level c.args.root c.loop-level.at s.0 c.loop-level-test.true s.1 in
    child-named m c.loop-level.level up.0 up.1 c.loop-level.at up.4

pub slot-slot-requires : goal.slot-slot-requires
slot-slot-requires g c = let m = records c.args.store.now in
    let s = c.loop-level.invariant.begins c.requires.named.0 c.requires.named.1 in
    let up = begins-level m c.args.height c.loop-level.level c.args.root c.loop-level.at s.0 c.loop-level-test.true s.1 in
    child-named m c.loop-level.level up.0 up.1 c.loop-level.at up.4

pub returns-in_default : goal.returns-in_default
returns-in_default g c k at = let m = records c.args.store.now in
    let s = c.loop-level.invariant.begins k at in
    let up = begins-level m c.args.height c.loop-level.level c.args.root c.loop-level.at s.0 c.loop-level-test.true s.1 in
    absurd (c.in_default.not-Some _ (child-parent m c.loop-level.level up.0 up.1 c.loop-level.at up.4 c.parent.result
    c.parent.ensures.value))

here : (g : Over) (c : After-characters_ahead-arg-1 g) (k : ℕ)
    (at : IsLineAt (lines_in (records c.args.store.now) c.args.height c.args.root) k c.args.name)
    → BeginsUp (records c.args.store.now) (c.args.height - suc c.loop-level.level) c.loop-level.level c.args.root
    c.loop-level.at (c.loop-level.invariant.begins k at).0 c.in-Some.up c.slot-slot.result
here g c k at = let m = records c.args.store.now in let s = c.loop-level.invariant.begins k at in
    begins-up m (c.args.height - suc c.loop-level.level) c.loop-level.level c.args.root c.loop-level.at s.0
    (begins-level m c.args.height c.loop-level.level c.args.root c.loop-level.at s.0 c.loop-level-test.true s.1)
    c.parent.result c.parent.ensures.value c.in-Some.up c.in-Some.is c.slot-slot.result c.slot-slot.ensures

pub characters_ahead-start-requires : goal.characters_ahead-start-requires
characters_ahead-start-requires g c = let m = records c.args.store.now in
    record {
      row = row-tree (records c.args.store.now) c.loop-level.level c.in-Some.up
          (here g c c.requires.named.0 c.requires.named.1).child.tree;
      whole = ap (λ (n : ℕ × ℕ). n.1) (size-below (records c.args.store.now) c.loop-level.level c.in-Some.up
          (here g c c.requires.named.0 c.requires.named.1).child.tree);
      within =
          let less = slice_get_within (kids m c.in-Some.up) c.slot-slot.result c.loop-level.at
          (here g c c.requires.named.0 c.requires.named.1).child.at in omega arith;
      fits =
          let k = c.requires.named.0 in let at = c.requires.named.1 in let offset = (here g c k at).offset in
          let sum = (c.loop-level.invariant.begins k at).2 in let fits = c.requires.fits.characters in
          let most = first-characters k (lines_in m c.args.height c.args.root) in omega arith;
    }

pub overflow_add-start : goal.overflow_add-start
overflow_add-start g c = let m = records c.args.store.now in
    let k = c.requires.named.0 in let at = c.requires.named.1 in
    let offset = (here g (goal.at.overflow_add-start g c).After-characters_ahead-arg-1 k at).offset in
    let sum = (c.loop-level.invariant.begins k at).2 in let fits = c.requires.fits.characters in
    let most = first-characters k (lines_in m c.args.height c.args.root) in
    let value = c.characters_ahead-start.ensures in omega arith

pub loop-level-preserved : goal.loop-level-preserved
loop-level-preserved g c = let m = records c.args.store.now in
    let value = c.characters_ahead-start.ensures in
    record {
      begins = λ k at.
          let up = here g (goal.at.loop-level-preserved g c).After-characters_ahead-arg-1 k at in
          let offset = up.offset in let sum = (c.loop-level.invariant.begins k at).2 in
          (up.base, next m c.args.height c.loop-level.level c.args.root c.in-Some.up up.base up.begins, omega arith);
    }
