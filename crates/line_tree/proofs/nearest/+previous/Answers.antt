use Rattle.line_tree.proofs.Common.{◌≡◌, ℕ, ◌+◌, ◌-◌, suc, min, sym, ap, ◌∙◌, subst, arith, slice_get, None, Some}
use Rattle.line_tree.proofs.Common.{IsTree, lines_at, lines_in, NodePtr, Records, contents, kids, records}
use Rattle.line_tree.proofs.Common.{previous_line, FailFrom, passes, shows, lines_before, Wanted}
use Rattle.line_tree.proofs.NearestLaws.{Reaches, child-is, first-previous, last-before, line-previous, none-previous}
use Rattle.line_tree.proofs.NearestLaws.{previous-end, previous-hit, previous-missed, reaches}
use Rattle.line_tree.proofs.RowLaws.{child_is, lines_is, none_of, said, step_no, step_yes}
use Rattle.line_tree.proofs.TreeLaws.{count-tree, named-tree, row-above, sum-tree}
use Rattle.line_tree.proofs.nearest.+previous.Given.{Over}
use Rattle.line_tree.proofs.nearest.+previous.Goals.{After-min-rest, else-rest-gt0-via-else-rest-gt0}
use Rattle.line_tree.proofs.nearest.+previous.Goals.{else-rest-gt0-via-then-rest-gt0+else-is_in}
use Rattle.line_tree.proofs.nearest.+previous.Goals.{then-to-eq0-via-then-to-eq0}
use Rattle.line_tree.proofs.nearest.+previous.Goals.{then-to-eq0-via-else-to-eq0+then-not-is_in}
use Rattle.line_tree.proofs.nearest.+previous.Goals as goal

pub is_in-requires-clause-named : goal.is_in-requires-clause-named
is_in-requires-clause-named g t c = named-tree (records c.args.store.now) c.args.height c.args.node c.requires.tree

pub child-requires-clause-name : goal.child-requires-clause-name
child-requires-clause-name g t c = named-tree (records c.args.store.now) c.args.height c.args.node c.requires.tree

pub returns-then-to-eq0 : goal.returns-then-to-eq0
returns-then-to-eq0 g t c = let m = records c.args.store.now in let h = c.args.height in let p = c.args.node in
    let ls = lines_in m h p in
    elim c.then-to-eq0.branch [
      | then-to-eq0-via-then-to-eq0 w ↦ sym (first-previous c.args.wanted c.args.to ls w.if-to-eq0.true)
      | then-to-eq0-via-else-to-eq0+then-not-is_in w ↦
          let s = said (shows c.args.wanted) m p w.is_in.result (named-tree m h p c.requires.tree) w.is_in.ensures in
          sym (none-previous c.args.wanted c.args.to ls c.requires.within
          (sym (s ∙ ap (shows c.args.wanted) (sum-tree m h p c.requires.tree)) ∙ w.if-not-is_in.true))
    ]

pub returns-then-height-eq0 : goal.returns-then-height-eq0
returns-then-height-eq0 g t c = let m = records c.args.store.now in let h = c.args.height in let p = c.args.node in
    let s = said (shows c.args.wanted) m p c.is_in.result (named-tree m h p c.requires.tree) c.is_in.ensures in
    let not = c.if-to-eq0.false in
    sym (line-previous m h p c.args.wanted c.args.to c.if-height-eq0.true (omega arith) c.requires.within
    (sym (s ∙ ap (shows c.args.wanted) (sum-tree m h p c.requires.tree)) ∙ c.if-not-is_in.false))

pub loop-slot-init : goal.loop-slot-init
loop-slot-init g t c = let m = records c.args.store.now in let h = c.args.height in let p = c.args.node in
    let n = h - 1 in let not = c.if-height-eq0.false in
    let e : h ≡ suc n = omega arith in
    let s = lines_is m p c.lines-before.result (named-tree m h p c.requires.tree) c.lines-before.ensures.value in
    let count = count-tree m h p c.requires.tree in let within = c.requires.within in
    record {
      few = omega arith;
      before = s ∙ last-before m h n p e c.requires.tree;
      free = λ j more less. absurd (omega arith);
    }

pub lines-lines-requires : goal.lines-lines-requires
lines-lines-requires g t c = let m = records c.args.store.now in let h = c.args.height in let p = c.args.node in
    let n = h - 1 in let not = c.if-height-eq0.false in
    let e : h ≡ suc n = omega arith in
    let row = row-above m h n p e c.requires.tree in
    row.each (c.loop-slot.slot - 1) c.in-Some.child
    (sym (child_is m p row c.child.result (c.loop-slot.slot - 1) c.child.ensures.value) ∙ c.in-Some.is)

pub lines-before-requires : goal.lines-before-requires
lines-before-requires g t c = named-tree (records c.args.store.now) c.args.height c.args.node c.requires.tree

pub overflow_sub-before : goal.overflow_sub-before
overflow_sub-before g t c = let m = records c.args.store.now in let h = c.args.height in let p = c.args.node in
    let n = h - 1 in let not = c.if-height-eq0.false in
    let e : h ≡ suc n = omega arith in let i = c.loop-slot.slot - 1 in
    let row = row-above m h n p e c.requires.tree in
    let here = sym (child_is m p row c.child.result i c.child.ensures.value) ∙ c.in-Some.is in
    let s = lines_is m c.in-Some.child c.lines-lines.result (row.each i c.in-Some.child here)
    c.lines-lines.ensures.value in
    let some : i + 1 ≡ c.loop-slot.slot = omega (arith, c.loop-slot-test.true) in
    let more = step_yes (lines_at m) (kids m p) i c.in-Some.child here in
    let before = c.loop-slot.invariant.before ∙ ap (lines_before m p) (sym some) in omega arith

-- the child before the slot, and how much of it is asked
record Asked (m : Records) (h : ℕ) (p : NodePtr) (w : Wanted) (to i b : ℕ) (x : NodePtr) (rest : ℕ) : Type 0 where
  above : h ≡ suc (h - 1)
  here : slice_get (kids m p) i ≡ Some x
  tree : IsTree m (h - 1) x
  before : b ≡ lines_before m p i
  reach : Reaches to b (lines_at m x) rest
  free : FailFrom (passes w) (contents (lines_in m h p)) (b + lines_at m x) to

asked : (g : Over) (t : ℕ) (c : After-min-rest g t) →
    Asked (records c.args.store.now) c.args.height c.args.node c.args.wanted c.args.to (c.loop-slot.slot - 1)
    (c.loop-slot.before - c.lines-lines.result) c.in-Some.child c.min-rest.result
asked g t c = let m = records c.args.store.now in let h = c.args.height in let p = c.args.node in
    let n = h - 1 in let not = c.if-height-eq0.false in
    let e : h ≡ suc n = omega arith in let i = c.loop-slot.slot - 1 in
    let row = row-above m h n p e c.requires.tree in
    let here = sym (child_is m p row c.child.result i c.child.ensures.value) ∙ c.in-Some.is in
    let s = lines_is m c.in-Some.child c.lines-lines.result (row.each i c.in-Some.child here)
    c.lines-lines.ensures.value in
    let some : i + 1 ≡ c.loop-slot.slot = omega (arith, c.loop-slot-test.true) in
    let more = step_yes (lines_at m) (kids m p) i c.in-Some.child here in
    let old = c.loop-slot.invariant.before ∙ ap (lines_before m p) (sym some) in
    let b = c.loop-slot.before - c.lines-lines.result in
    let before : b ≡ lines_before m p i = omega arith in
    let same : c.loop-slot.before ≡ b + lines_at m c.in-Some.child = omega arith in
    record {
      above = e;
      here = here;
      tree = child-is m h n p i b e c.requires.tree before c.in-Some.child here;
      before = before;
      reach = reaches c.args.to b (lines_at m c.in-Some.child) c.saturating_sub.result c.min-rest.result
          c.saturating_sub.ensures (c.min-rest.ensures ∙ ap (min c.saturating_sub.result) s);
      free = subst (λ z. FailFrom (passes c.args.wanted) (contents (lines_in m h p)) z c.args.to) same
          c.loop-slot.invariant.free;
    }

pub previous-requires : goal.previous-requires
previous-requires g t c κs inside = let m = records c.args.store.now in let n = c.args.height - 1 in
    let a = asked g t (goal.at.previous-requires g t c).After-min-rest in let not = c.if-height-eq0.false in
    let count = count-tree m n c.in-Some.child a.tree in let within = a.reach.inside in
    (omega (arith, c.decreases), (inside, (a.tree, (omega arith, c.requires.known))))

pub is_in-requires-then-rest-gt0-clause-named : goal.is_in-requires-then-rest-gt0-clause-named
is_in-requires-then-rest-gt0-clause-named g t c = named-tree (records c.args.store.now) (c.args.height - 1)
    c.in-Some.child (asked g t (goal.at.is_in-requires-then-rest-gt0-clause-named g t c).After-min-rest).tree

pub returns-then-height-eq1 : goal.returns-then-height-eq1
returns-then-height-eq1 g t c = let m = records c.args.store.now in let h = c.args.height in let n = h - 1 in
    let x = c.in-Some.child in let w = c.args.wanted in let b = c.loop-slot.before - c.lines-lines.result in
    let a = asked g t (goal.at.returns-then-height-eq1 g t c).After-min-rest in
    let count = count-tree m n x a.tree in let within = a.reach.inside in
    let low : n ≡ 0 = omega (arith, c.if-height-eq1.true) in
    let shown = said (shows w) m x c.is_in-then-rest-gt0.result (named-tree m n x a.tree)
    c.is_in-then-rest-gt0.ensures in
    let found = line-previous m n x w c.min-rest.result low (omega (arith, c.if-rest-gt0.true)) (omega arith)
    (sym (shown ∙ ap (shows w) (sum-tree m n x a.tree)) ∙ c.if-is_in.true) in
    let first : b ≡ b + 0 = omega arith in
    ap (λ k. Some k) first ∙ sym (previous-hit m h n c.args.node (c.loop-slot.slot - 1) b a.above c.requires.tree
    a.before x a.here w c.args.to c.min-rest.result 0 a.reach c.requires.within a.free found)

pub returns-in-Some-previous : goal.returns-in-Some-previous
returns-in-Some-previous g t c = let h = c.args.height in
    let a = asked g t (goal.at.returns-in-Some-previous g t c).After-min-rest in
    sym (previous-hit (records c.args.store.now) h (h - 1) c.args.node (c.loop-slot.slot - 1)
    (c.loop-slot.before - c.lines-lines.result) a.above c.requires.tree a.before c.in-Some.child a.here c.args.wanted
    c.args.to c.min-rest.result c.in-Some-previous.found a.reach c.requires.within a.free
    (sym c.previous.ensures ∙ c.in-Some-previous.is))

pub loop-slot-preserved-then-is_in : goal.loop-slot-preserved-then-is_in
loop-slot-preserved-then-is_in g t c = let h = c.args.height in
    let a = asked g t (goal.at.loop-slot-preserved-then-is_in g t c).After-min-rest in
    let few = c.loop-slot.invariant.few in let more = c.loop-slot-test.true in
    record {
      few = omega arith;
      before = a.before;
      free = previous-missed (records c.args.store.now) h (h - 1) c.args.node (c.loop-slot.slot - 1)
          (c.loop-slot.before - c.lines-lines.result) a.above c.requires.tree a.before c.in-Some.child a.here
          c.args.wanted c.args.to c.min-rest.result a.reach a.free
          (sym c.previous.ensures ∙ none_of c.previous.result c.in_default-previous.not-Some);
    }

pub loop-slot-preserved-else-rest-gt0 : goal.loop-slot-preserved-else-rest-gt0
loop-slot-preserved-else-rest-gt0 g t c = let m = records c.args.store.now in let h = c.args.height in
    let n = h - 1 in let x = c.in-Some.child in
    let a = asked g t (goal.at.loop-slot-preserved-else-rest-gt0 g t c).After-min-rest in
    let few = c.loop-slot.invariant.few in let more = c.loop-slot-test.true in
    let none : previous_line (passes c.args.wanted) c.min-rest.result (contents (lines_in m n x)) ≡ None =
    elim c.else-rest-gt0.branch [
      | else-rest-gt0-via-then-rest-gt0+else-is_in w ↦
          let count = count-tree m n x a.tree in let within = a.reach.inside in
          let shown = said (shows c.args.wanted) m x w.is_in-then-rest-gt0.result (named-tree m n x a.tree)
          w.is_in-then-rest-gt0.ensures in
          none-previous c.args.wanted c.min-rest.result (lines_in m n x) (omega arith)
          (sym (shown ∙ ap (shows c.args.wanted) (sum-tree m n x a.tree)) ∙ w.if-is_in.false)
      | else-rest-gt0-via-else-rest-gt0 w ↦
          let none : c.min-rest.result ≡ 0 = omega (arith, w.if-rest-gt0.false) in
          first-previous c.args.wanted c.min-rest.result (lines_in m n x) none
    ] in
    record {
      few = omega arith;
      before = a.before;
      free = previous-missed m h n c.args.node (c.loop-slot.slot - 1) (c.loop-slot.before - c.lines-lines.result) a.above
          c.requires.tree a.before x a.here c.args.wanted c.args.to c.min-rest.result a.reach a.free none;
    }

pub loop-slot-preserved : goal.loop-slot-preserved
loop-slot-preserved g t c = let m = records c.args.store.now in let h = c.args.height in let p = c.args.node in
    let n = h - 1 in let not = c.if-height-eq0.false in
    let e : h ≡ suc n = omega arith in let i = c.loop-slot.slot - 1 in
    let row = row-above m h n p e c.requires.tree in
    let none = sym (child_is m p row c.child.result i c.child.ensures.value)
    ∙ none_of c.child.result c.in_default.not-Some in
    let some : i + 1 ≡ c.loop-slot.slot = omega (arith, c.loop-slot-test.true) in
    let few = c.loop-slot.invariant.few in
    record {
      few = omega arith;
      before = c.loop-slot.invariant.before ∙ ap (lines_before m p) (sym some) ∙ step_no (lines_at m) (kids m p) i none;
      free = c.loop-slot.invariant.free;
    }

pub returns : goal.returns
returns g t c = let m = records c.args.store.now in let h = c.args.height in let p = c.args.node in let n = h - 1 in
    let not = c.if-height-eq0.false in
    let e : h ≡ suc n = omega arith in let first : c.loop-slot.slot ≡ 0 = omega (arith, c.loop-slot-test.false) in
    sym (previous-end m h n p c.loop-slot.slot c.loop-slot.before e c.requires.tree c.loop-slot.invariant.before
    c.args.wanted c.args.to first c.requires.within c.loop-slot.invariant.free)
