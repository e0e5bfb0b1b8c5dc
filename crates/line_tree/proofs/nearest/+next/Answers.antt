use Rattle.line_tree.proofs.Common.{◌≡◌, ◌+◌, ◌-◌, suc, sym, ap, ◌∙◌, subst, arith, None, Some, contents, kids}
use Rattle.line_tree.proofs.Common.{lines_at, lines_in, records, next_line, FailFrom, passes, shows}
use Rattle.line_tree.proofs.NearestLaws.{child-is, child-within, found-within, line-next, long, next-end, next-hit}
use Rattle.line_tree.proofs.NearestLaws.{next-missed, none-next, past-next}
use Rattle.line_tree.proofs.RowLaws.{child_is, lines_is, none_of, said, step_no, step_yes}
use Rattle.line_tree.proofs.TreeLaws.{count-tree, named-tree, row-above, sum-tree}
use Rattle.line_tree.proofs.nearest.+next.Goals.{else-rest-lines, in-Some, in_default}
use Rattle.line_tree.proofs.nearest.+next.Goals.{then-rest-lines+then-is_in+else-height-eq1+in_default-next}
use Rattle.line_tree.proofs.nearest.+next.Goals.{else-rest-lines-via-else-rest-lines}
use Rattle.line_tree.proofs.nearest.+next.Goals.{else-rest-lines-via-then-rest-lines+else-is_in}
use Rattle.line_tree.proofs.nearest.+next.Goals.{then-from-lines-via-then-from-lines}
use Rattle.line_tree.proofs.nearest.+next.Goals.{then-from-lines-via-else-from-lines+then-not-is_in}
use Rattle.line_tree.proofs.nearest.+next.Goals as goal

pub lines-requires : goal.lines-requires
lines-requires g t c = named-tree (records c.args.store.now) c.args.height c.args.node c.requires.tree

pub is_in-requires-clause-named : goal.is_in-requires-clause-named
is_in-requires-clause-named g t c = named-tree (records c.args.store.now) c.args.height c.args.node c.requires.tree

pub child-requires-clause-name : goal.child-requires-clause-name
child-requires-clause-name g t c = named-tree (records c.args.store.now) c.args.height c.args.node c.requires.tree

pub returns-then-from-lines : goal.returns-then-from-lines
returns-then-from-lines g t c = let m = records c.args.store.now in let h = c.args.height in let p = c.args.node in
    let ls = lines_in m h p in
    let n = lines_is m p c.lines.result (named-tree m h p c.requires.tree) c.lines.ensures.value in
    elim c.then-from-lines.branch [
      | then-from-lines-via-then-from-lines w ↦
          let count = count-tree m h p c.requires.tree in let test = w.if-from-lines.true in
          sym (past-next c.args.wanted c.args.from ls (omega arith))
      | then-from-lines-via-else-from-lines+then-not-is_in w ↦
          let s = said (shows c.args.wanted) m p w.is_in.result (named-tree m h p c.requires.tree) w.is_in.ensures in
          sym (none-next c.args.wanted c.args.from ls
          (sym (s ∙ ap (shows c.args.wanted) (sum-tree m h p c.requires.tree)) ∙ w.if-not-is_in.true))
    ]

pub returns-then-height-eq0 : goal.returns-then-height-eq0
returns-then-height-eq0 g t c = let m = records c.args.store.now in let h = c.args.height in let p = c.args.node in
    let s = said (shows c.args.wanted) m p c.is_in.result (named-tree m h p c.requires.tree) c.is_in.ensures in
    let n = lines_is m p c.lines.result (named-tree m h p c.requires.tree) c.lines.ensures.value in
    let count = count-tree m h p c.requires.tree in let test = c.if-from-lines.false in
    sym (line-next m h p c.args.wanted c.args.from c.if-height-eq0.true (omega arith)
    (sym (s ∙ ap (shows c.args.wanted) (sum-tree m h p c.requires.tree)) ∙ c.if-not-is_in.false))

pub next-requires : goal.next-requires
next-requires g t c κs inside = let m = records c.args.store.now in let h = c.args.height in let p = c.args.node in
    let n = h - 1 in let not = c.if-height-eq0.false in
    let e : h ≡ suc n = omega arith in
    let here = sym (child_is m p (row-above m h n p e c.requires.tree) c.child.result c.loop-slot.slot
    c.child.ensures.value) ∙ c.in-Some.is in
    let inside_of = child-within m h n p c.loop-slot.slot c.loop-slot.before e c.requires.tree
    c.loop-slot.invariant.before c.in-Some.child here in let fits = c.requires.fits in (
      omega (arith, c.decreases),
      (
        inside,
        (
          child-is m h n p c.loop-slot.slot c.loop-slot.before e c.requires.tree c.loop-slot.invariant.before
              c.in-Some.child here,
          (omega arith, c.requires.known),
        ),
      ),
    )

pub lines-lines-requires : goal.lines-lines-requires
lines-lines-requires g t c = let m = records c.args.store.now in let h = c.args.height in let p = c.args.node in
    let n = h - 1 in let not = c.if-height-eq0.false in
    let e : h ≡ suc n = omega arith in
    let row = row-above m h n p e c.requires.tree in
    row.each c.loop-slot.slot c.in-Some.child
    (sym (child_is m p row c.child.result c.loop-slot.slot c.child.ensures.value) ∙ c.in-Some.is)

pub is_in-requires-then-rest-lines-clause-named : goal.is_in-requires-then-rest-lines-clause-named
is_in-requires-then-rest-lines-clause-named g t c = let m = records c.args.store.now in let h = c.args.height in
    let p = c.args.node in let n = h - 1 in let not = c.if-height-eq0.false in
    let e : h ≡ suc n = omega arith in
    let row = row-above m h n p e c.requires.tree in
    row.each c.loop-slot.slot c.in-Some.child
    (sym (child_is m p row c.child.result c.loop-slot.slot c.child.ensures.value) ∙ c.in-Some.is)

pub overflow_add-result : goal.overflow_add-result
overflow_add-result g t c = let m = records c.args.store.now in let h = c.args.height in let p = c.args.node in
    let n = h - 1 in let not = c.if-height-eq0.false in
    let e : h ≡ suc n = omega arith in
    let here = sym (child_is m p (row-above m h n p e c.requires.tree) c.child.result c.loop-slot.slot
    c.child.ensures.value) ∙ c.in-Some.is in
    let inside = child-within m h n p c.loop-slot.slot c.loop-slot.before e c.requires.tree c.loop-slot.invariant.before
    c.in-Some.child here in let fits = c.requires.fits in
    let xs = lines_in m n c.in-Some.child in let s = long xs in
    let less = found-within (passes c.args.wanted) c.saturating_sub-rest.result c.in-Some-next.found (contents xs)
    (sym c.next.ensures ∙ c.in-Some-next.is) in omega arith

pub overflow_add-before : goal.overflow_add-before
overflow_add-before g t c = let m = records c.args.store.now in let h = c.args.height in let p = c.args.node in
    let n = h - 1 in let not = c.if-height-eq0.false in
    let e : h ≡ suc n = omega arith in
    let row = row-above m h n p e c.requires.tree in
    let here = sym (child_is m p row c.child.result c.loop-slot.slot c.child.ensures.value) ∙ c.in-Some.is in
    let inside = child-within m h n p c.loop-slot.slot c.loop-slot.before e c.requires.tree c.loop-slot.invariant.before
    c.in-Some.child here in let fits = c.requires.fits in
    let count = count-tree m n c.in-Some.child
    (child-is m h n p c.loop-slot.slot c.loop-slot.before e c.requires.tree c.loop-slot.invariant.before
    c.in-Some.child here) in
    let s = lines_is m c.in-Some.child c.lines-lines.result (row.each c.loop-slot.slot c.in-Some.child here)
    c.lines-lines.ensures.value in omega arith

pub returns-then-height-eq1 : goal.returns-then-height-eq1
returns-then-height-eq1 g t c = let m = records c.args.store.now in let h = c.args.height in let p = c.args.node in
    let n = h - 1 in let not = c.if-height-eq0.false in
    let i = c.loop-slot.slot in let b = c.loop-slot.before in let w = c.args.wanted in let q = c.in-Some.child in
    let e : h ≡ suc n = omega arith in
    let low : n ≡ 0 = omega (arith, c.if-height-eq1.true) in
    let row = row-above m h n p e c.requires.tree in
    let here = sym (child_is m p row c.child.result i c.child.ensures.value) ∙ c.in-Some.is in
    let tree = child-is m h n p i b e c.requires.tree c.loop-slot.invariant.before q here in
    let s = lines_is m q c.lines-lines.result (row.each i q here) c.lines-lines.ensures.value in
    let count = count-tree m n q tree in let rest = c.saturating_sub-rest.ensures in let test = c.if-rest-lines.true in
    let shown = said (shows w) m q c.is_in-then-rest-lines.result (row.each i q here) c.is_in-then-rest-lines.ensures in
    let found = line-next m n q w (c.args.from - b) low (omega arith)
    (sym (shown ∙ ap (shows w) (sum-tree m n q tree)) ∙ c.if-is_in.true) in
    let first : b ≡ b + 0 = omega arith in
    ap (λ k. Some k) first ∙ sym (next-hit m h n p i b e c.requires.tree c.loop-slot.invariant.before q here w
    c.args.from 0 c.loop-slot.invariant.free found)

pub returns-in-Some-next : goal.returns-in-Some-next
returns-in-Some-next g t c = let m = records c.args.store.now in let h = c.args.height in let p = c.args.node in
    let n = h - 1 in let not = c.if-height-eq0.false in
    let e : h ≡ suc n = omega arith in
    let here = sym (child_is m p (row-above m h n p e c.requires.tree) c.child.result c.loop-slot.slot
    c.child.ensures.value) ∙ c.in-Some.is in
    let xs = lines_in m n c.in-Some.child in
    let asked = c.next.ensures ∙ ap (λ r. next_line (passes c.args.wanted) r (contents xs))
    c.saturating_sub-rest.ensures in
    sym (next-hit m h n p c.loop-slot.slot c.loop-slot.before e c.requires.tree c.loop-slot.invariant.before
    c.in-Some.child here c.args.wanted c.args.from c.in-Some-next.found c.loop-slot.invariant.free (sym asked
    ∙ c.in-Some-next.is))

pub loop-slot-preserved : goal.loop-slot-preserved
loop-slot-preserved g t c = let m = records c.args.store.now in let h = c.args.height in let p = c.args.node in
    let n = h - 1 in let not = c.if-height-eq0.false in
    let i = c.loop-slot.slot in let b = c.loop-slot.before in let w = c.args.wanted in let from = c.args.from in
    let e : h ≡ suc n = omega arith in
    let row = row-above m h n p e c.requires.tree in
    let child = child_is m p row c.child.result i c.child.ensures.value in
    let before = c.loop-slot.invariant.before in
    elim c.match-child.branch [
      | in-Some v ↦
          let here = sym child ∙ v.in-Some.is in
          let xs = lines_in m n v.in-Some.child in
          let s = lines_is m v.in-Some.child v.lines-lines.result (row.each i v.in-Some.child here)
          v.lines-lines.ensures.value in
          let count = count-tree m n v.in-Some.child
          (child-is m h n p i b e c.requires.tree before v.in-Some.child here) in
          let rest = v.saturating_sub-rest.ensures in
          let none : next_line (passes w) (from - b) (contents xs) ≡ None = elim v.if-rest-lines.branch [
            | then-rest-lines+then-is_in+else-height-eq1+in_default-next u ↦
                ap (λ r. next_line (passes w) r (contents xs)) (sym rest) ∙ sym u.next.ensures
                ∙ none_of u.next.result u.in_default-next.not-Some
            | else-rest-lines u ↦ elim u.else-rest-lines.branch [
              | else-rest-lines-via-then-rest-lines+else-is_in x ↦
                  let tree = child-is m h n p i b e c.requires.tree before v.in-Some.child here in
                  let shown = said (shows w) m v.in-Some.child x.is_in-then-rest-lines.result
                  (row.each i v.in-Some.child here) x.is_in-then-rest-lines.ensures in
                  none-next w (from - b) xs
                  (sym (shown ∙ ap (shows w) (sum-tree m n v.in-Some.child tree)) ∙ x.if-is_in.false)
              | else-rest-lines-via-else-rest-lines x ↦
                  let test = x.if-rest-lines.false in past-next w (from - b) xs (omega arith)
            ]
          ] in
          let more = step_yes (lines_at m) (kids m p) i v.in-Some.child here in
          let now = v.before-is in
          let end : b + lines_at m v.in-Some.child ≡ c.match-child.before = omega arith in
          record {
            before = omega arith;
            free = subst (λ z. FailFrom (passes w) (contents (lines_in m h p)) from z) end
                (next-missed m h n p i b e c.requires.tree before v.in-Some.child here w from c.loop-slot.invariant.free
                none);
          }
      | in_default v ↦
          let none = sym child ∙ none_of c.child.result v.in_default.not-Some in
          let same = step_no (lines_at m) (kids m p) i none in
          let now = v.before-is in
          record {
            before = omega arith;
            free = subst (λ z. FailFrom (passes w) (contents (lines_in m h p)) from z) (sym now)
                c.loop-slot.invariant.free;
          }
    ]

pub returns : goal.returns
returns g t c = let m = records c.args.store.now in let h = c.args.height in let p = c.args.node in let n = h - 1 in
    let not = c.if-height-eq0.false in
    let e : h ≡ suc n = omega arith in
    sym (next-end m h n p c.loop-slot.slot c.loop-slot.before e c.requires.tree c.loop-slot.invariant.before
    c.args.wanted c.args.from (omega (arith, c.loop-slot-test.false)) c.loop-slot.invariant.free)
