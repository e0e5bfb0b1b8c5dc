use Rattle.line_tree.proofs.Common.{◌≡◌, ℕ, suc, ◌+◌, ◌-◌, ◌<◌, List, ◌++◌, take, drop, refl, sym, ap, ◌∙◌, subst}
use Rattle.line_tree.proofs.Common.{arith, slice_get_within, NodePtr, Records, kids, kids_of, records, Leads, CanRaise}
use Rattle.line_tree.proofs.Common.{CanTakeRow, TakesRow, Found}
use Rattle.line_tree.proofs.TakeRowLaws.{can-child, low-can, low-takes, low-within, node-same, slots-now, slots-of-row}
use Rattle.line_tree.proofs.TakeRowLaws.{some-kids, up-can, up-takes, within-kids}
use Rattle.line_tree.proofs.TreeLaws.{row-tree, whole-below}
use Rattle.std.specs.FinMap as finite
use Rattle.line_tree.proofs.put_row.+put_row.Goals as goal

-- the height as one more than another
above : (m : Records) (h : ℕ) (p : NodePtr) (k : ℕ) (xs : List NodePtr) → CanTakeRow m h p k xs → 0 < h →
    CanTakeRow m (suc (h - 1)) p k xs
above m h p k xs can some = let e : h ≡ suc (h - 1) = omega arith in subst (λ j. CanTakeRow m j p k xs) e can

back : (m n : Records) (h : ℕ) (p : NodePtr) (k : ℕ) (xs ps : List NodePtr) → 0 < h →
    TakesRow m n (suc (h - 1)) p k xs ps → TakesRow m n h p k xs ps
back m n h p k xs ps some takes =
    let e : suc (h - 1) ≡ h = omega arith in subst (λ j. TakesRow m n j p k xs ps) e takes

-- the children, with these in the place of one
listed : (m l : Records) (p : NodePtr) (i : ℕ) (ys : List NodePtr) → finite.get l p ≡ finite.get m p →
    take i (kids m p) ++ (ys ++ drop (suc i) (kids m p)) ≡ take i (kids l p) ++ (ys ++ drop (i + 1) (kids l p))
listed m l p i ys same = let e : suc i ≡ i + 1 = omega arith in
    ap (λ o. take i (kids_of o) ++ (ys ++ drop (suc i) (kids_of o))) (sym same)
    ∙ ap (λ j. take i (kids l p) ++ (ys ++ drop j (kids l p))) e

few-kids : (m : Records) (h : ℕ) (p : NodePtr) (k : ℕ) (xs : List NodePtr) → CanTakeRow m (suc h) p k xs → (f : Found) →
    Leads m p k f → f.slot < 12
few-kids m h p k xs can f leads = let w = slice_get_within (kids m p) f.slot f.child leads.child in
    let few = (row-tree m h p can.tree).few in omega arith

-- ---- at the lowest level
low : (m : Records) (h : ℕ) (p : NodePtr) (k : ℕ) (xs : List NodePtr) → CanTakeRow m h p k xs → h ≡ 1 →
    CanTakeRow m 1 p k xs
low m h p k xs can e = subst (λ j. CanTakeRow m j p k xs) e can

pub remake-requires-clause-row : goal.remake-requires-clause-row
remake-requires-clause-row g t c = let m = records c.args.store.now in let p = c.args.branch.node in
    slots-of-row m m p (row-tree m 0 p
    (low m c.args.branch.height p c.args.k c.args.row.now.items c.requires.take c.if-branch-eq1.true).tree) refl

pub remake-requires-clause-gap : goal.remake-requires-clause-gap
remake-requires-clause-gap g t c =
    let m = records c.args.store.now in let p = c.args.branch.node in
    let can = low m c.args.branch.height p c.args.k c.args.row.now.items c.requires.take c.if-branch-eq1.true in
    let a = low-within m p c.args.k c.args.row.now.items can in let few = (row-tree m 0 p can.tree).few in
    (omega arith, omega arith)

pub remake-requires-clause-raise : goal.remake-requires-clause-raise
remake-requires-clause-raise g t c =
    let m = records c.args.store.now in let p = c.args.branch.node in
    let can = low m c.args.branch.height p c.args.k c.args.row.now.items c.requires.take c.if-branch-eq1.true in
    (0, low-can m p c.args.k c.args.row.now.items can)

pub returns-then-branch-eq1-clause-takes : goal.returns-then-branch-eq1-clause-takes
returns-then-branch-eq1-clause-takes g t c =
    let m = records c.args.store.now in let p = c.args.branch.node in let xs = c.args.row.now.items in
    let n = records c.remake.new.store in let ps = c.remake.new.row.items in let k = c.args.k in
    let can = low m c.args.branch.height p k xs c.requires.take c.if-branch-eq1.true in
    let all = take k (kids m p) ++ (xs ++ drop k (kids m p)) in
    subst (λ h. TakesRow m n h p k xs ps) (sym c.if-branch-eq1.true)
    (low-takes m p k xs can n ps (c.remake.ensures.raises 0 all refl (low-can m p k xs can))
    (c.remake.ensures.ends all refl))

-- ---- above it
pub lead-found-requires : goal.lead-found-requires
lead-found-requires g t c = let m = records c.args.store.now in let p = c.args.branch.node in let k = c.args.k in
    let n = c.args.branch.height - 1 in let xs = c.args.row.now.items in
    let can = above m c.args.branch.height p k xs c.requires.take c.requires.node in
    record {
      row = row-tree m n p can.tree;
      some = some-kids m n p k xs can;
      within = within-kids m n p k xs can;
      whole = whole-below m n p can.tree;
    }

pub put_row-requires : goal.put_row-requires
put_row-requires g t c κs within =
    let m = records c.args.store.now in let p = c.args.branch.node in let xs = c.args.row.now.items in
    let node = c.requires.node in let spares = c.requires.spares in let rooms = c.requires.rooms in
    let not = c.if-branch-eq1.false in (
      omega (arith, c.decreases),
      (
        within,
        (
          omega arith,
          (
            can-child m (c.args.branch.height - 1) p c.args.k xs
                (above m c.args.branch.height p c.args.k xs c.requires.take node) c.lead-found.result
                c.lead-found.ensures,
            (omega arith, (omega arith, (c.requires.slots, (c.requires.names, c.requires.two)))),
          ),
        ),
      ),
    )

pub overflow_add-gap : goal.overflow_add-gap
overflow_add-gap g t c =
    let few = few-kids (records c.args.store.now) (c.args.branch.height - 1) c.args.branch.node c.args.k
    c.args.row.now.items
    (above (records c.args.store.now) c.args.branch.height c.args.branch.node c.args.k c.args.row.now.items c.requires.take
    c.requires.node) c.lead-found.result c.lead-found.ensures in omega arith

pub remake-requires-2-clause-gap : goal.remake-requires-2-clause-gap
remake-requires-2-clause-gap g t c =
    let few = few-kids (records c.args.store.now) (c.args.branch.height - 1) c.args.branch.node c.args.k
    c.args.row.now.items
    (above (records c.args.store.now) c.args.branch.height c.args.branch.node c.args.k c.args.row.now.items c.requires.take
    c.requires.node) c.lead-found.result c.lead-found.ensures in (omega arith, omega arith)

pub remake-requires-2-clause-row : goal.remake-requires-2-clause-row
remake-requires-2-clause-row g t c =
    let m = records c.args.store.now in let p = c.args.branch.node in let xs = c.args.row.now.items in
    slots-now m (c.args.branch.height - 1) p c.args.k xs
    (above m c.args.branch.height p c.args.k xs c.requires.take c.requires.node) c.lead-found.result c.lead-found.ensures
    (records c.put_row.new.store) c.put_row.new.row.items c.put_row.ensures.takes

pub remake-requires-2-clause-raise : goal.remake-requires-2-clause-raise
remake-requires-2-clause-raise g t c =
    let m = records c.args.store.now in let p = c.args.branch.node in let xs = c.args.row.now.items in
    let h = c.args.branch.height - 1 in let l = records c.put_row.new.store in let ys = c.put_row.new.row.items in
    let can = above m c.args.branch.height p c.args.k xs c.requires.take c.requires.node in
    let f = c.lead-found.result in let leads = c.lead-found.ensures in let takes = c.put_row.ensures.takes in (
      h,
      subst (CanRaise (finite.remove l p) h)
          (listed m l p f.slot ys (node-same m h p c.args.k xs can f leads l ys takes))
          (up-can m h p c.args.k xs can f leads l ys takes),
    )

pub returns-clause-takes : goal.returns-clause-takes
returns-clause-takes g t c =
    let m = records c.args.store.now in let p = c.args.branch.node in let xs = c.args.row.now.items in
    let h = c.args.branch.height - 1 in let l = records c.put_row.new.store in let ys = c.put_row.new.row.items in
    let can = above m c.args.branch.height p c.args.k xs c.requires.take c.requires.node in
    let f = c.lead-found.result in let leads = c.lead-found.ensures in let takes = c.put_row.ensures.takes in
    let n = records c.remake-2.new.store in let ps = c.remake-2.new.row.items in
    let all = take f.slot (kids m p) ++ (ys ++ drop (suc f.slot) (kids m p)) in
    let is = listed m l p f.slot ys (node-same m h p c.args.k xs can f leads l ys takes) in
    back m n c.args.branch.height p c.args.k xs ps c.requires.node
    (up-takes m h p c.args.k xs can f leads l ys takes n ps
    (c.remake-2.ensures.raises h all is (up-can m h p c.args.k xs can f leads l ys takes))
    (c.remake-2.ensures.ends all is))
