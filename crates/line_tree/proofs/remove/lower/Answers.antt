use Rattle.line_tree.proofs.Common.{◌≡◌, ℕ, ◌-◌, ◌<◌, suc, length, [], ◌∷◌, refl, sym, ap, ◌∙◌, subst, arith, None}
use Rattle.line_tree.proofs.Common.{IsSome, length-map, slice_get-get_or, IsBalancedRoot, NodePtr, Records, update}
use Rattle.line_tree.proofs.Common.{with_parent, kids, records, tree_at, len-update, named-update, HasRow, CanLower}
use Rattle.line_tree.proofs.Common.{Lowers}
use Rattle.line_tree.proofs.LowerLaws.{lowers-child, lowers-same, only-child}
use Rattle.line_tree.proofs.PutLaws.{count-row}
use Rattle.line_tree.proofs.RoomLaws.{len-gone}
use Rattle.line_tree.proofs.TreeLaws.{named-row, row-tree}
use Rattle.line_tree.proofs.UpdateLaws.{InnerIn, inner-row, inner-update, room-given}
use Rattle.std.specs.FinMap as finite
use Rattle.line_tree.proofs.remove.lower.Goals as goal

above : (m : Records) (h : ℕ) (r : NodePtr) → 0 < h → (h ≡ 1 → ⊥) → CanLower m h r → CanLower m (suc (suc (h - 2))) r
above m h r some more can = let e : h ≡ suc (suc (h - 2)) = omega arith in subst (λ j. CanLower m j r) e can

row-above : (m : Records) (h : ℕ) (r : NodePtr) → 0 < h → (h ≡ 1 → ⊥) → CanLower m h r → HasRow m r
row-above m h r some more can = row-tree m (suc (h - 2)) r (above m h r some more can).tree

-- two children at least
stays : (m : Records) (h : ℕ) (r : NodePtr) → 0 < h → (h ≡ 1 → ⊥) → CanLower m h r → 1 < length (kids m r) →
    IsBalancedRoot h (tree_at m h r)
stays m h r some more can two =
    let e : suc (suc (h - 2)) ≡ h = omega arith in let c = above m h r some more can in
    let n = length-map (kids m r) (tree_at m (suc (h - 2))) in
    let w = c.wide in subst (λ j. IsBalancedRoot j (tree_at m j r)) e (omega arith, w.1, w.2)

first : (m : Records) (h : ℕ) (r : NodePtr) → 0 < h → (h ≡ 1 → ⊥) → CanLower m h r → 0 < length (kids m r)
first m h r some more can = let c = above m h r some more can in
    let n = length-map (kids m r) (tree_at m (suc (h - 2))) in let w = c.wide.0 in omega arith

moved : (m : Records) (h : ℕ) (r c : NodePtr) → 0 < h → (h ≡ 1 → ⊥) → CanLower m h r → kids m r ≡ c ∷ [] →
    Lowers m (finite.remove (update m c (λ x. with_parent x None 0)) r) h r (h - 1) c
moved m h r c some more can only =
    let e : suc (suc (h - 2)) ≡ h = omega arith in let f : suc (h - 2) ≡ h - 1 = omega arith in
    let n = finite.remove (update m c (λ x. with_parent x None 0)) r in
    subst (λ j. Lowers m n h r j c) f (subst (λ j. Lowers m n j r (suc (h - 2)) c) e
    (lowers-child m (h - 2) r c (above m h r some more can) only))

pub returns-then-height-eq1-clause-lowers : goal.returns-then-height-eq1-clause-lowers
returns-then-height-eq1-clause-lowers g c = let m = records c.args.store.now in let r = c.args.root in
    subst (λ h. Lowers m m h r h r) (sym c.if-height-eq1.true)
    (let can = subst (λ h. CanLower m h r) c.if-height-eq1.true c.requires.lower in lowers-same m 1 r can can.wide)

pub returns-then-children-gt1-clause-lowers : goal.returns-then-children-gt1-clause-lowers
returns-then-children-gt1-clause-lowers g c = let m = records c.args.store.now in let r = c.args.root in
    let h = c.args.height in
    let n = count-row m r c.children.result (row-above m h r c.requires.positive c.if-height-eq1.false c.requires.lower)
    c.children.ensures in
    lowers-same m h r c.requires.lower (stays m h r c.requires.positive c.if-height-eq1.false c.requires.lower
    (omega (arith, c.if-children-gt1.true)))

pub kid-requires-clause-row : goal.kid-requires-clause-row
kid-requires-clause-row g c = row-above (records c.args.store.now) c.args.height c.args.root c.requires.positive
    c.if-height-eq1.false c.requires.lower

pub unwrap-child-requires : goal.unwrap-child-requires
unwrap-child-requires g c = let m = records c.args.store.now in let r = c.args.root in
    subst (λ o. IsSome o) (sym (c.kid.ensures
    ∙ slice_get-get_or (kids m r) 0 r (first m c.args.height r c.requires.positive c.if-height-eq1.false
    c.requires.lower))) refl

pub set_parent-requires : goal.set_parent-requires
set_parent-requires g c = let m = records c.args.store.now in let r = c.args.root in
    (row-above m c.args.height r c.requires.positive c.if-height-eq1.false c.requires.lower).each 0
    c.unwrap-child.result (sym c.kid.ensures ∙ c.unwrap-child.ensures)

pub give_back-requires : goal.give_back-requires
give_back-requires g c = let m = records c.args.store.now in let r = c.args.root in
    subst (λ n. IsSome (finite.get n r)) (sym c.set_parent.ensures.records)
    (named-update m c.unwrap-child.result (λ x. with_parent x None 0) r
    (named-row m r (row-above m c.args.height r c.requires.positive c.if-height-eq1.false c.requires.lower)))

pub returns : goal.returns
returns g c =
    let m = records c.args.store.now in let r = c.args.root in let h = c.args.height in let d = c.unwrap-child.result in
    let at = sym c.kid.ensures ∙ c.unwrap-child.ensures in let set = c.set_parent.ensures.records in
    let has = row-above m h r c.requires.positive c.if-height-eq1.false c.requires.lower in
    let s1 = c.set_parent.ensures.spares in let s2 = c.give_back.ensures.spares in
    record {
      lowers =
          let n = count-row m r c.children.result has c.children.ensures in
          let only = only-child (kids m r) d at (omega (arith, c.if-children-gt1.false)) in
          subst (λ z. Lowers m z h r (h - 1) d) (sym (c.give_back.ensures.records ∙ ap (λ z. finite.remove z r) set))
          (moved m h r d c.requires.positive c.if-height-eq1.false c.requires.lower only);
      spares = omega arith;
      rooms =
          let n = records c.set_parent.new.self in
          let inner = subst (λ z. InnerIn z r) (sym c.set_parent.ensures.records)
          (inner-update m d (λ x. with_parent x None 0) r (λ y. refl) (inner-row m r has)) in
          let one = room-given n r c.give_back.result inner c.give_back.ensures.line in
          let r1 = c.set_parent.ensures.rooms in let r2 = c.give_back.ensures.rooms in omega arith;
      count =
          let n = records c.set_parent.new.self in
          let a = ap finite.len set ∙ len-update m d (λ x. with_parent x None 0) in
          let b = len-gone n r (subst (λ z. IsSome (finite.get z r)) (sym set)
          (named-update m d (λ x. with_parent x None 0) r (named-row m r has))) in
          let e = ap finite.len c.give_back.ensures.records in omega arith;
    }
