use Rattle.line_tree.proofs.Common.{◌≡◌, ◌<◌, ◌+◌, ◌-◌, length, refl, sym, ap, subst, ◌∙◌, arith, suc, inl, inr, ℕ}
use Rattle.line_tree.proofs.Common.{zero, ◌⊎◌, List, IsSome, slice_get, Option, slice_get-get_or, Evens, NodePtr, kids}
use Rattle.line_tree.proofs.Common.{records}
use Rattle.line_tree.proofs.shrink.mend.Goals as goal

some-at : (cs : List NodePtr) (o : Option NodePtr) (i : ℕ) (d : NodePtr) → o ≡ slice_get cs i → i < length cs → IsSome o
some-at cs o i d e within = subst (λ z. IsSome z) (sym (e ∙ slice_get-get_or cs i d within)) refl

near : (at slot : ℕ) → at ≡ slot - 1 → (at ≡ slot) ⊎ (suc at ≡ slot)
near at zero e = let f : at ≡ 0 = omega arith in inl f
near at (suc slot) e = let f : suc at ≡ suc slot = omega arith in inr f

pub unwrap-left-requires : goal.unwrap-left-requires
unwrap-left-requires g c = let cs = kids (records c.args.store.now) c.args.node in
    some-at cs c.kid.result c.saturating_sub-at.result c.args.node c.kid.ensures
    (omega (arith, c.saturating_sub-at.ensures, c.requires.slot))

pub unwrap-right-requires : goal.unwrap-right-requires
unwrap-right-requires g c = let cs = kids (records c.args.store.now) c.args.node in
    some-at cs c.kid-2.result (c.saturating_sub-at.result + 1) c.args.node c.kid-2.ensures
    (omega (arith, c.saturating_sub-at.ensures, c.requires.slot, c.requires.two))

pub even-merged-requires : goal.even-merged-requires
even-merged-requires g c = let cs = kids (records c.args.store.now) c.args.node in
    let at = c.saturating_sub-at.result in
    let e : at + 1 ≡ suc at = omega arith in
    c.requires.pairs at c.unwrap-left.result c.unwrap-right.result (sym c.kid.ensures
    ∙ c.unwrap-left.ensures) (ap (slice_get cs) (sym e) ∙ sym c.kid-2.ensures ∙ c.unwrap-right.ensures)

pub returns-then-merged-clause-mends : goal.returns-then-merged-clause-mends
returns-then-merged-clause-mends g c = let m = records c.args.store.now in let n = records c.even-merged.new.store in
    let cs = kids m c.args.node in let at = c.saturating_sub-at.result in
    let e : at + 1 ≡ suc at = omega arith in
    record {
      at = at;
      left = c.unwrap-left.result;
      right = c.unwrap-right.result;
      is_left = sym c.kid.ensures ∙ c.unwrap-left.ensures;
      is_right = ap (slice_get cs) (sym e) ∙ sym c.kid-2.ensures ∙ c.unwrap-right.ensures;
      near = near at c.args.slot c.saturating_sub-at.ensures;
      evens = subst (λ b. Evens m n c.unwrap-left.result c.unwrap-right.result b) c.if-merged.true
          c.even-merged.ensures.evens;
      gap = e;
    }

pub returns-else-merged-clause-mends : goal.returns-else-merged-clause-mends
returns-else-merged-clause-mends g c = let m = records c.args.store.now in let n = records c.even-merged.new.store in
    let cs = kids m c.args.node in let at = c.saturating_sub-at.result in
    let e : at + 1 ≡ suc at = omega arith in
    record {
      at = at;
      left = c.unwrap-left.result;
      right = c.unwrap-right.result;
      is_left = sym c.kid.ensures ∙ c.unwrap-left.ensures;
      is_right = ap (slice_get cs) (sym e) ∙ sym c.kid-2.ensures ∙ c.unwrap-right.ensures;
      near = near at c.args.slot c.saturating_sub-at.ensures;
      evens = subst (λ b. Evens m n c.unwrap-left.result c.unwrap-right.result b) c.if-merged.false
          c.even-merged.ensures.evens;
      gap = tt;
    }
