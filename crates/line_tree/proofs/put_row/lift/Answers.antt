use Rattle.line_tree.proofs.Common.{◌≡◌, ℕ, suc, ◌+◌, ◌-◌, ◌*◌, ◌≤◌, ◌++◌, inl, inr, length, sym, ap, ◌∙◌, subst, arith}
use Rattle.line_tree.proofs.Common.{cases_lt, nodes, records, rooms, spares, CanRaise, Lifted, Raises, levels_at_most}
use Rattle.line_tree.proofs.LevelLaws.{low-levels}
use Rattle.line_tree.proofs.LiftLaws.{lift-can, lift-levels, lift-more}
use Rattle.line_tree.proofs.put_row.lift.Goals as goal

rooms-left : (levels height top some all before now : ℕ) → all + 11 * (levels - height) ≤ 11 * before →
    11 * before + some ≤ 11 * now + all + 11 * (top - height) → height ≤ top → suc top ≤ levels → some ≤ 12 * now
rooms-left levels height top some all before now had used up low = omega (arith, had, used, up, low)

spares-left : (levels height top some all before now old new : ℕ) → all + 11 * (levels - height) ≤ 11 * old →
    11 * before + some ≤ 11 * now + all + 11 * (top - height) → new + before ≡ old + now → height ≤ top →
    suc top ≤ levels → some ≤ 12 * new
spares-left levels height top some all before now old new had used same up low = omega (arith, had, used, same, up, low)

still-used : (height top some all before now made left : ℕ) →
    11 * before + some ≤ 11 * now + all + 11 * (top - height) → left + made ≡ now → 12 * made ≤ some + 11 → height ≤ top
    → 11 * before + made ≤ 11 * left + all + 11 * (top + 1 - height)
still-used height top some all before now made left used rest few up = omega (arith, used, rest, few, up)

pub raise-requires : goal.raise-requires
raise-requires g c = let list = c.deref-in-loop-below.ensures.value ∙ c.push_all.ensures.list
    ∙ (λ i. c.clear.ensures.items i ++ c.deref.ensures.value i) in let now = c.loop-below.invariant in
    let test = c.loop-below-test.true in let len = c.len.ensures in
    let levels = subst (λ n. suc c.loop-below.top ≤ levels_at_most n) now.nodes (lift-levels
    (records c.loop-below.store) c.loop-below.top c.loop-below.row.items (spares c.loop-below.store) now.lifted.can
    (omega arith)) in
    record {
      raise =
          let m = records c.loop-below.store in let top = c.loop-below.top in (
            top,
            subst (CanRaise m top) (sym list)
                (lift-can m top c.loop-below.row.items c.loop-below.invariant.lifted.can),
          );
      spares = subst (λ (xs : _). length xs ≤ 12 * spares c.loop-below.store) (sym list) (spares-left
          (levels_at_most (nodes c.args.store.now)) c.args.height c.loop-below.top (length c.loop-below.row.items)
          (length c.args.row.now.items) (rooms c.args.store.now) (rooms c.loop-below.store) (spares c.args.store.now)
          (spares c.loop-below.store) c.requires.spares now.used now.spares now.up levels);
      rooms = subst (λ (xs : _). length xs ≤ 12 * rooms c.loop-below.store) (sym list) (rooms-left
          (levels_at_most (nodes c.args.store.now)) c.args.height c.loop-below.top (length c.loop-below.row.items)
          (length c.args.row.now.items) (rooms c.args.store.now) (rooms c.loop-below.store) c.requires.rooms now.used
          now.up levels);
      names = let same = ap length list in omega arith;
    }

pub overflow_add-top : goal.overflow_add-top
overflow_add-top g c =
    let now = c.loop-below.invariant in let test = c.loop-below-test.true in let len = c.len.ensures in
    let n = spares c.loop-below.store in
    let levels = lift-levels (records c.loop-below.store) c.loop-below.top c.loop-below.row.items n
    now.lifted.can (omega arith) in
    let low = low-levels (nodes c.loop-below.store) in omega (arith, levels, low)

pub loop-below-preserved : goal.loop-below-preserved
loop-below-preserved g c =
    let now = c.loop-below.invariant in let test = c.loop-below-test.true in let len = c.len.ensures in
    let top = c.loop-below.top in let ps = c.loop-below.row.items in let qs = c.raise.new.row.items in
    let m = records c.args.store.now in let l = records c.loop-below.store in let n = records c.raise.new.store in
    let list = c.deref-in-loop-below.ensures.value ∙ c.push_all.ensures.list
    ∙ (λ i. c.clear.ensures.items i ++ c.deref.ensures.value i) in
    let two : 2 ≤ length ps = omega arith in
    let levels = subst (λ n. suc top ≤ levels_at_most n) now.nodes
    (lift-levels l top ps (spares c.loop-below.store) now.lifted.can two) in
    let raises = subst (λ (xs : _). Raises l n top xs (length xs) qs) list
    (c.raise.ensures.raises top (subst (CanRaise l top) (sym list) (lift-can l top ps now.lifted.can))) in
    let few = subst (λ (xs : _). 12 * length qs ≤ length xs + 11) list c.raise.ensures.few in
    let rooms_now = c.raise.ensures.rooms in let spares_now = c.raise.ensures.spares in let same = now.spares in
    let next : suc top ≡ top + 1 = omega arith in
    let up = now.up in
    record {
      lifted = subst (λ j. Lifted m n c.args.height c.args.row.now.items j qs) next
          (lift-more m l n c.args.height c.args.row.now.items top ps qs now.lifted two raises few);
      short = let were = now.short in omega (arith, were, few, two);
      up = omega (arith, up);
      most = λ more. omega (arith, levels);
      used = still-used c.args.height top (length ps) (length c.args.row.now.items) (rooms c.args.store.now)
          (rooms c.loop-below.store) (length qs) (rooms c.raise.new.store) now.used rooms_now few up;
      spares = omega (arith, rooms_now, spares_now, same);
      nodes = c.raise.ensures.nodes ∙ now.nodes;
      names = c.raise.ensures.names ∙ now.names;
      more = c.push_all.ensures.names ∙ c.clear.ensures.capacity ∙ now.more;
    }

pub returns-clause-used : goal.returns-clause-used
returns-clause-used g c =
    let now = c.loop-below.invariant in let used = now.used in let up = now.up in
    elim (cases_lt c.args.height c.loop-below.top) [
      | inl more ↦ let low = now.most more in omega (arith, used, low, up)
      | inr none ↦ omega (arith, used, none)
    ]
