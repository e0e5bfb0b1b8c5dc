use Rattle.line_tree.proofs.Common.{◌+◌, sym, ap, ◌∙◌, subst, arith, kids, records, sum_at}
use Rattle.line_tree.proofs.PrefixLaws.{sum-none}
use Rattle.line_tree.proofs.RowLaws.{asks, child_is, none_of, said}
use Rattle.line_tree.proofs.SearchLaws.{behind-more, fits-child, steps-more, steps-within, wide-more}
use Rattle.line_tree.proofs.search.search.Goals.{in-Some+else-rest-width, in_default}
use Rattle.line_tree.proofs.search.search.Goals as goal

pub read-size-requires : goal.read-size-requires
read-size-requires g c = let m = records c.args.store.now in
    c.requires.row.each c.loop-slot.slot c.in-Some.child
    (sym (child_is m c.args.node c.requires.row c.child.result c.loop-slot.slot c.child.ensures.value)
    ∙ c.in-Some.is)

pub loop-slot-init : goal.loop-slot-init
loop-slot-init g c = let up = g.met.A.Aim.adds_up in
    let none = up.wide_none in record { place = omega arith; aim = sym (up.behind_none c.args.aim.now); ticks = omega arith }

pub returns-then-rest-width : goal.returns-then-rest-width
returns-then-rest-width g c = let m = records c.args.store.now in let i = c.loop-slot.slot in
    let here = sym (child_is m c.args.node c.requires.row c.child.result i c.child.ensures.value) ∙ c.in-Some.is in
    let size = said g.A.Aim.sized m c.in-Some.child c.read-size.result (c.requires.row.each i c.in-Some.child here)
    c.read-size.ensures.value in
    let width = c.width-width.ensures (sum_at m c.in-Some.child) size in
    let test = c.if-rest-width.true in let so_far = c.loop-slot.invariant.ticks in let one = c.child.ensures.tick in
    let two = c.read-size.ensures.tick in let few = c.loop-slot-test.true in
    let most = steps-within i (g.A.Aim.steps + 2) (omega arith) in
    record {
      reaches = record { child = here; place = c.loop-slot.invariant.place; rest = omega arith; size = size };
      aim = c.loop-slot.invariant.aim;
      ticks = omega arith;
    }

pub pass-requires-clause-named : goal.pass-requires-clause-named
pass-requires-clause-named g c = let m = records c.args.store.now in
    c.requires.row.each c.loop-slot.slot c.in-Some.child
    (sym (child_is m c.args.node c.requires.row c.child.result c.loop-slot.slot c.child.ensures.value)
    ∙ c.in-Some.is)

pub pass-requires-clause-fits : goal.pass-requires-clause-fits
pass-requires-clause-fits g c = let m = records c.args.store.now in let i = c.loop-slot.slot in
    let here = sym (child_is m c.args.node c.requires.row c.child.result i c.child.ensures.value) ∙ c.in-Some.is in
    asks (g.A.Aim.fits c.loop-slot.aim) m c.in-Some.child (c.requires.row.each i c.in-Some.child here)
    (subst (λ a. g.A.Aim.fits a (sum_at m c.in-Some.child)) (sym c.loop-slot.invariant.aim)
    (fits-child g.met.A.Aim.adds_up m (kids m c.args.node) i c.in-Some.child c.args.aim.now here c.requires.fits))

pub loop-slot-preserved : goal.loop-slot-preserved
loop-slot-preserved g c = let m = records c.args.store.now in let cs = kids m c.args.node in let i = c.loop-slot.slot in
    let up = g.met.A.Aim.adds_up in
    let child = child_is m c.args.node c.requires.row c.child.result i c.child.ensures.value in
    let place = c.loop-slot.invariant.place in let so_far = c.loop-slot.invariant.ticks in
    let one = c.child.ensures.tick in let more_steps = steps-more i (g.A.Aim.steps + 2) in
    elim c.match-child.branch [
      | in-Some+else-rest-width w ↦
          let q = w.in-Some.child in let here = sym child ∙ w.in-Some.is in let named = c.requires.row.each i q here in
          let more = wide-more up m cs i q here in
          let width = w.width-width.ensures (sum_at m q)
          (said g.A.Aim.sized m q w.read-size.result named w.read-size.ensures.value) in
          let t = ap g.C.Ticks.count w.ticks-is in let two = w.read-size.ensures.tick in let three = w.pass.ensures.ticks in
          let rest = w.rest-is in let test = w.if-rest-width.false in
          record {
            place = omega arith;
            aim = w.aim-is ∙ said (g.A.Aim.behind c.loop-slot.aim) m q _ named w.pass.ensures.value
                ∙ ap (λ a. g.A.Aim.behind a (sum_at m q)) c.loop-slot.invariant.aim
                ∙ sym (behind-more up m cs i q c.args.aim.now here);
            ticks = omega arith;
          }
      | in_default w ↦
          let none = sum-none m cs i (sym child ∙ none_of c.child.result w.in_default.not-Some) in
          let same = ap g.A.Aim.wide none in let t = ap g.C.Ticks.count w.ticks-is in let rest = w.rest-is in
          record {
            place = omega arith;
            aim = w.aim-is ∙ c.loop-slot.invariant.aim ∙ ap (g.A.Aim.behind c.args.aim.now) (sym none);
            ticks = omega arith;
          }
    ]
