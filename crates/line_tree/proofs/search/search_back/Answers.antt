use Rattle.line_tree.proofs.Common.{◌≡◌, ◌+◌, ◌-◌, sym, ap, ◌∙◌, arith, take, take_all, kids, records, sum_all, sum_at}
use Rattle.line_tree.proofs.PrefixLaws.{sum-none}
use Rattle.line_tree.proofs.RowLaws.{asks, child_is, none_of, said}
use Rattle.line_tree.proofs.SearchLaws.{behind-last, steps-more, steps-within, wide-more}
use Rattle.line_tree.proofs.search.search_back.Goals.{in-Some+else-rest-width, in_default}
use Rattle.line_tree.proofs.search.search_back.Goals as goal

pub loop-back-init : goal.loop-back-init
loop-back-init g c = let m = records c.args.store.now in let cs = kids m c.args.node in
    let all = ap (sum_all m) (take_all 12 cs c.requires.row.few) in let wide = ap g.A.Aim.wide all in
    let within = c.requires.within in let some = c.requires.some in
    record {
      place = omega arith;
      some = some;
      aim = λ a is. is ∙ ap (g.A.Aim.behind a) (sym all);
      ticks = omega arith;
    }

pub read-size-requires : goal.read-size-requires
read-size-requires g c = let m = records c.args.store.now in let slot = 11 - c.loop-back.back in
    c.requires.row.each slot c.in-Some.child
    (sym (child_is m c.args.node c.requires.row c.child.result slot c.child.ensures.value) ∙ c.in-Some.is)

pub go_back-requires-clause-named : goal.go_back-requires-clause-named
go_back-requires-clause-named g c = let m = records c.args.store.now in let slot = 11 - c.loop-back.back in
    c.requires.row.each slot c.in-Some.child
    (sym (child_is m c.args.node c.requires.row c.child.result slot c.child.ensures.value) ∙ c.in-Some.is)

pub go_back-requires-clause-before : goal.go_back-requires-clause-before
go_back-requires-clause-before g c = let m = records c.args.store.now in let cs = kids m c.args.node in
    let i = 11 - c.loop-back.back in let few = c.loop-back-test.true in
    let here = sym (child_is m c.args.node c.requires.row c.child.result i c.child.ensures.value) ∙ c.in-Some.is in
    let a = c.requires.before.0 in let e : 12 - c.loop-back.back ≡ i + 1 = omega arith in (
      g.A.Aim.behind a (sum_all m (take i cs)),
      asks (λ s. c.loop-back.aim ≡ g.A.Aim.behind (g.A.Aim.behind a (sum_all m (take i cs))) s) m c.in-Some.child
          (c.requires.row.each i c.in-Some.child here)
          (behind-last g.met.A.Aim.adds_up m cs i (12 - c.loop-back.back) c.in-Some.child a c.loop-back.aim here e
          (c.loop-back.invariant.aim a c.requires.before.1)),
    )

pub loop-back-preserved : goal.loop-back-preserved
loop-back-preserved g c = let m = records c.args.store.now in let cs = kids m c.args.node in
    let i = 11 - c.loop-back.back in let few = c.loop-back-test.true in let up = g.met.A.Aim.adds_up in
    let child = child_is m c.args.node c.requires.row c.child.result i c.child.ensures.value in
    let place = c.loop-back.invariant.place in let some = c.loop-back.invariant.some in
    let so_far = c.loop-back.invariant.ticks in let one = c.child.ensures.tick in
    let more_steps = steps-more c.loop-back.back (g.A.Aim.steps + 2) in
    let e : 12 - c.loop-back.back ≡ i + 1 = omega arith in let f : i ≡ 12 - (c.loop-back.back + 1) = omega arith in
    let wide_now = ap (λ n. g.A.Aim.wide (sum_all m (take n cs))) e in
    let wide_next = ap (λ n. g.A.Aim.wide (sum_all m (take n cs))) f in
    elim c.match-child.branch [
      | in-Some+else-rest-width w ↦
          let q = w.in-Some.child in let here = sym child ∙ w.in-Some.is in let named = c.requires.row.each i q here in
          let more = wide-more up m cs i q here in
          let width = w.width-width.ensures (sum_at m q)
          (said g.A.Aim.sized m q w.read-size.result named w.read-size.ensures.value) in
          let t = ap g.C.Ticks.count w.ticks-is in let two = w.read-size.ensures.tick in
          let three = w.go_back.ensures.ticks in let rest = w.rest-is in let test = w.if-rest-width.false in
          record {
            place = omega arith;
            some = omega arith;
            aim = λ a is. w.aim-is ∙ w.go_back.ensures.value (g.A.Aim.behind a (sum_all m (take i cs)))
                (asks (λ s. c.loop-back.aim ≡ g.A.Aim.behind (g.A.Aim.behind a (sum_all m (take i cs))) s) m q named
                (behind-last up m cs i (12 - c.loop-back.back) q a c.loop-back.aim here e
                (c.loop-back.invariant.aim a is)))
                ∙ ap (λ n. g.A.Aim.behind a (sum_all m (take n cs))) f;
            ticks = omega arith;
          }
      | in_default w ↦
          let none = sum-none m cs i (sym child ∙ none_of c.child.result w.in_default.not-Some) in
          let same = ap g.A.Aim.wide none in let t = ap g.C.Ticks.count w.ticks-is in let rest = w.rest-is in
          record {
            place = omega arith;
            some = omega arith;
            aim = λ a is. w.aim-is ∙ c.loop-back.invariant.aim a is
                ∙ ap (λ n. g.A.Aim.behind a (sum_all m (take n cs))) e ∙ ap (g.A.Aim.behind a) none
                ∙ ap (λ n. g.A.Aim.behind a (sum_all m (take n cs))) f;
            ticks = omega arith;
          }
    ]

pub returns-then-rest-width : goal.returns-then-rest-width
returns-then-rest-width g c = let m = records c.args.store.now in let cs = kids m c.args.node in
    let i = 11 - c.loop-back.back in let q = c.in-Some.child in let few = c.loop-back-test.true in
    let up = g.met.A.Aim.adds_up in
    let here = sym (child_is m c.args.node c.requires.row c.child.result i c.child.ensures.value) ∙ c.in-Some.is in
    let named = c.requires.row.each i q here in
    let size = said g.A.Aim.sized m q c.read-size.result named c.read-size.ensures.value in
    let width = c.width-width.ensures (sum_at m q) size in let more = wide-more up m cs i q here in
    let test = c.if-rest-width.true in let place = c.loop-back.invariant.place in
    let some = c.loop-back.invariant.some in let so_far = c.loop-back.invariant.ticks in
    let one = c.child.ensures.tick in let two = c.read-size.ensures.tick in let three = c.go_back.ensures.ticks in
    let most = steps-within c.loop-back.back (g.A.Aim.steps + 2) few in
    let e : 12 - c.loop-back.back ≡ i + 1 = omega arith in
    let wide_now = ap (λ n. g.A.Aim.wide (sum_all m (take n cs))) e in
    record {
      reaches = record { child = here; place = omega arith; rest = omega arith; size = size };
      aim = λ a is. c.go_back.ensures.value (g.A.Aim.behind a (sum_all m (take i cs)))
          (asks (λ s. c.loop-back.aim ≡ g.A.Aim.behind (g.A.Aim.behind a (sum_all m (take i cs))) s) m q named
          (behind-last up m cs i (12 - c.loop-back.back) q a c.loop-back.aim here e (c.loop-back.invariant.aim a is)));
      ticks = omega arith;
    }
