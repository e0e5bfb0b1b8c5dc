use Rattle.line_lists.proofs.Common.{◌≡◌, ◌+◌, ◌-◌, ◌<◌, None, length, subst, arith, lines_in, IsReached, made_lines}
use Rattle.line_lists.proofs.Common.{StandsIn, whole}
use Rattle.line_lists.proofs.StandLaws.{AtCopy, at-back, back-more, back-none, copies_to, none-more, none-rest}
use Rattle.line_lists.proofs.StandLaws.{stands-at, stands-found, stands-rest}
use Rattle.line_lists.proofs.drafts.Draft.find_behind.Given.{Over}
use Rattle.line_lists.proofs.drafts.Draft.find_behind.Goals.{After-index-copy, In_ok-offset}
use Rattle.std.specs.FinMap as finite
use Rattle.line_lists.proofs.drafts.Draft.find_behind.Goals as goal

pub loop-index-init : goal.loop-index-init
loop-index-init g c =
    let lines = g.L.LineList.lines c.args.self.now.list.now in
    let same = back-none c.args.self.now.front.items c.args.self.now.back.items c.len-index.result
    (omega (arith, c.len-index.ensures, c.args.self.now.back.ok.0)) in (
      subst (λ copies. IsReached c.reached-reached.result copies lines) same c.reached-reached.ensures,
      subst (λ copies. finite.get (whole (made_lines copies lines)).marks c.args.number.0 ≡ None) same c.requires.none,
    )

-- the loop stands at a copy behind the place
within : (g : Over) (c : After-index-copy g) → c.loop-index.index - 1 < length c.args.self.now.back.items
within g c =
    omega (
      arith,
      c.loop-index-test.true,
      c.loop-index.auto.index,
      c.len-index.ensures,
      c.args.self.now.back.ok.0,
    )

next : (g : Over) (c : After-index-copy g) → c.loop-index.index ≡ (c.loop-index.index - 1) + 1
next g c = omega (arith, c.loop-index-test.true)

here : (g : Over) (c : After-index-copy g)
    → AtCopy (g.L.LineList.lines c.args.self.now.list.now) c.args.self.now.front.items c.args.self.now.back.items
    (copies_to c.args.self.now.front.items c.args.self.now.back.items c.loop-index.index) c.loop-index.reached
    c.index-copy.result.now
here g c =
    at-back (g.L.LineList.lines c.args.self.now.list.now) c.args.self.now.front.items c.args.self.now.back.items
    (c.loop-index.index - 1) c.loop-index.index c.loop-index.reached c.index-copy.result.now c.requires.is (next g c)
    (within g c) c.index-copy.ensures c.loop-index.invariant.0

pub find_copied-requires-clause-follows : goal.find_copied-requires-clause-follows
find_copied-requires-clause-follows g c =
    (here g (goal.at.find_copied-requires-clause-follows g c).After-index-copy).follows

pub find_copied-requires-clause-some : goal.find_copied-requires-clause-some
find_copied-requires-clause-some g c =
    (here g (goal.at.find_copied-requires-clause-some g c).After-index-copy).some

pub overflow_add-result : goal.overflow_add-result
overflow_add-result g c =
    let stands = stands-at (here g (goal.at.overflow_add-result g c).After-index-copy) c.in-Some.ensures.some in
    omega (arith, (stands-found c.args.number.0 _ _ c.requires.is.rows stands).0, c.requires.is.draft.counted)

pub returns-in-Some-clause-some : goal.returns-in-Some-clause-some
returns-in-Some-clause-some g c =
    stands-at (here g (goal.at.returns-in-Some-clause-some g c).After-index-copy) c.in-Some.ensures.some

pub with-reached-requires : goal.with-reached-requires
with-reached-requires g c = (here g (goal.at.with-reached-requires g c).After-index-copy).follows

pub loop-index-preserved : goal.loop-index-preserved
loop-index-preserved g c =
    let lines = g.L.LineList.lines c.args.self.now.list.now in
    let front = c.args.self.now.front.items in
    let back = c.args.self.now.back.items in
    let n = c.loop-index.index in
    let copy = c.index-copy.result.now in
    let at = (goal.at.loop-index-preserved g c).After-index-copy in
    let more = back-more front back (n - 1) n copy (next g at) (within g at) c.index-copy.ensures in (
      subst (λ copies. IsReached c.with-reached.result copies lines) more
          (c.with-reached.ensures (copies_to front back n) c.loop-index.invariant.0),
      none-more c.args.number.0 lines front back (copies_to front back n) (copies_to front back (n - 1))
          c.loop-index.reached copy (here g at) more c.loop-index.invariant.1
          (c.find_copied.ensures.none c.in_default.is),
    )

pub returns-in_err-offset-clause-none : goal.returns-in_err-offset-clause-none
returns-in_err-offset-clause-none g c =
    let lines = g.L.LineList.lines c.args.self.now.list.now in
    let front = c.args.self.now.front.items in
    let back = c.args.self.now.back.items in
    let reached = c.loop-index.reached in
    let none : c.loop-index.index ≡ 0 = omega (arith, c.loop-index-test.false) in
    let is = subst (λ n. IsReached reached (copies_to front back n) lines) none c.loop-index.invariant.0 in
    let free = subst (λ n. finite.get (whole (made_lines (copies_to front back n) lines)).marks c.args.number.0
    ≡ None) none c.loop-index.invariant.1 in
    λ _. none-rest c.args.number.0 c.len.result lines front back reached is c.len.ensures free
    (c.find_kept.ensures.none c.in_err-offset.was)

-- the mark stands in the lines that are kept behind all copies
kept : (g : Over) (c : In_ok-offset g)
    → StandsIn c.args.number.0 (c.loop-index.reached.characters + c.in_ok-offset.offset)
    (lines_in g.L.LineList.lines c.args.self.now)
kept g c =
    let lines = g.L.LineList.lines c.args.self.now.list.now in
    let front = c.args.self.now.front.items in
    let back = c.args.self.now.back.items in
    let reached = c.loop-index.reached in
    let none : c.loop-index.index ≡ 0 = omega (arith, c.loop-index-test.false) in
    let is = subst (λ n. IsReached reached (copies_to front back n) lines) none c.loop-index.invariant.0 in
    stands-rest c.args.number.0 c.in_ok-offset.offset c.len.result lines front back reached is c.len.ensures
    c.in_ok-offset.ensures.some

pub overflow_add-result-2 : goal.overflow_add-result-2
overflow_add-result-2 g c =
    let stands = kept g (goal.at.overflow_add-result-2 g c).In_ok-offset in
    omega (arith, (stands-found c.args.number.0 _ _ c.requires.is.rows stands).0, c.requires.is.draft.counted)

pub returns-clause-some : goal.returns-clause-some
returns-clause-some g c = kept g (goal.at.returns-clause-some g c).In_ok-offset
