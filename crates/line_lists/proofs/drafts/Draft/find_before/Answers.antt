use Rattle.line_lists.proofs.Common.{◌≡◌, ◌+◌, ◌<◌, None, get_or, length, take, ap, subst, ◌∙◌, arith, nat_cmp}
use Rattle.line_lists.proofs.Common.{take_all, copies_of, made_lines, whole}
use Rattle.line_lists.proofs.StandLaws.{AtCopy, at-front, front-more, none-more, stands-at, stands-found}
use Rattle.line_lists.proofs.drafts.Draft.find_before.Given.{Over}
use Rattle.line_lists.proofs.drafts.Draft.find_before.Goals.{After-stop-item}
use Rattle.std.specs.FinMap as finite
use Rattle.line_lists.proofs.drafts.Draft.find_before.Goals as goal

pub loop-stop-init : goal.loop-stop-init
loop-stop-init g c = finite.get-empty nat_cmp c.args.number.0

-- the loop stands at a copy before the place
within : (g : Over) (c : After-stop-item g) → c.loop-stop.stop-index < length c.args.self.now.front.items
within g c = omega (arith, c.loop-stop-test.true, ap length c.deref-stop-items.ensures.value)

item : (g : Over) (c : After-stop-item g)
    → c.stop-item.result ≡ get_or c.args.self.now.front.items c.loop-stop.stop-index c.stop-item.result
item g c =
    c.stop-item.is ∙ ap (λ xs. get_or xs c.loop-stop.stop-index c.stop-item.result) c.deref-stop-items.ensures.value

here : (g : Over) (c : After-stop-item g)
    → AtCopy (g.L.LineList.lines c.args.self.now.list.now) c.args.self.now.front.items c.args.self.now.back.items
    (copies_of (take c.loop-stop.stop-index c.args.self.now.front.items)) c.stop-item.result.reached
    c.stop-item.result.copy
here g c =
    at-front (g.L.LineList.lines c.args.self.now.list.now) c.args.self.now.front.items c.args.self.now.back.items
    c.loop-stop.stop-index c.stop-item.result c.requires.is (within g c) (item g c)

pub find_copied-requires-clause-follows : goal.find_copied-requires-clause-follows
find_copied-requires-clause-follows g c =
    (here g (goal.at.find_copied-requires-clause-follows g c).After-stop-item).follows

pub find_copied-requires-clause-some : goal.find_copied-requires-clause-some
find_copied-requires-clause-some g c = (here g (goal.at.find_copied-requires-clause-some g c).After-stop-item).some

pub overflow_add-result : goal.overflow_add-result
overflow_add-result g c =
    let stands = stands-at (here g (goal.at.overflow_add-result g c).After-stop-item) c.in-Some.ensures.some in
    omega (arith, (stands-found c.args.number.0 _ _ c.requires.is.rows stands).0, c.requires.is.draft.counted)

pub returns-in-Some-clause-some : goal.returns-in-Some-clause-some
returns-in-Some-clause-some g c =
    stands-at (here g (goal.at.returns-in-Some-clause-some g c).After-stop-item) c.in-Some.ensures.some

pub loop-stop-preserved : goal.loop-stop-preserved
loop-stop-preserved g c =
    let front = c.args.self.now.front.items in
    let i = c.loop-stop.stop-index in
    let stop = c.stop-item.result in
    let at = (goal.at.loop-stop-preserved g c).After-stop-item in
    none-more c.args.number.0 (g.L.LineList.lines c.args.self.now.list.now) front c.args.self.now.back.items
    (copies_of (take i front)) (copies_of (take (i + 1) front)) stop.reached stop.copy (here g at)
    (front-more front i stop (within g at) (item g at)) c.loop-stop.invariant
    (c.find_copied.ensures.none c.in_default.is)

pub returns-clause-none : goal.returns-clause-none
returns-clause-none g c =
    let lines = g.L.LineList.lines c.args.self.now.list.now in
    let front = c.args.self.now.front.items in
    let stops = c.deref-stop-items.ensures.value in
    let all : take c.loop-stop.stop-index front
    ≡ front = take_all c.loop-stop.stop-index front (omega (arith, c.loop-stop-test.false, ap length stops)) in
    λ _. subst (λ xs. finite.get (whole (made_lines (copies_of xs) lines)).marks c.args.number.0
    ≡ None) all c.loop-stop.invariant
