use Rattle.line_lists.proofs.Common.{◌≡◌, ◌+◌, ◌-◌, ◌<◌, ◌^◌, ◌++◌, ◌∷◌, [], length, take, subst, sym, ap, ◌∙◌, arith}
use Rattle.line_lists.proofs.Common.{slice_get, Reached, CanFollow, IsDraft, IsReached, copies_of, covered}
use Rattle.line_lists.proofs.CountRows.{count-lines}
use Rattle.line_lists.proofs.DraftLaws.{can-follow, copies-snoc, last-start, last_is, no_last, reached-more, stops-last}
use Rattle.line_lists.proofs.drafts.Draft.reached.Given.{Over}
use Rattle.line_lists.proofs.drafts.Draft.reached.Goals.{In-Some}
use Rattle.line_lists.proofs.drafts.Draft.reached.Goals as goal

-- the last copy before the place: it stands behind the others, and there are numbers for what it covers
last : (g : Over) (c : In-Some g)
    → c.args.self.now.front.items ≡ take (length c.args.self.now.front.items - 1) c.args.self.now.front.items
    ++ c.in-Some.stop.now ∷ []
last g c =
    last_is c.args.self.now.front.items c.in-Some.stop.now (c.in-Some.ensures.value
    ∙ ap (λ xs. slice_get xs (length xs - 1)) c.deref.ensures.value)

follows : (g : Over) (c : In-Some g)
    → CanFollow c.in-Some.stop.now.reached c.in-Some.stop.now.copy (g.L.LineList.lines c.args.self.now.list.now)
follows g c =
    let lines = g.L.LineList.lines c.args.self.now.list.now in
    let front = c.args.self.now.front.items in
    let back = c.args.self.now.back.items in
    can-follow lines (take (length front - 1) front) back c.in-Some.stop.now
    (subst (λ items. IsDraft lines items back) (last g c) c.requires)

few : (g : Over) (c : In-Some g)
    → c.in-Some.stop.now.reached.used + covered c.in-Some.stop.now.copy < 2 ^ 64
few g c =
    omega (
      arith,
      (g.L.LineList.are_lines c.args.self.now.list.now).counted.lines,
      count-lines (g.L.LineList.lines c.args.self.now.list.now),
      (follows g c).there,
    )

pub overflow_add-result : goal.overflow_add-result
overflow_add-result g c = omega (arith, few g (goal.at.overflow_add-result g c).In-Some)

pub overflow_add-result-in-Some : goal.overflow_add-result-in-Some
overflow_add-result-in-Some g c = omega (arith, few g (goal.at.overflow_add-result-in-Some g c).In-Some)

pub overflow_add-result-in-Some-2 : goal.overflow_add-result-in-Some-2
overflow_add-result-in-Some-2 g c =
    let front = c.args.self.now.front.items in
    let some = (goal.at.overflow_add-result-in-Some-2 g c).In-Some in
    let start = last-start (g.L.LineList.lines c.args.self.now.list.now) front (take (length front - 1) front)
    c.args.self.now.back.items c.in-Some.stop.now c.requires (last g some) in
    omega (arith, (follows g some).counted, start, c.len.ensures)

pub returns-in-None : goal.returns-in-None
returns-in-None g c =
    let lines = g.L.LineList.lines c.args.self.now.list.now in
    subst (λ items. IsReached c.nothing.result (copies_of items) lines)
    (sym (no_last c.args.self.now.front.items (c.in-None.ensures.value
    ∙ ap (λ xs. slice_get xs (length xs - 1)) c.deref.ensures.value))) (c.nothing.ensures lines)

pub returns-in-Some : goal.returns-in-Some
returns-in-Some g c =
    let lines = g.L.LineList.lines c.args.self.now.list.now in
    let front = c.args.self.now.front.items in
    let back = c.args.self.now.back.items in
    let stop = c.in-Some.stop.now in
    let before = take (length front - 1) front in
    let is = last g (goal.at.returns-in-Some g c).In-Some in
    let start = last-start lines front before back stop c.requires is in
    let behind : Reached = record {
      used = stop.reached.used + stop.copy.kept + stop.copy.gone;
      characters = stop.start + c.len.result;
    } in
    subst (λ copies. IsReached behind copies lines) (sym (ap copies_of is ∙ copies-snoc before stop))
    (reached-more stop.reached behind (copies_of before) stop.copy lines
    (stops-last lines [] before stop (subst (λ items. IsDraft lines items back) is c.requires).stops)
    (omega arith) (omega (arith, start, c.len.ensures)))
