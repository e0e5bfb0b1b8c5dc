use Rattle.search_dump.proofs.Common.{◌+◌, arith, subst, sym, MatchOption, option_map, shown_of, ap, ◌≢◌}
use Rattle.search_dump.proofs.MarkOrderLaws.{marks-begun, marks-done, marks-fewer, marks-on, marks-past}
use Rattle.search_dump.proofs.dumping.push_marks_at.Goals as goal

pub loop-next-init : goal.loop-next-init
loop-next-init g c = marks-begun c.requires.first

pub returns-then-mark-spot-clause-goes : goal.returns-then-mark-spot-clause-goes
returns-then-mark-spot-clause-goes g c =
    let view = c.args.sight.now.view.now in
    marks-done c.loop-next.invariant view.whole_lines.ordered
    (subst (λ o. MatchOption (option_map (shown_of view.start) o) (Unit {0}) (λ m. m.place ≢ view.start + c.args.spot.place))
    (sym c.in-Some.is) (λ same. c.if-mark-spot.true (omega arith)))

pub loop-next-smaller : goal.loop-next-smaller
loop-next-smaller g c =
    let view = c.args.sight.now.view.now in
    let show = shown_of view.start in
    marks-fewer c.loop-next.invariant (option_map show c.next-next.result) view.whole_lines.ordered
    (ap (option_map show) c.in-Some.is) (omega (arith, c.if-mark-spot.false)) c.next-next.ensures

pub loop-next-preserved : goal.loop-next-preserved
loop-next-preserved g c = marks-on c.loop-next.invariant
    (ap (option_map (shown_of c.args.sight.now.view.now.start)) c.in-Some.is) (omega (arith, c.if-mark-spot.false))
    c.next-next.ensures c.in_ok-push_mark.ensures

pub returns-clause-goes : goal.returns-clause-goes
returns-clause-goes g c =
    let view = c.args.sight.now.view.now in
    marks-done c.loop-next.invariant view.whole_lines.ordered
    (subst (λ o. MatchOption (option_map (shown_of view.start) o) (Unit {0}) (λ m. m.place ≢ view.start + c.args.spot.place))
    (sym c.in_default.is) tt)

pub returns-clause-next : goal.returns-clause-next
returns-clause-next g c =
    marks-past c.loop-next.invariant (ap (option_map (shown_of c.args.sight.now.view.now.start)) c.in_default.is)
