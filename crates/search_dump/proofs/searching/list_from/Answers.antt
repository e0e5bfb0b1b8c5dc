use Rattle.search_dump.proofs.Common.{part_of, shown, ◌-◌, ◌<◌, arith, chars, subst, sym, length-shown, searched}
use Rattle.search_dump.proofs.ListedLaws.{IsNext, left-less, listing-begun, listing-done, listing-on, next-at}
use Rattle.search_dump.proofs.WindowLaws.{length-compared}
use Rattle.search_dump.proofs.searching.list_from.Given.{Over}
use Rattle.search_dump.proofs.searching.list_from.Goals.{In-Some}
use Rattle.search_dump.proofs.searching.list_from.Goals as goal

pub loop-next-init : goal.loop-next-init
loop-next-init g c = listing-begun c.requires.first c.requires.high c.requires.within

-- the match that comes next
next : (g : Over) (c : In-Some g) →
    IsNext c.args.search.direction (chars c.args.pattern.now.text.now)
    (searched (part_of c.args.view.now) c.args.pattern.now) c.loop-next.rest c.in-Some.place
next g c =
    let all = shown (part_of c.args.view.now) in
    next-at c.loop-next.invariant c.in-Some.is (omega (arith, length-compared c.args.pattern.now.ignores_case all))

pub push_place-requires : goal.push_place-requires
push_place-requires g c =
    let view = c.args.view.now in
    omega (
      arith,
      (next g (goal.at.push_place-requires g c).In-Some).below,
      c.loop-next.invariant.high,
      length-shown (part_of view) view.whole_lines,
    )

pub left_behind-rest-requires : goal.left_behind-rest-requires
left_behind-rest-requires g c =
    let view = c.args.view.now in
    let next = next g (goal.at.left_behind-rest-requires g c).In-Some in
    omega (
      arith,
      next.below,
      next.fits,
      c.args.pattern.now.counted,
      c.loop-next.invariant.high,
      c.loop-next.invariant.end,
      length-shown (part_of view) view.whole_lines,
    )

pub next_match-requires-clause-matches : goal.next_match-requires-clause-matches
next_match-requires-clause-matches g c = (next g (goal.at.next_match-requires-clause-matches g c).In-Some).matches

pub loop-next-smaller : goal.loop-next-smaller
loop-next-smaller g c =
    let next = next g (goal.at.loop-next-smaller g c).In-Some in
    subst (λ s. s.high - s.low < c.loop-next.rest.high - c.loop-next.rest.low) (sym c.left_behind-rest.ensures)
    (left-less c.args.search.wanted c.args.search.direction c.loop-next.rest c.in-Some.place c.args.pattern.now.len
    next.above next.below)

pub loop-next-preserved : goal.loop-next-preserved
loop-next-preserved g c = listing-on c.loop-next.invariant c.in-Some.is c.in_ok-push_place.ensures
    c.args.pattern.now.counted c.left_behind-rest.ensures c.in_ok-next.ensures

pub returns : goal.returns
returns g c = listing-done c.loop-next.invariant c.in_default.is
