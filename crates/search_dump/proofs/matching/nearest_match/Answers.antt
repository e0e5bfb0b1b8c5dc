use Rattle.search_dump.proofs.Common.{part_of, arith, chars, sym, ◌∙◌, searched}
use Rattle.search_dump.proofs.WindowLaws.{left-begun, left-found, left-on, nearest-nowhere}
use Rattle.search_dump.proofs.matching.nearest_match.Goals as goal

pub loop-rest-init : goal.loop-rest-init
loop-rest-init g c = record {
  left = left-begun c.args.pattern.now.counted c.behind_last.ensures c.before-rest.ensures;
  some = omega arith;
}

pub returns-then-is_some : goal.returns-then-is_some
returns-then-is_some g c = left-found c.min-count.result c.loop-rest.invariant.left (omega arith) c.front.ensures
    c.in_ok-found.ensures (sym c.is_some.ensures ∙ c.if-is_some.true)

pub loop-rest-preserved : goal.loop-rest-preserved
loop-rest-preserved g c = record {
  left = left-on c.min-count.result c.loop-rest.invariant.left (omega arith) c.front.ensures c.in_ok-found.ensures
      (sym c.is_some.ensures ∙ c.if-is_some.false) c.behind_front-rest.ensures;
  some = omega arith;
}

pub returns : goal.returns
returns g c =
    nearest-nowhere c.args.direction (chars c.args.pattern.now.text.now)
    (searched (part_of c.args.view.now) c.args.pattern.now) c.loop-rest.rest (omega arith)
    ∙ c.loop-rest.invariant.left.same
