use Rattle.search_dump.proofs.Common.{part_of, ◌-◌, ◌<◌, chars, shown, compared}
use Rattle.search_dump.proofs.WindowLaws.{IsLeft}
use Rattle.search_dump.proofs.matching.nearest_match.Given as goal

abbrev pub invariant-loop-rest : goal.invariant-loop-rest
invariant-loop-rest g l = record {
  left : IsLeft l.direction (chars l.pattern.text.now)
      (compared l.pattern.ignores_case (shown (part_of l.view))) l.fn.stretch
      l.rest;
  some : 0 < l.most;
}

abbrev pub decreases-loop-rest : goal.decreases-loop-rest
decreases-loop-rest g l = l.rest.high - l.rest.low
