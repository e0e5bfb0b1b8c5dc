use Rattle.search_dump.proofs.Common.{chars, subst, IfSome, YieldsList-from_chars, count_from_yields_List, IsPeriod}
use Rattle.search_dump.proofs.patterns.Pattern.new.Goals as goal

pub invariant_of-result : goal.invariant_of-result
invariant_of-result c = record {
  counted = count_from_yields_List c.chars.result c.count.result c.count.ensures.ran
      (YieldsList-from_chars c.args.text.now c.utf8.text cc);
  repeats = λ at is.
      subst (λ o. IfSome o (λ p. IsPeriod (chars c.args.text.now) p.len (chars p.front.now) (chars p.tail.now))) is
      c.of.ensures;
}
