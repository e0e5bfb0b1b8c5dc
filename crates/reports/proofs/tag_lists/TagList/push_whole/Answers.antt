use Rattle.reports.proofs.Common.{true, sym, subst, get_or, drop, take_all, Span, TellsSpans}
use Rattle.reports.proofs.AddedRunLaws.{adds-none, adds-one, down-all, down-more, down-none}
use Rattle.reports.proofs.SpanToldLaws.{whole-none, whole-then}
use Rattle.reports.proofs.tag_lists.TagList.push_whole.Goals as goal

abbrev no_span : Span
no_span = record { from = 0; to = 0 }

pub returns-then-not-on : goal.returns-then-not-on
returns-then-not-on c =
    let key = c.args.key.now in
    let told = c.args.self.now in
    record {
      tells = λ flags apart none. subst (λ on. TellsSpans key on flags c.args.spans.now told told) (sym c.if-not-on.true)
          (whole-none key flags c.args.spans.now told apart none);
      runs = λ len apart. adds-none key 0 len told;
    }

pub loop-span-init : goal.loop-span-init
loop-span-init c = record {
  told = λ flags apart none start cells same so_far. so_far;
  runs = λ len apart. down-none c.args.key.now len c.args.spans.now c.args.self.now apart;
}

pub loop-span-preserved : goal.loop-span-preserved
loop-span-preserved c =
    let key = c.args.key.now in
    let spans = c.args.spans.now in
    let at = c.loop-span.span-index in
    let told = c.args.self.now in
    record {
      told = λ flags apart none. whole-then key flags spans at no_span told c.loop-span.self c.push.new.self
          c.loop-span-test.true apart none (c.loop-span.invariant.told flags apart none) c.in_ok-push.ensures;
      runs = λ len apart. down-more key len spans at no_span told c.loop-span.self c.push.new.self c.loop-span-test.true
          (c.loop-span.invariant.runs len apart) (λ some.
          adds-one key (get_or spans at no_span).from (get_or spans at no_span).to true c.loop-span.self c.push.new.self
          some c.in_ok-push.ensures);
    }

pub returns : goal.returns
returns c =
    let key = c.args.key.now in
    let spans = c.args.spans.now in
    let at = c.loop-span.span-index in
    let told = c.args.self.now in
    record {
      tells = λ flags apart none. subst (λ on. TellsSpans key on flags spans told c.loop-span.self) (sym c.if-not-on.false)
          (subst (λ ss. TellsSpans key true flags ss told c.loop-span.self) (take_all at spans c.loop-span-test.false)
          (c.loop-span.invariant.told flags apart none));
      runs = λ len apart. down-all key len (drop at spans) told c.loop-span.self (c.loop-span.invariant.runs len apart);
    }
