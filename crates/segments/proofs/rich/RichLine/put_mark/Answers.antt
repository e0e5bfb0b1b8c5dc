use Rattle.segments.proofs.Common.{◌≡◌, ◌≤◌, max, arith, All-weaker, Mark}
use Rattle.segments.proofs.RichLaws.{as_long}
use Rattle.segments.proofs.rich.RichLine.put_mark.Goals as goal

pub invariant_of-self : goal.invariant_of-self
invariant_of-self c =
    let kept = c.self.invariant in
    let low = kept.1.within in
    let offset = c.args.place.offset in
    let reach = c.self.inside.reach in
    let most : c.max-self-inside.result ≡ max reach offset = c.max-self-inside.ensures in
    let long = as_long c.self.inside c.self.view_is in (
      kept.0,
      record {
        rise = c.put_mark.ensures.rise;
        stand = c.put_mark.ensures.stand c.max-self-inside.result
            (All-weaker (λ (mark : Mark). mark.place.offset ≤ reach) (λ (mark : Mark). mark.place.offset
            ≤ c.max-self-inside.result) (λ mark low. omega (arith, low, most)) c.self.inside.marks.items kept.1.stand)
            (omega (arith, most));
        within = omega (arith, low, c.requires, long, most);
      },
    )
