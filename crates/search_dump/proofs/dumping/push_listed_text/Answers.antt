use Rattle.search_dump.proofs.Common.{part_of, shown, ap, string_bytes, subst, sym, codes, slice_range, not-false, Goes}
use Rattle.search_dump.proofs.Common.{element, if_listed}
use Rattle.search_dump.proofs.dumping.push_listed_text.Goals as goal

pub returns-clause-goes : goal.returns-clause-goes
returns-clause-goes g c =
    let text = shown (part_of c.args.view.now) in
    let written = element (codes "text") text c.args.spot.place (slice_range text c.args.spot.place c.args.to) in
    subst (λ xs. Goes (string_bytes c.args.out.now.list) (string_bytes c.list.new.out.list) xs)
    (sym (ap (λ b. if_listed b written) (not-false c.args.listed.text c.if-not-listed.false)))
    (c.in_ok-list.ensures.goes text c.requires.spot c.in_ok-hold.ensures.left)
