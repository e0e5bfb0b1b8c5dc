use Rattle.line_lists.proofs.Common.{◌-◌, length, ap, arith, LineContent, held_at, held_text, whole}
use Rattle.line_lists.proofs.HeldLaws.{length-removal}
use Rattle.line_lists.proofs.drafts.Draft.remove.Goals as goal

pub put-requires-clause-counted : goal.put-requires-clause-counted
put-requires-clause-counted g c =
    let taken = c.in_ok-stop.ensures in
    let lines = g.L.LineList.lines c.take.new.self.list.now in
    let front = c.take.new.self.front.items in
    let found = c.in_ok-stop.field-0 in
    let copy = found.stop.copy in
    let at = held_at lines front copy found.column in
    let old = held_text lines front c.take.new.self.back.items copy in
    let count = c.args.to - c.args.from in
    let all = ap (λ xs. length (whole xs).columns) taken.same in
    let here = taken.place.place in
    let long = ap (λ (line : LineContent). length line.columns) c.in_ok-remove_behind.ensures.new in
    let less = length-removal at count old (omega (arith, all, here, c.requires.ordered, c.requires.within)) in
    omega (arith, long, less, all, c.requires.is.draft.counted)
