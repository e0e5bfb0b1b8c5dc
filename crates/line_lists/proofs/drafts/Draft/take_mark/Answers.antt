use Rattle.line_lists.proofs.Common.{sym, lines_in, text_in}
use Rattle.line_lists.proofs.FreedLaws.{same-line}
use Rattle.line_lists.proofs.StandLaws.{stands-found}
use Rattle.line_lists.proofs.drafts.Draft.take_mark.Goals as goal

pub take_mark_at-requires-clause-within : goal.take_mark_at-requires-clause-within
take_mark_at-requires-clause-within g c =
    let made = lines_in g.L.LineList.lines c.args.self.now in
    (stands-found c.args.number.0 c.in-Some.offset made c.requires.is.rows c.in-Some.ensures.some).0

pub take_mark_at-requires-clause-stands : goal.take_mark_at-requires-clause-stands
take_mark_at-requires-clause-stands g c =
    let made = lines_in g.L.LineList.lines c.args.self.now in
    (stands-found c.args.number.0 c.in-Some.offset made c.requires.is.rows c.in-Some.ensures.some).1

pub returns-in-None-clause-new : goal.returns-in-None-clause-new
returns-in-None-clause-new g c =
    let old = text_in g.L.LineList.lines c.args.self.now in
    sym (same-line c.args.number.0 old (c.find_mark.ensures.none c.in-None.is))
