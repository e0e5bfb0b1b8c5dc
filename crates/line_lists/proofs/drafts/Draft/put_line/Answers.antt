use Rattle.line_lists.proofs.Common.{◌++◌, ◌∷◌, [], chars, subst, sym, ap, ◌∙◌, Stop, IsReached, copies_of, place_of}
use Rattle.line_lists.proofs.Common.{text_at, Opens}
use Rattle.line_lists.proofs.OpenLaws.{line-opens, new_stop}
use Rattle.line_lists.proofs.drafts.Draft.put_line.Goals as goal

pub returns-clause-opens : goal.returns-clause-opens
returns-clause-opens g c =
    let lines = g.L.LineList.lines c.args.self.now.list.now in
    let front = c.args.self.now.front.items in
    let back = c.args.self.now.back.items in
    let text = chars c.args.text.now in
    let stop : Stop = new_stop c.reached-reached.result c.in_ok-new.field-0 in
    let same = c.in_ok-reserve.ensures.items in
    subst (λ items. Opens lines items back (place_of lines front) text (text_at lines front back))
    (sym (c.push_reserved.ensures.items ∙ ap (λ items. items ++ stop ∷ []) same))
    (line-opens lines front back stop.reached c.in_ok-new.field-0 text c.requires.is
    (subst (λ items. IsReached stop.reached (copies_of items) lines) same c.reached-reached.ensures)
    c.in_ok-new.ensures
    c.requires.line c.requires.counted)
