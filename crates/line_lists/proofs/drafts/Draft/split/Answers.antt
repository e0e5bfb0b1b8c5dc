use Rattle.line_lists.proofs.Common.{◌++◌, ◌∷◌, [], chars, sym, ap, subst, ◌∙◌, lines_in, Opens, whole}
use Rattle.line_lists.proofs.OpenLaws.{new_copy, split-opens}
use Rattle.line_lists.proofs.drafts.Draft.split.Goals as goal

pub returns-clause-opens : goal.returns-clause-opens
returns-clause-opens g c =
    let lines = g.L.LineList.lines c.take.new.self.list.now in
    let front = c.take.new.self.front.items in
    let back = c.take.new.self.back.items in
    let old = lines_in g.L.LineList.lines c.args.self.now in
    let found = c.in_ok-stop.field-0 in
    let text = chars c.args.text.now in
    let first = c.insert_and_cut.new.line in
    let second = c.in_ok-line.line in
    let opens = split-opens lines front back found.stop first second old c.args.offset found.column text
    c.in_ok-stop.ensures.taken c.in_ok-stop.ensures.same c.in_ok-stop.ensures.place c.requires.line
    c.requires.is.rows
    c.in_ok-line.ensures.head c.in_ok-line.ensures.tail c.requires.counted in
    subst (λ items. Opens lines c.push_reserved.new.self.items items c.args.offset text (whole old))
    (sym (c.push_reserved-2.ensures.items
    ∙ ap (λ items. items ++ new_copy second ∷ []) c.in_ok-reserve.ensures.items))
    (subst (λ items. Opens lines items (back ++ new_copy second ∷ []) c.args.offset text (whole old))
    (sym c.push_reserved.ensures.items) opens)
