use Rattle.line_lists.proofs.Common.{◌≡◌, eqb-true, length, sym, ap, ◌∙◌, after_text, place_of, text_at, no_characters}
use Rattle.line_lists.proofs.InsertionLaws.{text-none}
use Rattle.line_lists.proofs.drafts.Draft.put_text.Goals as goal

pub returns-then-is_empty-clause-new : goal.returns-then-is_empty-clause-new
returns-then-is_empty-clause-new g c =
    let lines = g.L.LineList.lines c.put_lines.new.self.list.now in
    let offset = place_of lines c.put_lines.new.self.front.items in
    let text = text_at lines c.put_lines.new.self.front.items c.put_lines.new.self.back.items in
    let last = c.in_ok-last.last.now in
    let none : length last ≡ 0 = eqb-true (length last) 0 (sym c.if-is_empty.ensures) in
    sym (text-none offset text) ∙ ap (λ rest. after_text offset rest text) (sym (no_characters last none))
    ∙ c.in_ok-last.ensures.partly.new
