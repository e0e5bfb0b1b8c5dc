use Rattle.line_lists.proofs.Common.{rules, ap, subst, ◌∙◌, chars, arith, place_of, text_at, Opens}
use Rattle.line_lists.proofs.OpenLaws.{partly-next}
use Rattle.line_lists.proofs.drafts.Draft.put_lines.Goals as goal

pub loop-line-preserved : goal.loop-line-preserved
loop-line-preserved g c =
    let start = g.L.LineList.lines c.args.self.now.list.now in
    let lines = g.L.LineList.lines c.loop-line.self.list.now in
    let next = g.L.LineList.lines c.put_line.new.self.list.now in
    let old = text_at start c.args.self.now.front.items c.args.self.now.back.items in
    let front = c.loop-line.self.front.items in
    let back = c.loop-line.self.back.items in
    let room = c.reserve_ahead.new.self in
    let same = c.reserve_ahead.ensures in
    let Made = Opens next c.put_line.new.self.front.items c.put_line.new.self.back.items in
    let line = chars c.in-Some.line.now in
    let opens = subst (λ xs. Made (place_of lines front) line (text_at lines front xs)) same.back
    (subst (λ xs. Made (place_of lines xs) line (text_at lines xs room.back.items)) same.front
    (subst (λ xs. Made (place_of xs room.front.items) line (text_at xs room.front.items room.back.items))
    (ap (λ list. g.L.LineList.lines list) same.list) c.in_ok-put_line.ensures.opens)) in
    let partly = partly-next lines next front c.put_line.new.self.front.items back c.put_line.new.self.back.items
    (place_of start c.args.self.now.front.items) (chars c.args.text.now) (chars c.loop-line.rest.now) line
    (chars c.in-Some.behind.now) old c.loop-line.invariant.3 opens c.in-Some.ensures.parts c.in-Some.ensures.line in (
      search (rules),
      omega (arith, c.loop-line.invariant.1, c.in-Some.ensures.less),
      c.put_line.ensures.list ∙ same.list ∙ c.loop-line.invariant.2,
      partly,
    )
