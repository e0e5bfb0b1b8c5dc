use Rattle.line_lists.proofs.Common.{chars, ◌∙◌, on_ok_weaker, text_in}
use Rattle.line_lists.proofs.OpenLaws.{partly-first}
use Rattle.line_lists.proofs.drafts.Draft.insert.Goals as goal

pub returns-in_ok-split-in-Some-clause-new : goal.returns-in_ok-split-in-Some-clause-new
returns-in_ok-split-in-Some-clause-new g c =
    let lines = g.L.LineList.lines c.split.new.self.list.now in
    let old = text_in g.L.LineList.lines c.args.self.now in
    let partly = partly-first lines c.split.new.self.front.items c.split.new.self.back.items c.args.offset
    (chars c.args.text.now) (chars c.in-Some.line.now) (chars c.in-Some.rest.now) old
    c.in_ok-split-in-Some.ensures.opens c.in-Some.ensures.parts c.requires.within c.in-Some.ensures.line
    c.requires.counted in
    on_ok_weaker c.put_text.result (λ is. is ∙ partly.new) c.put_text.ensures.new
