use Rattle.line_lists.proofs.Common.{subst, Remove, ClearTags, StepFitsIn, text_in}
use Rattle.line_lists.proofs.StepTexts.{made-long}
use Rattle.line_lists.proofs.drafts.Draft.make_step.Goals as goal

pub returns-in-Remove-clause-len : goal.returns-in-Remove-clause-len
returns-in-Remove-clause-len g c =
    let old = text_in g.L.LineList.lines c.args.self.now in
    let new = text_in g.L.LineList.lines c.remove.new.self in
    made-long (Remove c.in-Remove.from c.in-Remove.to) old new c.args.len c.requires.len
    (subst (λ step. StepFitsIn step c.args.len) c.in-Remove.is c.requires.fits) c.in_ok-remove-in-Remove.ensures.new

pub returns-in_ok-clear_tags-in-ClearTags-clause-len : goal.returns-in_ok-clear_tags-in-ClearTags-clause-len
returns-in_ok-clear_tags-in-ClearTags-clause-len g c =
    let old = text_in g.L.LineList.lines c.args.self.now in
    let new = text_in g.L.LineList.lines c.clear_tags.new.self in
    made-long (ClearTags c.in-ClearTags.offset) old new c.args.len c.requires.len
    (subst (λ step. StepFitsIn step c.args.len) c.in-ClearTags.is c.requires.fits)
    c.in_ok-clear_tags-in-ClearTags.ensures.new
