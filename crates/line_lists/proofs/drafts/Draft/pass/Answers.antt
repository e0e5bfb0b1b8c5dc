use Rattle.line_lists.proofs.Common.{◌++◌, ◌∷◌, [], refl, subst, sym, ap, ◌∙◌, Stop, IsDraft}
use Rattle.line_lists.proofs.DraftLaws.{can-follow-next, draft-forth, stop_of}
use Rattle.line_lists.proofs.drafts.Draft.pass.Goals as goal

pub stop-stop-requires : goal.stop-stop-requires
stop-stop-requires g c =
    can-follow-next (g.L.LineList.lines c.args.self.now.list.now) c.args.self.now.front.items
    c.args.self.now.back.items c.pop.new.self.items c.args.reached c.in-Some.copy c.requires.is c.requires.reached
    c.in-Some.ensures.items

pub returns-in-Some-clause-is : goal.returns-in-Some-clause-is
returns-in-Some-clause-is g c =
    let lines = g.L.LineList.lines c.args.self.now.list.now in
    let front = c.args.self.now.front.items in
    let stop : Stop = stop_of lines c.args.reached c.in-Some.copy in
    subst (λ items. IsDraft lines items c.pop.new.self.items)
    (sym (c.push_reserved.ensures.items ∙ ap (λ items. items ++ c.stop-stop.result ∷ []) c.in_ok-reserve.ensures.items
    ∙ ap (λ s. front ++ s ∷ []) c.stop-stop.ensures))
    (draft-forth lines front c.pop.new.self.items stop
    (subst (λ items. IsDraft lines front items) c.in-Some.ensures.items c.requires.is)
    (record { reached = c.requires.reached; start = refl }))
