use Rattle.tag_table.proofs.Common.{ap, sym, ◌∙◌, subst, AreKept, tags_kept}
use Rattle.tag_table.proofs.FrontLaws.{AreKept-front, tags_kept-front}
use Rattle.tag_table.proofs.tags.TagTable.truncate.Goals as goal

pub invariant_of-self : goal.invariant_of-self
invariant_of-self c =
    subst AreKept (sym c.truncate.ensures) (AreKept-front c.self.inside.names c.args.self.now c.args.len c.self.view_is
    c.requires c.self.invariant)

pub returns : goal.returns
returns c =
    ap tags_kept c.truncate.ensures ∙ tags_kept-front c.self.inside.names c.args.self.now c.args.len c.self.view_is
