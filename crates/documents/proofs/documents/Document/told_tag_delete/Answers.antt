use Rattle.documents.proofs.Common.{map, sym, subst, texts_of, Document, tag_delete, without_tags, TellsTags, Foretells}
use Rattle.documents.proofs.Common.{tags-alone}
use Rattle.documents.proofs.documents.Document.told_tag_delete.Goals as goal

pub returns : goal.returns
returns g c = λ follows.
    let document = c.args.self.now in
    let names = texts_of c.args.names.now in
    let told = c.in_ok-tags.tags in
    let gone = c.in_ok-tags.ensures c.self.inside.seats.entries c.self.invariant.kept.seats in
    subst (Foretells document (tag_delete document names)) (sym c.of_tags.ensures) (λ _.
    tags-alone told document.cells (map (without_tags names) document.cells)
    (subst (λ (d : Document). TellsTags told d.cells (map (without_tags names) d.cells)) c.self.view_is gone.0)
    gone.1)
