use Rattle.documents.proofs.Common.{◌∙◌, texts_of, Parts, parts_of}
use Rattle.documents.proofs.UnseatedLaws.{some-kept}
use Rattle.documents.proofs.documents.Document.keeps_some.Goals as goal

pub returns : goal.returns
returns g c =
    let own = c.self.inside in
    let parts : Parts = parts_of g.S.TextStore.content own in
    c.some_left.ensures ∙ some-kept parts c.args.self.now (texts_of c.args.names.now) c.self.view_is
