use Rattle.peers.proofs.Common.{drop, filter, length, map, sym, ap, subst, ◌∙◌, arith, AllByRecursion, take_at}
use Rattle.peers.proofs.Common.{texts_of, IsWellFormedDocument, keeps_some, thinned}
use Rattle.peers.proofs.WindowLaws.{all-kept}
use Rattle.peers.proofs.WorldLaws.{left-documents}
use Rattle.peers.proofs.document_list.Documents.drop_widgets.Goals as goal

pub returns-clause-ok : goal.returns-clause-ok
returns-clause-ok g c =
    let names = texts_of c.args.names.now in
    let documents = c.args.self.now.list.items in
    c.drop_empty.ensures ∙ ap (filter (keeps_some names))
    (take_at c.drop_widgets.new.documents (drop (length c.drop_widgets.new.documents) documents)
    c.args.self.now.list.len
    (omega (arith, c.drop_widgets.auto.documents, ap length c.deref_mut.ensures.value, c.args.self.now.list.ok.0))
    ∙ c.in_ok-drop_widgets.ensures.ok ∙ ap (map (thinned names)) c.deref_mut.ensures.value)
    ∙ left-documents names c.args.self.now.list.items

pub returns-clause-well_formed : goal.returns-clause-well_formed
returns-clause-well_formed g c = λ limits all.
    let documents = c.args.self.now.list.items in
    subst (AllByRecursion (IsWellFormedDocument limits))
    (sym (c.drop_empty.ensures ∙ ap (filter (keeps_some (texts_of c.args.names.now)))
    (take_at c.drop_widgets.new.documents
    (drop (length c.drop_widgets.new.documents) documents) c.args.self.now.list.len
    (omega (
      arith,
      c.drop_widgets.auto.documents,
      ap length c.deref_mut.ensures.value,
      c.args.self.now.list.ok.0,
    )))))
    (all-kept (IsWellFormedDocument limits) (keeps_some (texts_of c.args.names.now)) c.drop_widgets.new.documents
    (c.drop_widgets.ensures.well_formed limits
    (subst (AllByRecursion (IsWellFormedDocument limits)) (sym c.deref_mut.ensures.value) all)))
