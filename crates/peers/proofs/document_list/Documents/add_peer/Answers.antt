use Rattle.peers.proofs.Common.{◌∙◌, length, sym, ap, subst, arith, chars, is_among, Document, IsWellFormedDocument}
use Rattle.peers.proofs.Common.{window_names}
use Rattle.peers.proofs.WorldLaws.{all-at, all-changed, own-absent, own-count, read-is}
use Rattle.peers.proofs.document_list.Documents.add_peer.Goals as goal

pub add_widget-requires-clause-new : goal.add_widget-requires-clause-new
add_widget-requires-clause-new g c =
    let documents = c.args.self.now.list.items in
    let here = read-is documents c.args.place c.index_mut.result.now c.requires.place c.index_mut.ensures.value in
    ap (λ (d : Document). is_among (chars c.args.name.now) (window_names d)) here
    ∙ own-absent (chars c.args.name.now) documents c.args.place c.requires.place c.requires.new

pub add_widget-requires-clause-few : goal.add_widget-requires-clause-few
add_widget-requires-clause-few g c =
    let documents = c.args.self.now.list.items in
    let here = ap (λ (d : Document). length d.widgets)
    (read-is documents c.args.place c.index_mut.result.now c.requires.place c.index_mut.ensures.value) in
    omega (arith, here, own-count documents c.args.place c.requires.place, c.requires.few)

pub returns-clause-well_formed : goal.returns-clause-well_formed
returns-clause-well_formed g c = λ limits all.
    let documents = c.args.self.now.list.items in
    let here = read-is documents c.args.place c.index_mut.result.now c.requires.place c.index_mut.ensures.value in
    all-changed (IsWellFormedDocument limits) documents c.args.place c.add_widget.new.self all
    (c.add_widget.ensures.well_formed limits (subst (IsWellFormedDocument limits) (sym here)
    (all-at (IsWellFormedDocument limits) documents c.args.place all c.requires.place)))
