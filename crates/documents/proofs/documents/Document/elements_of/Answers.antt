use Rattle.documents.proofs.Common.{part_of, ap, ◌∙◌, arith, list_text, dump_elements, seen_by, parts_of}
use Rattle.documents.proofs.PartsLaws.{stand}
use Rattle.documents.proofs.QueryLaws.{spelled}
use Rattle.documents.proofs.SeenLaws.{seen-found}
use Rattle.documents.proofs.ViewLaws.{IsSeen, length-found, ordered-found, see-part, view-there}
use Rattle.documents.proofs.documents.Document.elements_of.Given.{Over}
use Rattle.documents.proofs.documents.Document.elements_of.Goals.{After-lined-view}
use Rattle.documents.proofs.documents.Document.elements_of.Goals as goal

pub view_of-requires : goal.view_of-requires
view_of-requires g c =
    view-there c.args.seat (stand c.self.invariant c.self.view_is) c.number-slot.ensures.value c.deref.ensures.value

-- the view of the widget
seen : (g : Over) (c : After-lined-view g)
    → IsSeen (parts_of g.S.TextStore.content c.self.inside) c.args.self.now c.args.seat c.number-slot.result
    (g.S.TextStore.content c.lined-view.result.store.now) c.lined-view.result.start c.lined-view.result.end
seen g c =
    see-part (stand c.self.invariant c.self.view_is) c.number-slot.ensures.value c.deref.ensures.value
    (c.lined-view.ensures ∙ c.view_of.ensures)

pub dump-requires-clause-from : goal.dump-requires-clause-from
dump-requires-clause-from g c =
    let sight = seen g (goal.at.dump-requires-clause-from g c).After-lined-view in
    omega (arith, c.requires.from, length-found sight, ordered-found sight)

pub dump-requires-clause-to : goal.dump-requires-clause-to
dump-requires-clause-to g c =
    let sight = seen g (goal.at.dump-requires-clause-to g c).After-lined-view in
    omega (arith, c.requires.to, length-found sight, ordered-found sight)

pub returns : goal.returns
returns g c =
    let old = c.self.inside in
    let found = c.lined-view.result in
    c.new.ensures
    ∙ spelled c.in_ok-dump.field-0 (dump_elements c.args.listed
    (seen_by (record {
      part = part_of found;
      tags = old.tags.tags;
      marks = old.marks.marks;
      widget = c.number-slot.result;
    }))
    c.args.from c.args.to) c.in_ok-dump.ensures
    ∙ ap (λ seen. list_text (dump_elements c.args.listed seen c.args.from c.args.to))
    (seen-found (seen g (goal.at.returns g c).After-lined-view))
