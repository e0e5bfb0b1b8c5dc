use Rattle.documents.proofs.Common.{ap, ◌∙◌, arith, chars-nil, list_text, Tag, own_slot, widget_at, parts_of, chars}
use Rattle.documents.proofs.Common.{filter, names_of}
use Rattle.documents.proofs.ListedLaws.{listed}
use Rattle.documents.proofs.PartsLaws.{stand}
use Rattle.documents.proofs.TaggedLaws.{tags_on-end, tags_on-known}
use Rattle.documents.proofs.ViewLaws.{IsSeen, ends-found, length-found, ordered-found, see-part, view-there}
use Rattle.documents.proofs.documents.Document.tags_on.Given.{Over}
use Rattle.documents.proofs.documents.Document.tags_on.Goals.{After-view_of-view}
use Rattle.std.specs.FinSet as set
use Rattle.documents.proofs.documents.Document.tags_on.Goals as goal

pub view_of-view-requires : goal.view_of-view-requires
view_of-view-requires g c =
    view-there c.args.seat (stand c.self.invariant c.self.view_is) c.number-number.ensures.value c.deref.ensures.value

-- the view of the widget
seen : (g : Over) (c : After-view_of-view g)
    → IsSeen (parts_of g.S.TextStore.content c.self.inside) c.args.self.now c.args.seat c.number-number.result
    (g.S.TextStore.content c.view_of-view.result.store.now) c.view_of-view.result.start c.view_of-view.result.end
seen g c =
    see-part (stand c.self.invariant c.self.view_is) c.number-number.ensures.value c.deref.ensures.value
    c.view_of-view.ensures

pub tags_at-requires : goal.tags_at-requires
tags_at-requires g c =
    let sight = seen g (goal.at.tags_at-requires g c).After-view_of-view in
    omega (
      arith,
      length-found sight,
      ends-found sight,
      ordered-found sight,
      c.requires.within,
      c.if-offset-view.false,
    )

pub returns-then-offset-view : goal.returns-then-offset-view
returns-then-offset-view g c =
    let long = length-found (seen g (goal.at.returns-then-offset-view g c).After-view_of-view) in
    c.new.ensures ∙ ap chars c.new-list.ensures.bytes ∙ chars-nil
    ∙ ap list_text (tags_on-end c.args.self.now (widget_at c.args.self.now c.args.seat) c.args.place
    (omega (arith, long, c.if-offset-view.true)))

pub returns : goal.returns
returns g c =
    let sight = seen g (goal.at.returns g c).After-view_of-view in
    let names = names_of (filter (λ (tag : Tag).
    set.contains c.tags_at.result (own_slot c.number-number.result tag.slot)) c.self.inside.tags.tags) in
    c.new-2.ensures ∙ listed c.push_names_in.new.list names c.new-list.ensures.bytes c.in_ok-push_names_in.ensures
    ∙ ap list_text (tags_on-known sight c.tags_at.result c.args.place (omega (
      arith,
      length-found sight,
      ordered-found sight,
      c.requires.within,
      c.if-offset-view.false,
    )) c.tags_at.ensures)
