use Rattle.documents.proofs.Common.{◌==◌, eq-eqb, nat_tests, arith, ◌≡◌, Bool, true, false, get_or, Ok, Some, ◌∙◌, sym}
use Rattle.documents.proofs.Common.{ap, subst, chars, widget_at, parts_of, is_idle, Gives, with_value, place_at}
use Rattle.documents.proofs.Common.{insertion_at, Stands}
use Rattle.documents.proofs.InsertionPlaceLaws.{at_place, gives-with, idle-found, none-inserted, some-inserted}
use Rattle.documents.proofs.PartsLaws.{sits, stand}
use Rattle.documents.proofs.ViewLaws.{IsSeen, flag-at, see-part, view-there}
use Rattle.documents.proofs.documents.Document.insertion_at.Given.{Over}
use Rattle.documents.proofs.documents.Document.insertion_at.Goals.{After-deref, After-view_of-view, After-index}
use Rattle.documents.proofs.documents.Document.insertion_at.Goals.{then-index-via-then-index}
use Rattle.documents.proofs.documents.Document.insertion_at.Goals.{then-index-via-else-index+then-view}
use Rattle.documents.proofs.documents.Document.insertion_at.Goals as goal

-- the document is as it was
stands : (g : Over) (c : After-deref g) → Stands (parts_of g.S.TextStore.content c.self.inside) c.args.self.now
stands g c =
    subst (Stands (parts_of g.S.TextStore.content c.self.inside)) c.seek.ensures.same
    (stand c.self.invariant c.self.view_is)

pub view_of-view-requires-clause-slot : goal.view_of-view-requires-clause-slot
view_of-view-requires-clause-slot g c =
    let at = (goal.at.view_of-view-requires-clause-slot g c).After-deref in
    (view-there c.args.seat (stands g at) c.number-slot.ensures.value c.deref.ensures.value).slot

pub view_of-view-requires-clause-lines : goal.view_of-view-requires-clause-lines
view_of-view-requires-clause-lines g c =
    let at = (goal.at.view_of-view-requires-clause-lines g c).After-deref in
    (view-there c.args.seat (stands g at) c.number-slot.ensures.value c.deref.ensures.value).lines

-- the view of the widget
seen : (g : Over) (c : After-view_of-view g) → Stands (parts_of g.S.TextStore.content c.self.inside) c.args.self.now
    → IsSeen (parts_of g.S.TextStore.content c.self.inside) c.args.self.now c.args.seat c.number-slot.result
    (g.S.TextStore.content c.view_of-view.result.store.now) c.view_of-view.result.start c.view_of-view.result.end
seen g c stands = see-part stands c.number-slot.ensures.value c.deref.ensures.value c.view_of-view.ensures

pub index-requires : goal.index-requires
index-requires g c =
    let at = (goal.at.index-requires g c).After-deref in
    let seat = sits c.args.seat (stands g at) c.number-slot.ensures.value in
    omega (arith, seat.disabled, c.self.inside.disabled.ok.0)

-- what comes of the place that the index gives
gives : (g : Over) (c : After-index g)
    → Gives (with_value c.seek.result (at_place c.args.self.now (widget_at c.args.self.now c.args.seat)))
    (insertion_at c.args.self.now (widget_at c.args.self.now c.args.seat) c.args.position (chars c.args.word.now))
gives g c =
    let widget = widget_at c.args.self.now c.args.seat in
    gives-with c.seek.result (place_at c.args.self.now widget c.args.position (chars c.args.word.now))
    (at_place c.args.self.now widget) c.seek.ensures.value

-- whether the widget is disabled
flag : (g : Over) (c : After-index g) → Stands (parts_of g.S.TextStore.content c.self.inside) c.args.self.now
    → (is : Bool) → c.index.result.now ≡ is → get_or c.self.inside.disabled.items c.number-slot.result false ≡ is
flag g c stands is same =
    let seat = sits c.args.seat stands c.number-slot.ensures.value in
    flag-at c.self.inside.disabled.items c.number-slot.result c.index.result.now is seat.disabled c.index.ensures same

pub returns-then-index-clause-value : goal.returns-then-index-clause-value
returns-then-index-clause-value g c =
    let at = goal.at.returns-then-index-clause-value g c in
    let widget = widget_at c.args.self.now c.args.seat in
    let stands = stands g at.After-deref in
    let sight = seen g at.After-view_of-view stands in
    let idle : is_idle c.args.self.now widget ≡ true = elim c.then-index.branch [
      | then-index-via-then-index w ↦ idle-found sight (flag g at.After-index stands true w.if-index.true)
      | then-index-via-else-index+then-view w ↦
          idle-found sight (flag g at.After-index stands false w.if-index.false)
          ∙ eq-eqb c.view_of-view.result.start c.view_of-view.result.end w.if-view.true
    ] in
    subst (λ result. Gives result (insertion_at c.args.self.now widget c.args.position (chars c.args.word.now)))
    (ap (λ placed. with_value placed (at_place c.args.self.now widget)) c.in_ok-place.was
    ∙ none-inserted c.args.self.now widget c.in_ok-place.place idle)
    (gives g at.After-index)

pub returns-clause-value : goal.returns-clause-value
returns-clause-value g c =
    let at = goal.at.returns-clause-value g c in
    let widget = widget_at c.args.self.now c.args.seat in
    let stands = stands g at.After-deref in
    let sight = seen g at.After-view_of-view stands in
    let apart = c.if-view.false in
    let shows : (c.view_of-view.result.start == c.view_of-view.result.end) ≡ false = grind (arith, nat_tests) in
    let active = idle-found sight (flag g at.After-index stands false c.if-index.false) ∙ shows in
    subst (λ result. Gives result (insertion_at c.args.self.now widget c.args.position (chars c.args.word.now)))
    (ap (λ placed. with_value placed (at_place c.args.self.now widget)) c.in_ok-place.was
    ∙ some-inserted sight c.in_ok-place.place active ∙ ap (λ offset. Ok (Some offset)) (sym c.min.ensures))
    (gives g at.After-index)
