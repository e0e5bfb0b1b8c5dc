use Rattle.peers.proofs.Common.{◌≡◌, ◌<◌, ◌≤◌, Some, true, is_some, sym, ap, subst, ◌∙◌, arith, chars, length}
use Rattle.peers.proofs.Common.{AllByRecursion, Document, is_among, take_all, widget_at, widget_named, window_names}
use Rattle.peers.proofs.FrontLaws.{home-first}
use Rattle.peers.proofs.HomeLaws.{IsWithout, home-none, without-next}
use Rattle.peers.proofs.WorldLaws.{read-is}
use Rattle.peers.proofs.document_list.Documents.find.Goals as goal

pub loop-place-preserved : goal.loop-place-preserved
loop-place-preserved g c =
    let documents = c.args.self.now.list.items in
    let within : c.loop-place.place < length documents = omega (
      arith,
      c.loop-place-test.true,
      c.len-place-end.ensures,
      c.args.self.now.list.ok.0,
    ) in
    without-next (chars c.args.name.now) documents c.loop-place.place c.index.result.now within c.index.ensures
    (sym c.find_widget.ensures.named ∙ ap is_some c.in_default.is) c.loop-place.invariant

pub returns-in-Some-clause-some : goal.returns-in-Some-clause-some
returns-in-Some-clause-some g c =
    let documents = c.args.self.now.list.items in let name = chars c.args.name.now in
    let within : c.loop-place.place < length documents = omega (
      arith,
      c.loop-place-test.true,
      c.len-place-end.ensures,
      c.args.self.now.list.ok.0,
    ) in
    let read = read-is documents c.loop-place.place c.index.result.now within c.index.ensures in
    record {
      found = home-first name documents c.loop-place.place within c.loop-place.invariant
          (subst (λ (d : Document). is_among name (window_names d) ≡ true) read
          (sym c.find_widget.ensures.named ∙ ap is_some c.in-Some.is));
      within = within;
      shown = subst (λ (d : Document). c.in-Some.seat < length d.widgets) read c.in-Some.ensures.within;
      named = subst (λ (d : Document). widget_named name d ≡ Some (widget_at d c.in-Some.seat)) read
          c.in-Some.ensures.some;
    }

pub returns-clause-none : goal.returns-clause-none
returns-clause-none g c = λ _.
    let documents = c.args.self.now.list.items in let name = chars c.args.name.now in
    let past : length documents ≤ c.loop-place.place = omega (
      arith,
      c.loop-place-test.false,
      c.len-place-end.ensures,
      c.args.self.now.list.ok.0,
    ) in
    home-none name documents (subst (AllByRecursion (IsWithout name)) (take_all c.loop-place.place documents past)
    c.loop-place.invariant)
