use Rattle.documents.proofs.Common.{◌<◌, ◌≤◌, None, Ok, Empty, length, arith, chars, widget_at, parts_of, set_found}
use Rattle.documents.proofs.ChangeLaws.{Leaves}
use Rattle.documents.proofs.MarkLaws.{leaves-made}
use Rattle.documents.proofs.PartsLaws.{cells-kept, stand}
use Rattle.documents.proofs.SetMarkLaws.{new-name}
use Rattle.documents.proofs.documents.Document.make_mark.Given.{Over}
use Rattle.documents.proofs.documents.Document.make_mark.Goals.{In_ok-make_mark}
use Rattle.documents.proofs.documents.Document.make_mark.Goals as goal

pub make_mark-requires-clause-new : goal.make_mark-requires-clause-new
make_mark-requires-clause-new g c =
    (new-name (stand c.self.invariant c.self.view_is) (widget_at c.args.self.now c.args.seat) (chars c.args.name.now)
    c.requires.new).1

-- what is left where the mark was made
left : (g : Over) (c : In_ok-make_mark g)
    → Leaves c.args.limits.now (record (parts_of g.S.TextStore.content c.self.inside) {
      marks = c.make_mark.new.marks;
      content = g.S.TextStore.content c.make_mark.new.store;
    }) c.args.self.now (Ok Empty) (set_found c.args.limits.now c.args.self.now
    (widget_at c.args.self.now c.args.seat) (chars c.args.name.now) c.args.offset None)
left g c =
    let document = c.args.self.now in
    let parts = parts_of g.S.TextStore.content c.self.inside in
    let stands = stand c.self.invariant c.self.view_is in
    let word = chars c.args.name.now in
    let widget = widget_at document c.args.seat in
    let within : c.args.offset ≤ length parts.content.cells = omega (
      arith,
      c.requires.within,
      cells-kept parts document stands.is,
    ) in
    let few : length parts.marks.marks < c.args.limits.now.marks = omega (
      arith,
      c.len.ensures.value,
      c.marks.ensures.value,
      c.if-len-marks.false,
    ) in
    leaves-made c.args.limits.now parts c.make_mark.new.marks (g.S.TextStore.content c.make_mark.new.store) document widget
    word c.args.offset stands within (new-name stands widget word c.requires.new).0 few
    c.in_ok-make_mark.ensures.made

pub invariant_of-self-2 : goal.invariant_of-self-2
invariant_of-self-2 g c = (left g c).sound

pub returns : goal.returns
returns g c = (left g c).does
