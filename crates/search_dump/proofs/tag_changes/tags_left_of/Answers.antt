use Rattle.search_dump.proofs.Common.{part_of, ◌<◌, arith, shown_flags}
use Rattle.search_dump.proofs.TagLaws.{none-before, some-before}
use Rattle.search_dump.proofs.tag_changes.tags_left_of.Goals as goal

pub returns-then-place-eq0 : goal.returns-then-place-eq0
returns-then-place-eq0 g c slot =
    let view = c.args.view.now in
    none-before (shown_flags slot (part_of view)) c.args.place
    (omega (arith, c.if-place-eq0.true)) c.empty.result c.empty.ensures slot

pub returns : goal.returns
returns g c =
    let view = c.args.view.now in
    let some : 0 < c.args.place = omega (arith, c.if-place-eq0.false) in
    some-before (part_of view) c.args.place c.tags_at.result some
    c.requires.within c.tags_at.ensures
