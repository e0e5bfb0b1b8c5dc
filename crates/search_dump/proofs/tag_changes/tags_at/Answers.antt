use Rattle.search_dump.proofs.Common.{part_of, ◌≡◌, ◌+◌, ◌<◌, arith, shown, length-shown, length}
use Rattle.search_dump.proofs.TagLaws.{none-behind, slots-shown}
use Rattle.search_dump.proofs.tag_changes.tags_at.Goals as goal

pub returns-then-place-len : goal.returns-then-place-len
returns-then-place-len g c =
    let view = c.args.view.now in
    let is : c.args.place ≡ length (shown (part_of view)) = omega (arith, c.if-place-len.true, c.len.ensures) in
    none-behind (part_of view) c.args.place view.whole_lines is c.empty.result c.empty.ensures

pub returns : goal.returns
returns g c =
    let view = c.args.view.now in
    let inside : view.start + c.args.place < view.end = omega (
      arith,
      c.requires.within,
      c.if-place-len.false,
      c.len.ensures,
      length-shown (part_of view) view.whole_lines,
    ) in
    slots-shown (part_of view) c.args.place c.tags_at.result inside c.tags_at.ensures
