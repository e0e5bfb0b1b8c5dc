use Rattle.search_dump.proofs.Common.{part_of, outlook, shown, ap, ap₂, arith, string_bytes, subst, sym, ◌∙◌, OnOk}
use Rattle.search_dump.proofs.Common.{length-map, on_ok_weaker, Mark, names_of, Goes, element, if_listed, mark_element}
use Rattle.search_dump.proofs.Common.{shown_of}
use Rattle.search_dump.proofs.MarkOrderLaws.{usable-placed}
use Rattle.search_dump.proofs.PlainWords.{mark-plain}
use Rattle.search_dump.proofs.SeenLaws.{mark-characters}
use Rattle.search_dump.proofs.dumping.push_mark.Goals as goal

pub name-requires : goal.name-requires
name-requires g c =
    let view = c.args.sight.now.view.now in
    let names = c.args.sight.now.names.now in
    let placed = usable-placed (outlook c.args.sight.now)
    (shown_of view.start c.args.mark) view.whole_lines.ordered c.requires.usable in
    omega (arith, placed.known, length-map names.marks.now.marks (λ (mark : Mark). mark.number))

pub returns : goal.returns
returns g c =
    let view = c.args.sight.now.view.now in
    let names = names_of c.args.sight.now.names.now.marks.now.marks in
    let text = shown (part_of view) in
    subst (λ xs. OnOk c.push.result (Goes (string_bytes c.args.out.now.list) (string_bytes c.push.new.self.list)
    xs))
    (ap₂ (λ key name. element key text c.args.spot.place name) mark-characters c.name.ensures
    ∙ sym (ap (λ b. if_listed b (mark_element text names c.args.spot.place (shown_of view.start c.args.mark)))
    c.if-not-is_listed.false))
    (on_ok_weaker c.push.result (λ all. all text c.requires.spot) c.push.ensures)

pub push-requires-clause-plain : goal.push-requires-clause-plain
push-requires-clause-plain g c = mark-plain
