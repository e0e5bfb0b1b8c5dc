use Rattle.search_dump.proofs.Common.{part_of, shown, ℕ, List, [], ap, get_or, chars, string_bytes, subst, sym, ◌∙◌}
use Rattle.search_dump.proofs.Common.{OnOk, get_or_from_slice_get, on_ok_weaker, Goes, element, if_listed}
use Rattle.tag_table.specs.Tags.{names_of}
use Rattle.search_dump.proofs.dumping.push_tag.Goals as goal

pub returns : goal.returns
returns g c =
    let tags = names_of c.args.sight.now.names.now.tags.now.tags in
    let text = shown (part_of c.args.sight.now.view.now) in
    let written : List ℕ → List (List ℕ) = λ name. element (chars c.args.key.now) text c.args.spot.place name in
    subst (λ words. OnOk c.push.result
    (Goes (string_bytes c.args.out.now.list) (string_bytes c.push.new.self.list) words))
    (ap written (sym (get_or_from_slice_get tags c.args.at (chars c.name.result.now) [] c.name.ensures))
    ∙ sym (ap (λ b. if_listed b (written (get_or tags c.args.at []))) c.if-not-is_listed.false))
    (on_ok_weaker c.push.result (λ all. all text c.requires.spot) c.push.ensures)
