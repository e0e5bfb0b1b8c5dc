use Rattle.name_list.proofs.Common.{Some, ap, sym, ◌∙◌, option_map, chars, slice_get-map, Named, named}
use Rattle.name_list.proofs.names.NameList.name.Goals as goal

pub returns : goal.returns
returns c =
    let entries = c.self.inside.numbers.entries in
    let found = sym c.get_index.ensures.entry ∙ ap (option_map (λ p. (p.0.now, p.1.now))) c.unwrap.ensures in
    rw (← c.self.view_is) (slice_get-map (λ (e : Named). e.name) _ c.args.place
    ∙ ap (option_map (λ (e : Named). e.name)) (slice_get-map named entries c.args.place
    ∙ ap (option_map named) found) ∙ ap (λ bytes. Some (chars bytes)) (sym c.as_str.ensures.value))
