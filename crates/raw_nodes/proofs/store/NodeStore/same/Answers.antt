use Rattle.raw_nodes.proofs.Common.{◌≡◌, ap, arith, sym, ◌∙◌, nat_tests, number_in}
use Rattle.raw_nodes.specs.Names.{records}
use Rattle.raw_nodes.proofs.NameLaws.{name_place}
use Rattle.raw_nodes.proofs.PlaceLaws.{same_number}
use Rattle.raw_nodes.proofs.store.NodeStore.same.Goals as goal

pub place-requires : goal.place-requires
unfolding records
place-requires g c = let h = c.args.self.now.heap in name_place h.places h.values c.args.a h.paired c.requires.names.0

pub place-requires-2 : goal.place-requires-2
unfolding records
place-requires-2 g c = let h = c.args.self.now.heap in name_place h.places h.values c.args.b h.paired c.requires.names.1

pub returns-clause-yes : goal.returns-clause-yes
unfolding records
returns-clause-yes g c told =
    let h = c.args.self.now.heap in let a = c.args.a in let b = c.args.b in
    let alike : c.place.result ≡ c.place-2.result = grind (arith, nat_tests, told) in
    same_number h.places a b (name_place h.places h.values a h.paired c.requires.names.0)
    (name_place h.places h.values b h.paired c.requires.names.1) (sym c.place.ensures ∙ alike ∙ c.place-2.ensures)

pub returns-clause-no : goal.returns-clause-no
returns-clause-no g c told one_name =
    let h = c.args.self.now.heap in
    let alike : c.place.result ≡ c.place-2.result = c.place.ensures ∙ ap (number_in h.places) one_name
    ∙ sym c.place-2.ensures in
    grind (arith, nat_tests, told, alike)
