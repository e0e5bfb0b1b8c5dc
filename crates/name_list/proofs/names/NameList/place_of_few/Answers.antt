use Rattle.name_list.proofs.Common.{rules, tests, sym, ◌∙◌, Global, bytes_eq, string_bytes, String}
use Rattle.std.proofs.lemmas.Iterator.Consumers.{YieldsList-from_rest}
use Rattle.std.proofs.lemmas.Iterator.Search.{position_from_yields_List}
use Rattle.name_list.proofs.ViewLaws.{place_seen}
use Rattle.name_list.proofs.names.NameList.place_of_few.Goals as goal

pub returns : goal.returns
returns c = rw (← c.self.view_is) (position_from_yields_List
    (λ (key : String Global). bytes_eq c.args.name.now (string_bytes key)) _ _ c.position.result c.position.ensures.ran
    (YieldsList-from_rest _ c.keys.ensures.rest) (λ x b q k. search (rules, tests))
    ∙ sym (place_seen c.args.name.now c.utf8.name c.self.inside.numbers.entries))
