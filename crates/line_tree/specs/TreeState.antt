-- What a tree says: its lines with their names, how high it is, how many spares and how many rooms beside them there
-- are, how many records and spares together, and for how many lines of a row it has room for their names.
use Rattle.std.specs.Prelude.{ℕ, List, refl}
use Rattle.std.specs.Coded.{Coded, code_by, coded×, coded_ℕ, coded_list}
use Rattle.segments.specs.contracts.line.Line as line_row
use Rattle.raw_nodes.specs.contracts.names.NodePtr as name_row
use Rattle.line_tree.specs.Trees.{Named}

pub record TreeState : Type 0 where
  pub lines : List Named
  pub height : ℕ
  pub spares : ℕ
  pub rooms : ℕ
  pub nodes : ℕ
  pub row_room : ℕ

abbrev pub named_code : Coded Named
named_code = coded× name_row.the_row.coded line_row.the_row.coded

abbrev pub state_code : Coded TreeState
state_code =
    code_by _
    (coded× (coded_list named_code) (coded× coded_ℕ (coded× coded_ℕ (coded× coded_ℕ (coded× coded_ℕ coded_ℕ)))))
    (λ s. (s.lines, (s.height, (s.spares, (s.rooms, (s.nodes, s.row_room))))))
    (λ p. record {
      lines = p.0;
      height = p.1.0;
      spares = p.1.1.0;
      rooms = p.1.1.1.0;
      nodes = p.1.1.1.1.0;
      row_room = p.1.1.1.1.1;
    })
    (λ _. refl)
