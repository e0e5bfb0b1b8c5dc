-- The lines of the tests of lists: `a`, and `b` with a toggle and a mark before its newline.
use Rattle.std.specs.Prelude.{true, List, [], ◌∷◌}
use Rattle.std.specs.FinMap as finite
use Rattle.text_model.specs.declared.places.Gravity.TheVariants.{Left}
use Rattle.text_model.specs.declared.places.Place.{Place}
use Rattle.text_model.specs.Splices.{changed}
use Rattle.segments.specs.Columns.{LineContent, plain_columns, plain_line, with_toggle}

abbrev pub worked_place : Place
worked_place = record { offset = 1; gravity = Left }

abbrev pub marked_line : LineContent
marked_line = record {
  columns = changed (with_toggle 70 true) 1 2 (plain_columns (98 ∷ 10 ∷ []));
  marks = finite.insert finite.empty 3 worked_place;
}

abbrev pub worked_lines : List LineContent
worked_lines = plain_line (97 ∷ 10 ∷ []) ∷ marked_line ∷ []
