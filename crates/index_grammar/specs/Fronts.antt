-- What a front of a word can name, by its form.
use Rattle.std.specs.Prelude.{◌≡◌, ◌<◌, ◌≤◌, ℕ, true, List, length, take, drop, chars, Option, None}
use Rattle.index_grammar.specs.Characters.{closes}
use Rattle.index_grammar.specs.Grammar.{marked, tagged}
use Rattle.mark_table.specs.SharedMarks as shared_marks
use Rattle.tag_table.specs.Tags as shared_tags
use Rattle.index_grammar.specs.Names.{known_marks, known_tags}
use Rattle.index_grammar.specs.declared.indices.Base.{Base}
use Rattle.index_grammar.specs.declared.names.Names.{Names}
use Rattle.index_grammar.specs.declared.fronts.Form.{Form}
use Rattle.index_grammar.specs.declared.fronts.Form.TheVariants as form

abbrev pub named : Form → Names → List ℕ → Option Base
named form.Mark names front = marked (known_marks names.marks.now.marks names.widget.0) front
named form.Tag names front = tagged (known_tags names.tags.now.tags names.widget.0) front

-- the names in the table that a form is about
abbrev pub names_in : Form → Names → List (List ℕ)
names_in form.Mark names = shared_marks.names_of names.marks.now.marks
names_in form.Tag names = shared_tags.names_of names.tags.now.tags

-- no closed front of a word has more than so many bytes and names something
abbrev pub IsBound : (List ℕ → Option Base) → List ℕ → ℕ → Type 0
IsBound named word most =
    (end : ℕ) → most < end → end ≤ length word → closes (drop end word) ≡ true → named (chars (take end word)) ≡ None
