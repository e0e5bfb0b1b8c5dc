-- The names that an index can have in it.
use Rattle.std.specs.Prelude.{ℕ, ◌+◌, ◌*◌, ◌==◌, List, Option, Some, option_map, codes, bytes_eq, if◌then◌else◌}
use Rattle.mark_table.specs.SharedMarks.{Mark, number_of}
use Rattle.tag_table.specs.Tags.{Tag, slot_of}

-- the number of a mark: of a widget's own two, or of a shared one
abbrev pub known_marks : List Mark → ℕ → List ℕ → Option ℕ
known_marks marks widget name =
    if bytes_eq name (codes "insert") then Some (2 * widget)
    else (if bytes_eq name (codes "current") then Some (2 * widget + 1)
    else number_of name marks)

-- the slot of a tag: for `sel`, which has slot 0, the widget's own
abbrev pub known_tags : List Tag → ℕ → List ℕ → Option ℕ
known_tags tags widget name = option_map (λ slot. if slot == 0 then widget else slot) (slot_of name tags)
