-- Modifiers as they are read.
use Rattle.std.specs.Prelude.{ℕ, List, [], ◌++◌, map, Option, Some, None, option_map}
use Rattle.std.specs.Borrow.{Bor}
use Rattle.index_grammar.specs.Grammar.{tokens_of, modifiers_of, before, saturated_base, saturated_modifier, WholeIndex}
use Rattle.index_grammar.specs.declared.indices.Modifier.{Modifier}

-- with numbers as a machine has them
abbrev pub saturated : Option (List Modifier) → Option (List Modifier)
saturated found = option_map (map saturated_modifier) found

-- a modifier before those of what stands behind it
abbrev pub stepped : Option (Modifier × Bor (List ℕ)) → Option (List Modifier)
stepped None = None
stepped (Some found) = before (Some found.0) (saturated (modifiers_of (tokens_of found.1.now)))

-- the modifiers of a text of which the first was read, or nothing where there is none
abbrev pub left : Option (Modifier × Bor (List ℕ)) → Option (List Modifier)
left None = Some []
left (Some found) = stepped (Some found)

-- modifiers before others
abbrev pub after : List Modifier → Option (List Modifier) → Option (List Modifier)
after first others = option_map (λ rest. first ++ rest) others

abbrev pub saturated_index : Option WholeIndex → Option WholeIndex
saturated_index found =
    option_map (λ (index : WholeIndex). (saturated_base index.0, map saturated_modifier index.1)) found
