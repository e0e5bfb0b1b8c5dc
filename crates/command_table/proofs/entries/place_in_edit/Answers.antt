use Rattle.command_table.proofs.Common.{[], ◌∷◌, refl, arith, literal, codes}
use Rattle.std.specs.Str.{chars}
use Rattle.command_table.proofs.PlaceLaws.{by_bytes}
use Rattle.command_table.proofs.entries.place_in_edit.Goals as goal

pub returns-in-modified : goal.returns-in-modified
unfolding chars
returns-in-modified c = by_bytes (literal "edit" ∷ []) 21 c.args.word.now (codes "modified") (omega arith) (grind arith) (λ rest. (omega arith, refl))

pub returns-in-undo : goal.returns-in-undo
unfolding chars
returns-in-undo c = by_bytes (literal "edit" ∷ []) 22 c.args.word.now (codes "undo") (omega arith) (grind arith) (λ rest. (omega arith, refl))

pub returns-in-redo : goal.returns-in-redo
unfolding chars
returns-in-redo c = by_bytes (literal "edit" ∷ []) 23 c.args.word.now (codes "redo") (omega arith) (grind arith) (λ rest. (omega arith, refl))

pub returns-in-reset : goal.returns-in-reset
unfolding chars
returns-in-reset c = by_bytes (literal "edit" ∷ []) 24 c.args.word.now (codes "reset") (omega arith) (grind arith) (λ rest. (omega arith, refl))

pub returns-in-separator : goal.returns-in-separator
unfolding chars
returns-in-separator c = by_bytes (literal "edit" ∷ []) 25 c.args.word.now (codes "separator") (omega arith) (grind arith) (λ rest. (omega arith, refl))
