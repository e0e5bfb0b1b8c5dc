use Rattle.command_table.proofs.Common.{[], ◌∷◌, refl, arith, literal, codes}
use Rattle.std.specs.Str.{chars}
use Rattle.command_table.proofs.PlaceLaws.{by_bytes}
use Rattle.command_table.proofs.entries.place_in_tag.Goals as goal

pub returns-in-add : goal.returns-in-add
unfolding chars
returns-in-add c = by_bytes (literal "tag" ∷ []) 12 c.args.word.now (codes "add") (omega arith) (grind arith) (λ rest. (omega arith, refl))

pub returns-in-remove : goal.returns-in-remove
unfolding chars
returns-in-remove c = by_bytes (literal "tag" ∷ []) 13 c.args.word.now (codes "remove") (omega arith) (grind arith) (λ rest. (omega arith, refl))

pub returns-in-delete : goal.returns-in-delete
unfolding chars
returns-in-delete c = by_bytes (literal "tag" ∷ []) 14 c.args.word.now (codes "delete") (omega arith) (grind arith) (λ rest. (omega arith, refl))

pub returns-in-names : goal.returns-in-names
unfolding chars
returns-in-names c = by_bytes (literal "tag" ∷ []) 15 c.args.word.now (codes "names") (omega arith) (grind arith) (λ rest. (omega arith, refl))

pub returns-in-ranges : goal.returns-in-ranges
unfolding chars
returns-in-ranges c = by_bytes (literal "tag" ∷ []) 16 c.args.word.now (codes "ranges") (omega arith) (grind arith) (λ rest. (omega arith, refl))

pub returns-in-nextrange : goal.returns-in-nextrange
unfolding chars
returns-in-nextrange c = by_bytes (literal "tag" ∷ []) 17 c.args.word.now (codes "nextrange") (omega arith) (grind arith) (λ rest. (omega arith, refl))

pub returns-in-prevrange : goal.returns-in-prevrange
unfolding chars
returns-in-prevrange c = by_bytes (literal "tag" ∷ []) 18 c.args.word.now (codes "prevrange") (omega arith) (grind arith) (λ rest. (omega arith, refl))

pub returns-in-raise : goal.returns-in-raise
unfolding chars
returns-in-raise c = by_bytes (literal "tag" ∷ []) 19 c.args.word.now (codes "raise") (omega arith) (grind arith) (λ rest. (omega arith, refl))

pub returns-in-lower : goal.returns-in-lower
unfolding chars
returns-in-lower c = by_bytes (literal "tag" ∷ []) 20 c.args.word.now (codes "lower") (omega arith) (grind arith) (λ rest. (omega arith, refl))
