use Rattle.command_table.proofs.Common.{[], ◌∷◌, refl, arith, literal, codes}
use Rattle.std.specs.Str.{chars}
use Rattle.command_table.proofs.PlaceLaws.{by_bytes}
use Rattle.command_table.proofs.entries.place_in_mark.Goals as goal

pub returns-in-gravity : goal.returns-in-gravity
unfolding chars
returns-in-gravity c = by_bytes (literal "mark" ∷ []) 6 c.args.word.now (codes "gravity") (omega arith) (grind arith) (λ rest. (omega arith, refl))

pub returns-in-names : goal.returns-in-names
unfolding chars
returns-in-names c = by_bytes (literal "mark" ∷ []) 7 c.args.word.now (codes "names") (omega arith) (grind arith) (λ rest. (omega arith, refl))

pub returns-in-next : goal.returns-in-next
unfolding chars
returns-in-next c = by_bytes (literal "mark" ∷ []) 8 c.args.word.now (codes "next") (omega arith) (grind arith) (λ rest. (omega arith, refl))

pub returns-in-previous : goal.returns-in-previous
unfolding chars
returns-in-previous c = by_bytes (literal "mark" ∷ []) 9 c.args.word.now (codes "previous") (omega arith) (grind arith) (λ rest. (omega arith, refl))

pub returns-in-set : goal.returns-in-set
unfolding chars
returns-in-set c = by_bytes (literal "mark" ∷ []) 10 c.args.word.now (codes "set") (omega arith) (grind arith) (λ rest. (omega arith, refl))

pub returns-in-unset : goal.returns-in-unset
unfolding chars
returns-in-unset c = by_bytes (literal "mark" ∷ []) 11 c.args.word.now (codes "unset") (omega arith) (grind arith) (λ rest. (omega arith, refl))
