use Rattle.command_table.proofs.Common.{[], ◌∷◌, refl, arith, literal, codes}
use Rattle.std.specs.Str.{chars}
use Rattle.command_table.proofs.PlaceLaws.{by_bytes}
use Rattle.command_table.proofs.entries.place_in_peer.Goals as goal

pub returns-in-create : goal.returns-in-create
unfolding chars
returns-in-create c = by_bytes (literal "peer" ∷ []) 31 c.args.word.now (codes "create") (omega arith) (grind arith) (λ rest. (omega arith, refl))

pub returns-in-names : goal.returns-in-names
unfolding chars
returns-in-names c = by_bytes (literal "peer" ∷ []) 32 c.args.word.now (codes "names") (omega arith) (grind arith) (λ rest. (omega arith, refl))
