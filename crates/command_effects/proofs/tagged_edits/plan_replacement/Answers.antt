use Rattle.command_effects.proofs.PieceLaws.{scalar-pairs}
use Rattle.command_effects.proofs.tagged_edits.plan_replacement.Goals as goal

pub returns-clause-scalars : goal.returns-clause-scalars
returns-clause-scalars g c =
    scalar-pairs c.make_pieces.new.tags.tags c.args.own.0 c.args.pairs.items c.in_ok-pieces.pieces.items
    c.in_ok-pieces.ensures.pieces c.in_ok-plan_replace.ensures.scalars
