use Rattle.line_tree.proofs.Common.{◌∙◌, ap, kids, records}
use mathlib.Core.Bool.{not}
use Rattle.line_tree.proofs.SpreadLaws.{room-none, room-some}
use Rattle.line_tree.proofs.spread.has_room.Goals as goal

pub returns-clause-yes : goal.returns-clause-yes
returns-clause-yes g c = λ yes. room-some (kids (records c.args.store.now) c.args.node) c.kid.result c.args.room
    c.kid.ensures c.requires.few (c.is_none.ensures ∙ ap not yes)

pub returns-clause-no : goal.returns-clause-no
returns-clause-no g c = λ none. room-none (kids (records c.args.store.now) c.args.node) c.kid.result c.args.room
    c.kid.ensures c.requires.few (c.is_none.ensures ∙ ap not none)
