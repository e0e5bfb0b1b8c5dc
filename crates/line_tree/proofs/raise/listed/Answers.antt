use Rattle.line_tree.proofs.Common.{◌≡◌, get_or, None, ap, ◌∙◌, kids, records, at_some, get_or-row}
use Rattle.std.specs.FinMap as finite
use Rattle.line_tree.proofs.raise.listed.Goals as goal

pub returns : goal.returns
returns g c = let m = records c.args.store.now in let has = c.requires.slots in
    at_some (finite.get m c.args.node) (λ r. c.child.result ≡ get_or r.children c.args.i None) has.found c.child.ensures.value
    has.is
    ∙ ap (λ xs. get_or xs c.args.i None) has.children ∙ get_or-row (kids m c.args.node) c.args.i
