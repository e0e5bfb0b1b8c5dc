use Rattle.std.proofs.Common.{◌≡◌, refl, sym, ◌∙◌, subst}
use Rattle.std.specs.Prelude.{IsSome}
use Rattle.std.specs.FinMap as finite
use Rattle.std.proofs.lemmas.Option.{same_Some}
use Rattle.raw_nodes.specs.Names.{records}
use Rattle.raw_nodes.proofs.MapLaws.{at_some}
use Rattle.tree_bench.proofs.shape.is_linked.Goals as goal

pub parent-requires : goal.parent-requires
parent-requires c = subst (λ o. IsSome o) (sym c.requires.link.is) refl

pub same-requires : goal.same-requires
same-requires c = let m = records c.args.store.now in let link = c.requires.link in
    let up = at_some (finite.get m c.args.child) (λ r. c.parent.result
    ≡ r.parent) link.found c.parent.ensures.value link.is ∙ link.parent in
    let e = same_Some c.args.node c.in-Some.parent (sym up ∙ c.in-Some.is) in
    record { names = (subst (λ q. IsSome (finite.get m q)) e c.requires.node, c.requires.node) }
