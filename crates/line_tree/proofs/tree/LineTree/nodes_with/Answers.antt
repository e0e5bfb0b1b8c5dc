use Rattle.line_tree.proofs.Common.{◌≡◌, ◌≤◌, ◌+◌, ◌/◌, subst, arith, rules, names, records, tree_at}
use Rattle.line_tree.proofs.CountLaws.{names-few-root}
use Rattle.line_tree.proofs.RoomLaws.{len-within}
use Rattle.line_tree.proofs.tree.LineTree.nodes_with.Goals as goal

pub returns : goal.returns
returns g c = let m = records c.self.inside.store in let h = c.self.inside.height in let r = c.self.inside.root in
    let alone = c.self.invariant.0 in
    let count = c.self.invariant.1 in
    let n = len-within (names h (tree_at m h r)) m alone.whole in
    let few = names-few-root m h (tree_at m h r) alone.stands.tree alone.stands.balanced in
    let used : c.in_ok-used.used ≡ c.self.inside.count + (c.self.inside.count / 5 + 1) = search rules in
    let all : c.in_ok-all.all ≡ c.in_ok-used.used + c.spares.result = search rules in
    let most : c.in_ok-most.most ≡ c.in_ok-all.all + c.args.more = search rules in
    let now = c.spares.ensures in
    subst (λ v. v.nodes + c.args.more ≤ c.in_ok-most.most) c.self.view_is (omega arith)
