use Rattle.line_tree.proofs.Common.{◌≡◌, ◌≤◌, ◌<◌, ◌+◌, ◌*◌, ◌/◌, ◌^◌, ap, sym, ◌∙◌, subst, arith, rules}
use Rattle.line_tree.proofs.Common.{mul-le-mul_left, levels_at_most}
use Rattle.line_tree.proofs.LevelLaws.{more-lines}
use Rattle.line_tree.proofs.LineRoomLaws.{on_ok_two}
use Rattle.line_tree.proofs.SpendingLaws.{flat-room}
use Rattle.line_tree.proofs.tree.LineTree.reserve_for_rows.Goals as goal

pub overflow_mul-steep : goal.overflow_mul-steep
overflow_mul-steep g c =
    let is : c.in_ok-most.most ≡ c.args.count * 27 = search rules in
    let fits : c.in_ok-most.most < 2 ^ 64 = search rules in
    let low = c.levels-levels.ensures.low in
    let less : c.args.count * (c.levels-levels.result + 2)
    ≤ c.args.count * 27 = mul-le-mul_left c.args.count (omega arith) in
    omega (arith, is, fits, less)

pub returns-then-flat-min-clause-room : goal.returns-then-flat-min-clause-room
returns-then-flat-min-clause-room g c =
    let new = c.reserve_rows.new.self in let levels = c.levels-levels.result in let count = c.args.count in
    let flat = c.saturating_add-flat.result in
    let is : c.in_ok-most.most ≡ count * 27 = search rules in
    let all : c.args.self.now.nodes + c.in_ok-most.most ≤ c.in_ok-nodes.nodes = search rules in
    let were : c.in_ok-ends.ends ≡ c.args.rows * c.row_ends.result = search rules in
    let ends = were ∙ ap (λ n. c.args.rows * n) c.row_ends.ensures in
    let low = c.levels-levels.ensures.low in
    let steep : count * (levels + 2) ≤ count * 27 = mul-le-mul_left count (omega arith) in
    let more = c.reserve_rows.ensures.nodes in
    let few : new.nodes ≤ c.in_ok-nodes.nodes = omega arith in
    let high = subst (λ l. levels_at_most new.nodes ≤ l) (sym c.levels-levels.ensures.value) (more-lines _ _ few) in
    let made : flat ≡ c.args.rows * (16 * (levels + 2))
    + (count / 11 + (2 * levels + 6) * (count / 32768 + 1)) = omega arith in
    let put = c.reserve_rows.ensures in
    on_ok_two {P = (flat ≤ new.rooms) × (count + flat ≤ new.spares)} c.reserve_rows.result (λ rs n.
    flat-room new count c.args.rows levels flat high made rs.0 rs.1 n)
    (on_ok_two c.reserve_rows.result (λ r s. (r, s)) put.rooms put.spares) put.names

pub reserve_alone-requires-clause-levels : goal.reserve_alone-requires-clause-levels
reserve_alone-requires-clause-levels g c =
    let is : c.in_ok-most.most ≡ c.args.count * 27 = search rules in
    let all : c.args.self.now.nodes + c.in_ok-most.most ≤ c.in_ok-nodes.nodes = search rules in
    let same = c.free_names-2.ensures.nodes in
    let few : c.free_names-2.new.self.nodes + c.args.count * 27 ≤ c.in_ok-nodes.nodes = omega (arith, is, all, same) in
    subst (λ l. levels_at_most (c.free_names-2.new.self.nodes + c.args.count * 27) ≤ l)
    (sym c.levels-levels.ensures.value) (more-lines _ _ few)
