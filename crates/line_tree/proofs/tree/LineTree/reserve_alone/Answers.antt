use Rattle.line_tree.proofs.Common.{◌≡◌, ◌≤◌, ◌+◌, ◌*◌, ◌/◌, length, ap, sym, ◌∙◌, subst, arith, mul-le-mul_left}
use Rattle.line_tree.proofs.Common.{lines_in, records, spares, Stands, levels_at_most}
use Rattle.std.proofs.lemmas.Result.{on_ok_weaker}
use Rattle.line_tree.proofs.LevelLaws.{many-records, more-lines}
use Rattle.line_tree.proofs.LineRoomLaws.{on_ok_two, steep-room, wide-room}
use Rattle.std.specs.FinMap as finite
use Rattle.line_tree.proofs.tree.LineTree.reserve_alone.Goals as goal

pub overflow_mul-steep : goal.overflow_mul-steep
overflow_mul-steep g c =
    let few = c.requires.few in let low = c.requires.low in
    let less : c.args.count * (c.args.levels + 2) ≤ c.args.count * 27 = mul-le-mul_left c.args.count (omega arith) in
    omega (arith, few, less)

pub returns-then-steep-rooms-clause-room : goal.returns-then-steep-rooms-clause-room
returns-then-steep-rooms-clause-room g c =
    let new = c.reserve.new.self in
    let was = ap (λ v. v.nodes) c.self.view_is in
    let same = ap finite.len c.reserve.ensures.records in
    let low = c.requires.low in
    let less : c.args.count * (c.args.levels + 2) ≤ c.args.count * 27 = mul-le-mul_left c.args.count (omega arith) in
    let most = c.reserve.ensures.most in
    let few : spares new + finite.len (records new)
    ≤ c.args.self.now.nodes + c.args.count * 27 = omega (arith, was, same, less, most) in
    let more = more-lines _ _ few in let levels = c.requires.levels in
    let high : levels_at_most (spares new + finite.len (records new)) ≤ c.args.levels = omega (arith, more, levels) in
    on_ok_two c.reserve.result (λ s r. steep-room _ c.args.count c.args.levels high s r) c.reserve.ensures.spares
    c.reserve.ensures.rooms

pub returns-clause-room : goal.returns-clause-room
returns-clause-room g c =
    let m = records c.reserve_lines.new.self in let h = c.self.inside.height in let r = c.self.inside.root in
    let same : m ≡ records c.self.inside.store = c.reserve_lines.ensures.records ∙ c.reserve-2.ensures.records in
    let many = many-records m h r (subst (λ z. Stands z h r) (sym same) c.self.invariant.0.stands) in
    let lines = c.self.invariant.1 ∙ ap (λ z. length (lines_in z h r)) (sym same) in
    let inner = c.in_ok-reserve.ensures.rooms in let kept = c.reserve_lines.ensures.rooms in
    on_ok_weaker c.reserve_lines.result
    (λ s. wide-room _ c.args.count (c.self.inside.count / 5 + c.args.count / 5 + 27) c.self.inside.count lines
    (omega arith) (omega (arith, inner, kept)) s (omega (arith, many)))
    c.reserve_lines.ensures.spares
