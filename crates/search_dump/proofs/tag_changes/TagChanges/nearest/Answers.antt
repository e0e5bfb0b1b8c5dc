use Rattle.search_dump.proofs.Common.{ap, arith, subst, sym, ◌∙◌, get_or_default_zero, IsNearest, Turn}
use Rattle.search_dump.proofs.NextTurns.{nearest-none, row-apart, row-ends, row-nearest}
use Rattle.search_dump.proofs.tag_changes.TagChanges.nearest.Goals as goal

pub loop-at-init : goal.loop-at-init
loop-at-init c =
    let is = c.bare-turn.ensures in
    record {
      nearest = subst (IsNearest c.args.self.now.next.items 0 c.args.place) (sym (ap (λ (turn : Turn). turn.place) is))
          (nearest-none c.args.self.now.next.items c.args.place);
      apart = λ at below. absurd (omega (arith, below));
      rows = omega (arith, ap (λ (turn : Turn). turn.rows.end) is);
      ordered = omega (arith, ap (λ (turn : Turn). turn.rows.first) is);
    }

pub loop-at-preserved : goal.loop-at-preserved
loop-at-preserved c =
    let next = c.args.self.now.next.items in
    let at = c.loop-at.at in
    let before = c.loop-at.invariant in
    let moved = c.with_row-turn.ensures in
    let is = c.index.ensures ∙ get_or_default_zero next at c.index.result.now (omega arith) in
    let old = c.loop-at.turn in
    let new = c.with_row-turn.result in
    let ends = row-ends next at c.args.place c.index.result.now old new before.nearest before.apart before.rows
    before.ordered is moved.earlier moved.there moved.later in
    record {
      nearest = row-nearest next at c.args.place c.index.result.now old new before.nearest before.apart before.rows
          before.ordered is moved.earlier moved.there moved.later;
      apart = row-apart next at c.args.place c.index.result.now old new before.nearest before.apart before.rows
          before.ordered is moved.earlier moved.there moved.later;
      rows = ends.0;
      ordered = ends.1;
    }
