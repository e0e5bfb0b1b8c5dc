use Rattle.line_lists.proofs.Common.{◌≡◌, ◌-◌, ◌<◌, ◌++◌, ◌∷◌, [], length, take, sym, ap, subst, ◌∙◌, arith}
use Rattle.line_lists.proofs.Common.{append_assoc, vec_len, nat_tests, nil_from_length, plus, copies_of, IsCounted}
use Rattle.line_lists.proofs.Common.{count_of, copied_lines}
use Rattle.line_lists.proofs.CountRows.{count-lines}
use Rattle.line_lists.proofs.GatherLaws.{Gathers, Goes, Makes, gather-more, gather-new, gathered-all, goes-of}
use Rattle.line_lists.proofs.GatherLaws.{last-fits, last-of, last-set, next-fits}
use Rattle.line_lists.proofs.pieces.pieces_of.Goals.{else-stop-eq0-via-then-stop-eq0+else-not-is_empty}
use Rattle.line_lists.proofs.pieces.pieces_of.Goals.{else-stop-eq0-via-else-stop-eq0, In-None, In-Some}
use Rattle.line_lists.proofs.pieces.pieces_of.Given.{Over}
use Rattle.line_lists.proofs.pieces.pieces_of.Goals as goal

-- the next stop
goes : (g : Over) (c : In-Some g)
    → Goes c.args.front.items c.loop-stop.yielded (g.L.LineList.lines c.args.list.now) c.in-Some.stop
    c.next.new.self.rest.items
goes g c =
    goes-of c.args.front.items c.loop-stop.yielded (g.L.LineList.lines c.args.list.now) c.in-Some.stop
    c.next.new.self.rest.items (g.L.LineList.are_lines c.args.list.now) c.requires
    (c.loop-stop.invariant.1 ∙ ap (λ xs. c.loop-stop.yielded ++ xs) c.in-Some.ensures.steps.0)

pub overflow_add-from : goal.overflow_add-from
overflow_add-from g c =
    let lines = g.L.LineList.lines c.args.list.now in
    let fits = next-fits c.args.front.items c.loop-stop.yielded lines c.in-Some.stop c.next.new.self.rest.items
    (goes g (goal.at.overflow_add-from g c).In-Some) in
    omega (arith, fits, count-lines lines, (g.L.LineList.are_lines c.args.list.now).counted.lines)

pub add-requires : goal.add-requires
add-requires g c =
    let lines = g.L.LineList.lines c.args.list.now in
    let pieces = c.loop-stop.pieces.items in
    let last = c.len-last.result in
    let some : 0 < last =
    grind (arith, nat_tests, c.len-last.ensures, c.is_empty.ensures, c.if-not-is_empty.true) in
    let fits = last-fits c.args.front.items c.loop-stop.yielded lines c.in-Some.stop c.next.new.self.rest.items pieces
    (take (last - 1) pieces) c.index_mut.result.now c.loop-stop.invariant.0 (goes g (goal.at.add-requires g c).In-Some)
    (last-of pieces last c.index_mut.result.now (omega (arith, c.len-last.ensures, c.loop-stop.pieces.ok.0)) some
    c.index_mut.ensures.value) in
    omega (arith, fits, count-lines lines, (g.L.LineList.are_lines c.args.list.now).counted.lines)

pub loop-stop-preserved : goal.loop-stop-preserved
loop-stop-preserved g c =
    let front = c.args.front.items in
    let lines = g.L.LineList.lines c.args.list.now in
    let rest = c.next.new.self.rest.items in
    let stop = c.in-Some.stop in
    let stops = c.loop-stop.yielded in
    let pieces = c.loop-stop.pieces.items in
    let all = c.loop-stop.invariant.1 ∙ ap (λ xs. stops ++ xs) c.in-Some.ensures.steps.0 in
    let first : stop.copy.kept ≡ 0 → pieces ≡ [] = elim c.else-stop-eq0.branch [
      | else-stop-eq0-via-then-stop-eq0+else-not-is_empty w ↦ λ _.
          let none : vec_len c.loop-stop.pieces ≡ 0 =
          grind (arith, nat_tests, w.is_empty.ensures, w.if-not-is_empty.false) in
          nil_from_length pieces (omega (arith, none, c.loop-stop.pieces.ok.0))
      | else-stop-eq0-via-else-stop-eq0 w ↦ λ zero. absurd (w.if-stop-eq0.false zero)
    ] in
    let ok = c.in_ok-piece_of.ensures in (
      subst (Gathers front (stops ++ stop ∷ []) lines) (sym c.in_ok-push.ensures.items)
          (gather-new front stops rest lines stop pieces c.in_ok-piece_of.field-0 c.loop-stop.invariant.0
          (goes g (goal.at.loop-stop-preserved g c).In-Some) ok.from ok.count ok.lines first),
      all ∙ sym (append_assoc stops (stop ∷ []) rest),
    )

pub loop-stop-preserved-then-not-is_empty : goal.loop-stop-preserved-then-not-is_empty
loop-stop-preserved-then-not-is_empty g c =
    let front = c.args.front.items in
    let lines = g.L.LineList.lines c.args.list.now in
    let rest = c.next.new.self.rest.items in
    let stop = c.in-Some.stop in
    let stops = c.loop-stop.yielded in
    let pieces = c.loop-stop.pieces.items in
    let all = c.loop-stop.invariant.1 ∙ ap (λ xs. stops ++ xs) c.in-Some.ensures.steps.0 in
    let last = c.len-last.result in
    let long : last ≡ length pieces = omega (arith, c.len-last.ensures, c.loop-stop.pieces.ok.0) in
    let some : 0 < last =
    grind (arith, nat_tests, c.len-last.ensures, c.is_empty.ensures, c.if-not-is_empty.true) in
    let ok = c.in_ok-add.ensures in (
      subst (Gathers front (stops ++ stop ∷ []) lines) (sym (last-set pieces last c.add.new.self long some))
          (gather-more front stops rest lines stop pieces (take (last - 1) pieces) c.index_mut.result.now c.add.new.self
          c.loop-stop.invariant.0 (goes g (goal.at.loop-stop-preserved-then-not-is_empty g c).In-Some)
          (last-of pieces last c.index_mut.result.now long some c.index_mut.ensures.value)
          c.if-stop-eq0.true ok.from ok.count ok.lines),
      all ∙ sym (append_assoc stops (stop ∷ []) rest),
    )

-- the pieces of all stops
all_pieces : (g : Over) (c : In-None g)
    → Makes c.args.front.items (g.L.LineList.lines c.args.list.now) c.loop-stop.pieces.items
all_pieces g c =
    let lines = g.L.LineList.lines c.args.list.now in
    let rest = c.loop-stop.stop-iterator.rest in
    gathered-all c.args.front.items c.loop-stop.yielded rest.items lines c.loop-stop.pieces.items
    c.loop-stop.invariant.0 c.loop-stop.invariant.1 (omega (arith, c.in-None.ensures.steps.0, rest.ok.0))
    (g.L.LineList.are_lines c.args.list.now) c.requires
    (subst (λ xs. IsCounted (plus (count_of lines) (count_of (copied_lines (copies_of xs))))) c.deref.ensures.value
    c.in_ok-count.ensures)

pub returns-clause-can : goal.returns-clause-can
returns-clause-can g c = (all_pieces g (goal.at.returns-clause-can g c).In-None).can

pub returns-clause-new : goal.returns-clause-new
returns-clause-new g c = (all_pieces g (goal.at.returns-clause-new g c).In-None).new

pub returns-clause-one : goal.returns-clause-one
returns-clause-one g c = (all_pieces g (goal.at.returns-clause-one g c).In-None).one
