use Rattle.line_lists.proofs.Common.{◌≡◌, ◌+◌, ◌-◌, ◌<◌, ◌++◌, ◌∷◌, [], drop, take, refl, sym, ap, subst, ◌∙◌, arith}
use Rattle.line_lists.proofs.Common.{reverse, reverse-append, joined, Copied, copies_of, covered, lines_behind, used}
use Rattle.line_lists.proofs.Common.{JoinsNext, whole}
use Rattle.line_lists.proofs.CountRows.{count-lines}
use Rattle.line_lists.proofs.JoinLaws.{behind-copied, both_ok, behind-kept, joins, kept-there, still-placed}
use Rattle.line_lists.proofs.drafts.Draft.join_before.Goals as goal

pub join-requires : goal.join-requires
join-requires g c =
    let lines = g.L.LineList.lines c.args.self.now.list.now in
    let few = (g.L.LineList.are_lines c.args.self.now.list.now).counted.lines in
    omega (
      arith,
      few,
      count-lines lines,
      c.requires.taken.there,
      ap used (reverse-append c.args.self.now.back.items (c.args.next ∷ [])),
    )

pub returns-then-next-eq0-clause-joins : goal.returns-then-next-eq0-clause-joins
returns-then-next-eq0-clause-joins g c =
    let lines = g.L.LineList.lines c.args.self.now.list.now in
    let stop = c.args.stop.now in
    let back = c.args.self.now.back.items in
    let next = c.args.next in
    let copies = copies_of c.args.self.now.front.items in
    let new = c.join.new.self in
    let none : next.kept ≡ 0 = omega (arith, c.if-next-eq0.true) in
    both_ok c.join.result
    (λ gone. joins stop.copy.line new.line next.line (lines_behind copies stop.copy (back ++ next ∷ []) lines)
    (lines_behind copies new back lines)
    (behind-copied lines copies back stop.copy new next none c.join.ensures.kept gone))
    c.join.ensures.gone c.join.ensures.line

pub returns-clause-taken : goal.returns-clause-taken
returns-clause-taken g c =
    let lines = g.L.LineList.lines c.args.self.now.list.now in
    let back = c.args.self.now.back.items in
    let next = c.args.next in
    let less : Copied = record next { kept = next.kept - 1 } in
    let some : 0 < next.kept = omega (arith, c.if-next-eq0.false) in
    record {
      stops = c.requires.taken.stops;
      placed = still-placed lines (copies_of c.args.self.now.front.items) c.args.stop.now c.join_kept.new.stop
          c.requires.taken.placed c.join_kept.ensures.reached c.join_kept.ensures.start c.join_kept.ensures.kept;
      there = omega (
        arith,
        c.requires.taken.there,
        some,
        c.join_kept.ensures.kept,
        c.in_ok-join_kept.ensures.gone,
        ap used (reverse-append back (next ∷ [])),
        ap (λ items. used (reverse items)) c.push_reserved.ensures.items,
        ap used (reverse-append back (less ∷ [])),
      );
    }

pub returns-clause-joins : goal.returns-clause-joins
returns-clause-joins g c =
    let lines = g.L.LineList.lines c.args.self.now.list.now in
    let stop = c.args.stop.now in
    let front = c.args.self.now.front.items in
    let back = c.args.self.now.back.items in
    let next = c.args.next in
    let less : Copied = record next { kept = next.kept - 1 } in
    let copies = copies_of front in
    let new = c.join_kept.new.stop.copy in
    let some : 0 < next.kept = omega (arith, c.if-next-eq0.false) in
    let within = kept-there lines front back stop next c.requires.taken some in
    let place : stop.reached.used + covered stop.copy
    ≡ used copies + covered stop.copy = omega (arith, c.requires.taken.placed.reached.used) in
    subst (λ items. JoinsNext stop.copy.line new.line (lines_behind copies stop.copy (back ++ next ∷ []) lines)
    (lines_behind copies new items lines)) (sym c.push_reserved.ensures.items)
    (joins stop.copy.line new.line (whole (take 1 (drop (used copies + covered stop.copy) lines))) _ _
    (behind-kept lines copies back stop.copy new next less some (omega (arith, within, place)) refl refl refl
    c.join_kept.ensures.kept c.in_ok-join_kept.ensures.gone)
    (c.in_ok-join_kept.ensures.line ∙ ap (λ n. joined stop.copy.line (whole (take 1 (drop n lines)))) place))
