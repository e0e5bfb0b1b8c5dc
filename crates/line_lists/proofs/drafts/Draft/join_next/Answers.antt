use Rattle.line_lists.proofs.Common.{◌≡◌, ◌+◌, ◌<◌, [], None, Some, drop, length, take, sym, ap, subst, ◌∙◌, arith}
use Rattle.line_lists.proofs.Common.{reverse, append-nil, joined, IsTaken, copies_of, covered, lines_behind, used}
use Rattle.line_lists.proofs.Common.{JoinsNext, whole}
use Rattle.line_lists.proofs.JoinLaws.{none_popped, behind-rest, both_ok, joins, rest-there, still-placed}
use Rattle.line_lists.proofs.drafts.Draft.join_next.Goals as goal

pub returns-in-None-clause-taken : goal.returns-in-None-clause-taken
returns-in-None-clause-taken g c =
    let lines = g.L.LineList.lines c.args.self.now.list.now in
    let stop = c.args.stop.now in
    let front = c.args.self.now.front.items in
    let back = c.args.self.now.back.items in
    let copies = copies_of front in
    let none = none_popped back (λ some. let no : None
    ≡ Some _ = c.in-None.ensures.value stop.copy (omega (arith, some, c.args.self.now.back.ok.0)) in absurd (cc)) in
    let left : c.pop.new.self.items ≡ [] = sym (append-nil c.pop.new.self.items) ∙ sym c.in-None.ensures.items ∙ none in
    let taken = subst (λ items. IsTaken lines front items stop) none c.requires.taken in
    let within = rest-there lines front stop taken
    (subst (λ items. 0 < length (lines_behind copies stop.copy items lines)) none c.requires.some) in
    both_ok c.join_kept.result
    (λ gone line.
    let placed = still-placed lines copies stop c.join_kept.new.stop taken.placed c.join_kept.ensures.reached
    c.join_kept.ensures.start c.join_kept.ensures.kept in
    record {
      stops = taken.stops;
      placed = placed;
      there = omega (
        arith,
        within,
        taken.placed.reached.used,
        c.join_kept.ensures.kept,
        gone,
        ap (λ items. used (reverse items)) left,
      );
    })
    c.join_kept.ensures.gone c.join_kept.ensures.line

pub returns-in-None-clause-joins : goal.returns-in-None-clause-joins
returns-in-None-clause-joins g c =
    let lines = g.L.LineList.lines c.args.self.now.list.now in
    let stop = c.args.stop.now in
    let front = c.args.self.now.front.items in
    let back = c.args.self.now.back.items in
    let copies = copies_of front in
    let new = c.join_kept.new.stop.copy in
    let none = none_popped back (λ some. let no : None
    ≡ Some _ = c.in-None.ensures.value stop.copy (omega (arith, some, c.args.self.now.back.ok.0)) in absurd (cc)) in
    let left : c.pop.new.self.items ≡ [] = sym (append-nil c.pop.new.self.items) ∙ sym c.in-None.ensures.items ∙ none in
    let taken = subst (λ items. IsTaken lines front items stop) none c.requires.taken in
    let within = rest-there lines front stop taken
    (subst (λ items. 0 < length (lines_behind copies stop.copy items lines)) none c.requires.some) in
    let place : stop.reached.used + covered stop.copy
    ≡ used copies + covered stop.copy = omega (arith, taken.placed.reached.used) in
    both_ok c.join_kept.result
    (λ gone line.
    subst (λ items. JoinsNext stop.copy.line new.line (lines_behind copies stop.copy items lines)
    (lines_behind copies new c.pop.new.self.items lines)) (sym none)
    (subst (λ items. JoinsNext stop.copy.line new.line (lines_behind copies stop.copy [] lines)
    (lines_behind copies new items lines)) (sym left)
    (joins stop.copy.line new.line (whole (take 1 (drop (used copies + covered stop.copy) lines))) _ _
    (behind-rest lines copies stop.copy new (omega (arith, within, place)) c.join_kept.ensures.kept gone)
    (line ∙ ap (λ n. joined stop.copy.line (whole (take 1 (drop n lines)))) place))))
    c.join_kept.ensures.gone c.join_kept.ensures.line
