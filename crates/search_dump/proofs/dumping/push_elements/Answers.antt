use Rattle.search_dump.proofs.Common.{part_of, outlook, shown, seen_by, AreBefore, IsTurnBehind, AreQuiet, ◌≡◌, ℕ, ◌+◌}
use Rattle.search_dump.proofs.Common.{◌<◌, ◌≤◌, if◌then◌else◌, ◌||◌, ◌==◌, ap, arith, inl, inr, length, refl}
use Rattle.search_dump.proofs.Common.{string_bytes, subst, sym, ◌∙◌, IsTrue, flat_map, cases_Bool, cases_eq, eq-eqb}
use Rattle.search_dump.proofs.Common.{or_left, Goes, elements_at, false, true, is_cut, places, AreBehind, IsApart}
use Rattle.search_dump.proofs.Common.{IsFirstMark, IsSpot, Rows, Turn, stops_at_marks, stops_at_tags, length-shown}
use Rattle.search_dump.proofs.NextTurns.{rows-behind, rows-end, turn-ahead, turn-known, turn-later, turn-quiet}
use Rattle.search_dump.proofs.NextTurns.{turn-stop}
use Rattle.search_dump.proofs.StopLaws.{cut-next, cut-there, dump-begun, dump-on}
use Rattle.search_dump.proofs.TagStops.{before-on}
use Rattle.search_dump.proofs.dumping.push_elements.Given.{Over}
use Rattle.search_dump.proofs.dumping.push_elements.Goals.{After-next_turn-turn}
use Rattle.search_dump.proofs.dumping.push_elements.Goals as goal

pub loop-place-init : goal.loop-place-init
loop-place-init g c =
    let view = c.args.sight.now.view.now in
    let seen = seen_by (outlook c.args.sight.now) in
    let long = length-shown (part_of view) view.whole_lines in
    let count = length c.args.sight.now.names.now.tags.now.tags in
    let first = c.first_turn-turn.ensures in
    let turn = c.first_turn-turn.result in
    let stops = stops_at_tags c.args.listed in
    let there = c.rows_at-rows.ensures in
    let all : stops ≡ true → (at : ℕ) → at < count → IsApart turn.rows at → ⊥ =
    λ is at within outside. elim outside [
      | inl front ↦ omega (arith, front, ap (λ (rows : Rows). rows.first) (first.all is))
      | inr behind ↦ omega (arith, behind, within, ap (λ (rows : Rows). rows.end) (first.all is))
    ] in
    let bounds = elim (cases_Bool stops) as (λ _. (c.args.from ≤ turn.place) × (turn.place ≤ c.args.to)) [
      | inl is ↦ (omega (arith, first.from is), omega (arith, first.from is, c.requires.ordered))
      | inr not-so ↦ (omega (arith, first.to not-so, c.requires.ordered), omega (arith, first.to not-so))
    ] in
    record {
      goes = dump-begun (elements_at c.args.listed seen c.args.from c.args.to) c.args.from
          (string_bytes c.args.out.now.list);
      spot = record { line = c.line_at-line.ensures.line; before = c.line_at-line.ensures.before };
      begun = omega arith;
      within = c.requires.ordered;
      turn = bounds.0;
      upto = bounds.1;
      idle = first.to;
      turning = first.rows;
      rows = omega (arith, ap (λ (rows : Rows). rows.end) there, rows-end turn c.args.from count first.rows);
      ahead = λ same below. elim (cases_Bool stops) [
        | inl is ↦ c.in_ok-changes.ensures is below
        | inr not-so ↦ absurd (omega (arith, same, below, first.to not-so))
      ];
      apart = λ same below at within outside. elim (cases_Bool stops) [
        | inl is ↦ absurd (all is at within outside)
        | inr not-so ↦ absurd (omega (arith, same, below, first.to not-so))
      ];
      later = λ is before. absurd (omega (arith, before, first.from is));
      quiet = λ is at within outside.
          let is_stop = or_left c.args.listed.tags c.args.listed.text is in
          let rows : c.rows_at-rows.result ≡ turn.rows =
          there ∙ ap (λ b. if b then turn.rows else (record { first = 0; end = 0 }))
          (eq-eqb turn.place c.args.from (first.from is_stop)) in
          absurd (all is_stop at within (subst (λ (rows : Rows). IsApart rows at) rows outside));
      mark = c.listed_mark-mark.ensures;
      before = c.listed_before-before.ensures;
      behind = λ is _. c.listed_behind-behind.ensures is;
      cut = λ _. inr (or_left (c.args.from == c.args.from) (is_cut seen c.args.from)
          (eq-eqb c.args.from c.args.from refl));
      left = c.new-copied.ensures.left (shown (part_of view))
          (omega (arith, long, c.requires.ordered, c.requires.within)) (omega (arith, long, c.requires.within));
    }

-- the next turn, whether it was known or looked for
turned : (g : Over) (c : After-next_turn-turn g) → stops_at_tags c.args.listed ≡ true →
    IsTurnBehind (outlook c.args.sight.now) c.loop-place.place c.args.to
    c.next_turn-turn.new.changes.next.items c.next_turn-turn.result
turned g c stops =
    let place = c.loop-place.place in
    let found = c.next_turn-turn.ensures in
    let before = c.loop-place.invariant in
    elim (cases_eq c.loop-place.turn.place place) [
      | inl same ↦ found.found same
      | inr other ↦
          subst (λ next. IsTurnBehind (outlook c.args.sight.now) place c.args.to next c.next_turn-turn.result)
          (sym (found.same other))
          (subst (λ (turn : Turn). IsTurnBehind (outlook c.args.sight.now) place c.args.to
          c.loop-place.changes.next.items turn) (sym (found.kept other))
          (before.later stops (omega (arith, other, before.turn))))
    ]

pub loop-place-preserved : goal.loop-place-preserved
loop-place-preserved g c =
    let names = c.args.sight.now.names.now in
    let seen = seen_by (outlook c.args.sight.now) in
    let before = c.loop-place.invariant in
    let stop = c.next_stop-next.ensures.stop in
    let next = c.next_stop-next.result in
    let turn = c.next_turn-turn.result in
    let count = length c.args.sight.now.names.now.tags.now.tags in
    let upto = c.next_stop-next.ensures.before in
    let there = c.rows_at-rows-in-loop-place.ensures in
    let stops = stops_at_tags c.args.listed in
    let after = turned g (goal.at.loop-place-preserved g c).After-next_turn-turn in
    let idle : stops ≡ false → turn.place ≡ c.args.to =
    λ none. ap (λ (turn : Turn). turn.place) (c.next_turn-turn.ensures.kept (λ same.
    omega (arith, same, before.idle none, c.loop-place-test.true))) ∙ before.idle none in
    record {
      goes = dump-on c.args.listed seen c.args.from c.args.to c.loop-place.place next (string_bytes c.args.out.now.list)
          (string_bytes c.loop-place.out.list) (string_bytes c.push_listed_tags.new.out.list)
          (string_bytes c.push_listed_marks.new.out.list) (string_bytes c.push_listed_text.new.out.list) before.begun stop
          (λ text. cut-there c.loop-place.place c.args.to (c.loop-place.place == c.args.from
          || is_cut seen c.loop-place.place) c.loop-place-test.true (before.cut text))
          before.goes c.in_ok-push_listed_tags.ensures c.in_ok-mark.ensures.goes
          c.in_ok-push_listed_text.ensures.goes;
      spot = c.line_on-line.ensures;
      begun = omega (arith, stop.above, before.begun);
      within = stop.below;
      turn = upto;
      upto = c.next_turn-turn.ensures.below;
      idle = idle;
      turning = c.next_turn-turn.ensures.rows;
      rows = omega (arith, ap (λ (rows : Rows). rows.end) there, rows-end turn next count c.next_turn-turn.ensures.rows);
      ahead = λ same below. elim (cases_Bool stops) [
        | inl is ↦ turn-ahead (after is) next (omega (arith, stop.above))
        | inr none ↦ absurd (omega (arith, same, below, idle none))
      ];
      apart = λ same below. elim (cases_Bool stops) [
        | inl is ↦ subst (AreBehind turn.rows c.next_turn-turn.new.changes.next.items count) same (after is).apart
        | inr none ↦ absurd (omega (arith, same, below, idle none))
      ];
      later = λ is behind. turn-later (after is) next (omega (arith, stop.above)) behind;
      quiet = λ is. subst (λ (rows : Rows). AreQuiet (outlook c.args.sight.now) rows next) (sym there)
          (turn-quiet (after (or_left c.args.listed.tags c.args.listed.text is)) next stop.above upto);
      mark = c.next_stop-next.ensures.mark;
      before = λ is. before-on (outlook c.args.sight.now)
          c.loop-place.place next c.loop-place.behind stop.above (stop.tags is)
          (before.behind is c.loop-place-test.true);
      behind = λ is upto. c.turned_tags-behind.ensures is (omega (arith, upto, c.requires.within));
      cut = λ text. cut-next seen c.args.from c.args.to next (stop.cut text).reached;
      left = c.in_ok-push_listed_text.ensures.left;
    }

pub next_stop-next-requires-clause-tag : goal.next_stop-next-requires-clause-tag
next_stop-next-requires-clause-tag g c is =
    turn-stop (turned g (goal.at.next_stop-next-requires-clause-tag g c).After-next_turn-turn is)
    c.args.sight.now.view.now.whole_lines c.loop-place-test.true
    (omega (arith, c.requires.within))

pub turned_tags-behind-requires-clause-known : goal.turned_tags-behind-requires-clause-known
turned_tags-behind-requires-clause-known g c is = (
  c.loop-place.place,
  c.next_stop-next.ensures.stop.above,
  turn-known (turned g (goal.at.turned_tags-behind-requires-clause-known g c).After-next_turn-turn
      (or_left c.args.listed.tags c.args.listed.text is)) c.next_stop-next.result c.next_stop-next.ensures.before,
)

pub turned_tags-behind-requires-clause-apart : goal.turned_tags-behind-requires-clause-apart
turned_tags-behind-requires-clause-apart g c is =
    subst (λ (rows : Rows). AreBehind rows c.next_turn-turn.new.changes.next.items
    (length c.args.sight.now.names.now.tags.now.tags) c.next_stop-next.result)
    (sym c.rows_at-rows-in-loop-place.ensures)
    (rows-behind (turned g (goal.at.turned_tags-behind-requires-clause-apart g c).After-next_turn-turn
    (or_left c.args.listed.tags c.args.listed.text is)) c.next_stop-next.result c.next_stop-next.ensures.before)

pub push_listed_tags-requires-clause-behind : goal.push_listed_tags-requires-clause-behind
push_listed_tags-requires-clause-behind g c is = c.loop-place.invariant.behind is c.loop-place-test.true

pub turned_tags-behind-requires-clause-before : goal.turned_tags-behind-requires-clause-before
turned_tags-behind-requires-clause-before g c is =
    before-on (outlook c.args.sight.now) c.loop-place.place c.next_stop-next.result c.loop-place.behind
    c.next_stop-next.ensures.stop.above (c.next_stop-next.ensures.stop.tags is)
    (c.loop-place.invariant.behind is c.loop-place-test.true)

pub returns-clause-goes : goal.returns-clause-goes
returns-clause-goes g c =
    let seen = seen_by (outlook c.args.sight.now) in
    let each = elements_at c.args.listed seen c.args.from c.args.to in
    let end : c.loop-place.place ≡ c.args.to = omega (arith, c.loop-place.invariant.within, c.loop-place-test.false) in
    subst (λ place. Goes (string_bytes c.args.out.now.list) (string_bytes c.loop-place.out.list)
    (flat_map each (places c.args.from place))) end c.loop-place.invariant.goes

pub returns-clause-mark : goal.returns-clause-mark
returns-clause-mark g c =
    let view = c.args.sight.now.view.now in
    let end : c.loop-place.place ≡ c.args.to = omega (arith, c.loop-place.invariant.within, c.loop-place-test.false) in
    subst (λ place. IsTrue (stops_at_marks c.args.listed) →
    IsFirstMark (outlook c.args.sight.now) (view.start + place) c.loop-place.mark) end
    c.loop-place.invariant.mark

pub returns-clause-before : goal.returns-clause-before
returns-clause-before g c =
    let end : c.loop-place.place ≡ c.args.to = omega (arith, c.loop-place.invariant.within, c.loop-place-test.false) in
    subst (λ place. IsTrue c.args.listed.tags →
    AreBefore (outlook c.args.sight.now) place c.loop-place.before) end
    c.loop-place.invariant.before

pub returns-clause-spot : goal.returns-clause-spot
returns-clause-spot g c =
    let end : c.loop-place.place ≡ c.args.to = omega (arith, c.loop-place.invariant.within, c.loop-place-test.false) in
    subst (λ (place : ℕ). IsSpot (shown (part_of c.args.sight.now.view.now))
    (record { place = place; line = c.loop-place.line })) end c.loop-place.invariant.spot

pub returns-clause-quiet : goal.returns-clause-quiet
returns-clause-quiet g c =
    let end : c.loop-place.place ≡ c.args.to = omega (arith, c.loop-place.invariant.within, c.loop-place-test.false) in
    subst (λ place. IsTrue c.args.listed.tags →
    AreQuiet (outlook c.args.sight.now) c.loop-place.rows place) end
    c.loop-place.invariant.quiet
