use Rattle.search_dump.proofs.Common.{part_of, outlook, shown, seen_by, AreAhead, AreAt, AreBefore, IsTurnBehind}
use Rattle.search_dump.proofs.Common.{AreQuiet, ◌≡◌, ◌+◌, ◌-◌, ◌<◌, ◌≤◌, ◌⊎◌, ◌||◌, ◌==◌, length, string_bytes, false}
use Rattle.search_dump.proofs.Common.{true, flat_map, elements_at, is_cut, places, IsSpot, stops_at_marks}
use Rattle.search_dump.proofs.Common.{stops_at_tags, Goes, AreBehind, IsFirstMark, AreLeft}
use Rattle.search_dump.proofs.dumping.push_elements.Given as goal

abbrev pub invariant-loop-place : goal.invariant-loop-place
invariant-loop-place g l =
    let view = l.sight.view.now in
    let names = l.sight.names.now in
    let seen = seen_by (outlook l.sight) in
    let next = l.changes.next.items in
    record {
      goes : Goes (string_bytes l.fn.out.list) (string_bytes l.out.list)
          (flat_map (elements_at l.listed seen l.from l.to) (places l.from l.place));
      spot : IsSpot (shown (part_of view)) (record { place = l.place; line = l.line });
      begun : l.from ≤ l.place;
      within : l.place ≤ l.to;
      turn : l.place ≤ l.turn.place;
      upto : l.turn.place ≤ l.to;
      idle : stops_at_tags l.listed ≡ false → l.turn.place ≡ l.to;
      turning : l.turn.rows.end ≤ length l.sight.names.now.tags.now.tags;
      rows : l.rows.end ≤ length l.sight.names.now.tags.now.tags;
      ahead : l.turn.place ≡ l.place → l.place < l.to →
          AreAhead (outlook l.sight) l.place next;
      apart : l.turn.place ≡ l.place → l.place < l.to →
          AreBehind l.turn.rows next (length l.sight.names.now.tags.now.tags) l.place;
      later : stops_at_tags l.listed ≡ true → l.place < l.turn.place →
          IsTurnBehind (outlook l.sight) l.place l.to next l.turn;
      quiet : l.listed.tags ≡ true → AreQuiet (outlook l.sight) l.rows l.place;
      mark : stops_at_marks l.listed ≡ true → IsFirstMark (outlook l.sight) (view.start + l.place) l.mark;
      before : l.listed.tags ≡ true → AreBefore (outlook l.sight) l.place l.before;
      behind : l.listed.tags ≡ true → l.place < l.to → AreAt (outlook l.sight) l.place l.behind;
      cut : l.listed.text ≡ true → (l.place ≡ l.to) ⊎ ((l.place == l.from || is_cut seen l.place) ≡ true);
      left : AreLeft (shown (part_of view)) l.copied;
    }

abbrev pub decreases-loop-place : goal.decreases-loop-place
decreases-loop-place g l = l.to - l.place
