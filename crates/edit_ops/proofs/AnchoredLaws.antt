-- Anchors go on standing where lines start.
use Rattle.edit_ops.proofs.Common.{◌≡◌, ℕ, ◌+◌, ◌-◌, ◌<◌, ◌≤◌, ◌==◌, ◌&&◌, true, false, List, Option, Some, None, map}
use Rattle.edit_ops.proofs.Common.{length, get_or, refl, sym, arith, subst, option_map, unwrap_or, not, nat_le, nat_lt}
use Rattle.edit_ops.proofs.Common.{if◌then◌else◌, All, ltb-true, ltb-false, leb-true, leb-false, eqb-true, nat_tests}
use Rattle.edit_ops.proofs.Common.{All-map, IsLineStart, line_of, line_start, inserted, removed, length-inserted}
use Rattle.edit_ops.proofs.Common.{length-removed, next_line, line-before, next_line-removed, Anchors, AnchorsStand}
use Rattle.edit_ops.proofs.Common.{AreAnchored, anchor_moved, anchors_moved, start_drawn, end_drawn, anchors_removed}
use Rattle.edit_ops.proofs.Common.{IfSome_then}
use Rattle.edit_ops.proofs.AnchorLaws.{if-mapped}
use Rattle.edit_ops.proofs.StartLaws.{Begins, begun, is-start, inserted-before, inserted-behind, removed-before}
use Rattle.edit_ops.proofs.StartLaws.{removed-behind, line-begins, next-begins}

pub anchored-stand : (text : List ℕ) (anchors : Anchors) → AreAnchored text anchors → AnchorsStand (length text) anchors
anchored-stand text anchors anchored = record {
  start = IfSome_then anchors.start anchored.start (λ place is. is.within);
  end = IfSome_then anchors.end anchored.end (λ place is. is.within);
}

-- ---- what is put in

moved-begins : (at : ℕ) (new text : List ℕ) (place : ℕ) → at ≤ length text → Begins text place →
    Begins (inserted at new text) (anchor_moved at (length new) place)
moved-begins at new text place within begins =
    elim (nat_lt at place) as (λ b. nat_lt at place ≡ b →
    Begins (inserted at new text) (if b then place + length new else place)) [
      | true ↦ λ above. inserted-behind at new text place within (ltb-true at place above) begins
      | false ↦ λ other. inserted-before at new text place within (ltb-false at place other) begins
    ] refl

moved-ordered : (at count len : ℕ) (start end : Option ℕ) → at < len → unwrap_or start 0 ≤ unwrap_or end len
    → unwrap_or (option_map (anchor_moved at count) start) 0
    ≤ unwrap_or (option_map (anchor_moved at count) end) (len + count)
moved-ordered at count len None end within ordered = omega arith
moved-ordered at count len (Some start) None within ordered = grind (arith, nat_tests)
moved-ordered at count len (Some start) (Some end) within ordered = grind (arith, nat_tests)

anchored-moved : (at : ℕ) (new text : List ℕ) (anchors : Anchors) → at < length text → AreAnchored text anchors →
    AreAnchored (inserted at new text) (anchors_moved at (length new) anchors)
anchored-moved at new text anchors within anchored =
    let inside : at ≤ length text = omega (arith, within) in
    let moves : (place : ℕ) → IsLineStart text place →
    IsLineStart (inserted at new text) (anchor_moved at (length new) place) = λ place is.
    is-start (inserted at new text) (anchor_moved at (length new) place)
    (moved-begins at new text place inside (begun text place is)) in
    record {
      start = if-mapped (IsLineStart text) (IsLineStart (inserted at new text)) (anchor_moved at (length new))
          anchors.start moves anchored.start;
      end = if-mapped (IsLineStart text) (IsLineStart (inserted at new text)) (anchor_moved at (length new)) anchors.end
          moves anchored.end;
      ordered = subst (λ len. unwrap_or (option_map (anchor_moved at (length new)) anchors.start) 0
          ≤ unwrap_or (option_map (anchor_moved at (length new)) anchors.end) len)
          (sym (length-inserted at new text inside))
          (moved-ordered at (length new) (length text) anchors.start anchors.end within anchored.ordered);
    }

pub all-moved : (at : ℕ) (new text : List ℕ) (all : List Anchors) → at < length text → All (AreAnchored text) all →
    All (AreAnchored (inserted at new text)) (map (anchors_moved at (length new)) all)
all-moved at new text all within anchored =
    All-map (AreAnchored (inserted at new text)) (anchors_moved at (length new)) all (λ k d inside.
    anchored-moved at new text (get_or all k d) within (anchored k d inside))

-- ---- what is taken out

-- a place that is drawn in, where one within what goes comes to stand at an inner one
drawn-begins : (text : List ℕ) (from to place inner : ℕ) → from ≤ to → to ≤ length text → Begins text place →
    Begins (removed from to text) inner
    → Begins (removed from to text)
    (if nat_le place from then place else if nat_le place to then inner else place - (to - from))
drawn-begins text from to place inner ordered within begins stands =
    elim (nat_le place from) as (λ b. nat_le place from ≡ b →
    Begins (removed from to text) (if b then place else if nat_le place to then inner else place - (to - from))) [
      | true ↦ λ before.
          removed-before from to text place (omega (arith, ordered, within)) (leb-true place from before) begins
      | false ↦ λ _.
          elim (nat_le place to) as (λ b. nat_le place to ≡ b →
          Begins (removed from to text) (if b then inner else place - (to - from))) [
            | true ↦ λ _. stands
            | false ↦ λ other. removed-behind from to text place ordered within (leb-false place to other) begins
          ] refl
    ] refl

-- the line that they are taken out of
line-stays : (text : List ℕ) (from to : ℕ) → from ≤ length text →
    Begins (removed from to text) (line_start (line_of text from) text)
line-stays text from to inside =
    removed-before from to text (line_start (line_of text from) text) inside (line-before text from inside)
    (line-begins text from)

start-begins : (text : List ℕ) (from to place : ℕ) → from ≤ to → to ≤ length text → Begins text place
    → Begins (removed from to text) (start_drawn (line_start (line_of text from) text) from to place)
start-begins text from to place ordered within begins =
    drawn-begins text from to place (line_start (line_of text from) text) ordered within begins
    (line-stays text from to (omega (arith, ordered, within)))

end-begins : (text : List ℕ) (from to start place : ℕ) → from ≤ to → to < length text → Begins text (length text) →
    Begins text place
    → Begins (removed from to text) (end_drawn (line_start (line_of text from) text)
    (next_line (removed from to text) from) start from to place)
end-begins text from to start place ordered within ends begins =
    let line = line_start (line_of text from) text in
    let next = next_line (removed from to text) from in
    let short : to ≤ length text = omega (arith, within) in
    let left : length text - (to - from) ≡ length (removed from to text) =
    omega (arith, ordered, within, length-removed from to text ordered short) in
    drawn-begins text from to place (if nat_le start from && not (from == line) then next else line) ordered short
    begins (elim (nat_le start from && not (from == line)) as (λ b.
    Begins (removed from to text) (if b then next else line)) [
      | true ↦ next-begins (removed from to text) from (subst (Begins (removed from to text)) left
          (removed-behind from to text (length text) ordered short within ends))
      | false ↦ line-stays text from to (omega (arith, ordered, within))
    ])

drawn-ordered : (line next from to len : ℕ) (start end : Option ℕ) → line ≤ from → from ≤ next → from ≤ to → to < len →
    unwrap_or start 0 ≤ unwrap_or end len
    → unwrap_or (option_map (start_drawn line from to) start) 0
    ≤ unwrap_or (option_map (end_drawn line next (unwrap_or start 0) from to) end) (len - (to - from))
drawn-ordered line next from to len None end before behind ordered within stands = omega arith
drawn-ordered line next from to len (Some start) None before behind ordered within stands = grind (arith, nat_tests)
drawn-ordered line next from to len (Some start) (Some end) before behind ordered within stands =
    elim (nat_le start from) as (λ b. nat_le start from ≡ b →
    (if b then start else if nat_le start to then line else start - (to - from))
    ≤ (if nat_le end from then end else if nat_le end to then (if b && not (from == line) then next else line)
    else end - (to - from))) [
      | true ↦ λ low. let below = leb-true start from low in
          elim (from == line) as (λ b. (from == line) ≡ b →
          start ≤ (if nat_le end from then end else if nat_le end to then (if not b then next else line)
          else end - (to - from))) [
            | true ↦ λ same. let at = eqb-true from line same in grind (arith, nat_tests)
            | false ↦ λ _. grind (arith, nat_tests)
          ] refl
      | false ↦ λ high. let above = leb-false start from high in grind (arith, nat_tests)
    ] refl

anchored-removed : (text : List ℕ) (from to : ℕ) (anchors : Anchors) → from ≤ to → to < length text →
    Begins text (length text) → AreAnchored text anchors
    → AreAnchored (removed from to text) (anchors_removed text from to anchors)
anchored-removed text from to anchors ordered within ends anchored =
    let now = removed from to text in
    let line = line_start (line_of text from) text in
    let next = next_line (removed from to text) from in
    let start = unwrap_or anchors.start 0 in
    let short : to ≤ length text = omega (arith, within) in
    let inside : from ≤ length text = omega (arith, ordered, within) in
    let left : length text - (to - from) ≡ length now = omega (
      arith,
      ordered,
      within,
      length-removed from to text ordered short,
    ) in
    let behind : from ≤ next = omega (arith, next_line-removed text from to inside) in
    record {
      start = if-mapped (IsLineStart text) (IsLineStart now) (start_drawn line from to) anchors.start
          (λ place is. is-start now (start_drawn line from to place)
          (start-begins text from to place ordered short (begun text place is))) anchored.start;
      end = if-mapped (IsLineStart text) (IsLineStart now) (end_drawn line next start from to) anchors.end
          (λ place is. is-start now (end_drawn line next start from to place)
          (end-begins text from to start place ordered within ends (begun text place is))) anchored.end;
      ordered = subst (λ len. unwrap_or (option_map (start_drawn line from to) anchors.start) 0
          ≤ unwrap_or (option_map (end_drawn line next start from to) anchors.end) len) left
          (drawn-ordered line next from to (length text) anchors.start anchors.end (line-before text from inside) behind
          ordered within anchored.ordered);
    }

pub all-removed : (text : List ℕ) (from to : ℕ) (all : List Anchors) → from ≤ to → to < length text →
    Begins text (length text) → All (AreAnchored text) all
    → All (AreAnchored (removed from to text)) (map (anchors_removed text from to) all)
all-removed text from to all ordered within ends anchored =
    All-map (AreAnchored (removed from to text)) (anchors_removed text from to) all (λ k d inside.
    anchored-removed text from to (get_or all k d) ordered within ends (anchored k d inside))
