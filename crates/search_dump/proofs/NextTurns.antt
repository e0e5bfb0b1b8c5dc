-- The next turn, found row by row, and what it says of the tags there.
use Rattle.search_dump.proofs.Common.{length-shown_flags, outlook, Outlook, slot_at, ◌≡◌, ℕ, inl, inr, ◌+◌, ◌<◌, ◌≤◌}
use Rattle.search_dump.proofs.Common.{min, List, ap, subst, sym, ◌∙◌, arith, cases_eq, cases_lt, ◌-◌, ◌==◌}
use Rattle.search_dump.proofs.Common.{if◌then◌else◌, false, true, length, eq-eqb, next_change, shown_flags}
use Rattle.search_dump.proofs.Common.{slice_index_or, has_tag_at, rows_at, seen_by, AreAhead, AreBehind, AreKnownTo}
use Rattle.search_dump.proofs.Common.{AreQuiet, IsApart, IsNearest, IsNextStop, IsTurnBehind, IsView, Rows, Turn}
use Rattle.search_dump.proofs.ChangeLaws.{ahead-on, flag-same, flag-upto, nearest-more, next-above}
use Rattle.search_dump.proofs.TagStops.{tag-stop}

-- no row has been looked at
pub nearest-none : (next : List ℕ) (place : ℕ) → IsNearest next 0 place place
nearest-none next place = record { within = omega arith; each = λ at below. absurd (omega arith); reached = inl (omega arith) }

-- one row more
module _ (next : List ℕ) (row to later : ℕ) (old new : Turn) (nearest : IsNearest next row to old.place)
    (apart : AreBehind old.rows next row old.place) (within : old.rows.end ≤ row) (ordered : old.rows.first ≤ old.rows.end)
    (is : later ≡ slice_index_or next row 0)
    (earlier : later < old.place → new ≡ record { place = later; rows = record { first = row; end = row + 1 } })
    (there : later ≡ old.place → new ≡ record { place = later; rows = record { first = old.rows.first; end = row + 1 } })
    (stays : old.place < later → new ≡ old) where
  row-place : new.place ≡ min old.place (slice_index_or next row 0)
  row-place =
      elim (cases_lt later old.place) [
        | inl less ↦ ap (λ (turn : Turn). turn.place) (earlier less) ∙ omega arith
        | inr more ↦ elim (cases_eq later old.place) [
          | inl same ↦ ap (λ (turn : Turn). turn.place) (there same) ∙ omega arith
          | inr other ↦ ap (λ (turn : Turn). turn.place) (stays (omega arith)) ∙ omega arith
        ]
      ]

  pub row-nearest : IsNearest next (row + 1) to new.place
  row-nearest = nearest-more next row to old.place new.place nearest row-place

  -- those of the rows before it that aren't among the new turn's
  row-before : (at : ℕ) → at < row → IsApart new.rows at → new.place < slice_index_or next at 0
  row-before at below outside =
      elim (cases_lt later old.place) [
        | inl less ↦ omega (arith, ap (λ (turn : Turn). turn.place) (earlier less), nearest.each at below)
        | inr more ↦ elim (cases_eq later old.place) [
          | inl same ↦
              let first : new.rows.first ≡ old.rows.first = ap (λ (turn : Turn). turn.rows.first) (there same) in
              let end : new.rows.end ≡ row + 1 = ap (λ (turn : Turn). turn.rows.end) (there same) in
              elim outside [
                | inl front ↦ omega (
                  arith,
                  ap (λ (turn : Turn). turn.place) (there same),
                  apart at below (inl (omega arith)),
                )
                | inr behind ↦ absurd (omega arith)
              ]
          | inr other ↦ subst (λ (turn : Turn). IsApart turn.rows at → turn.place < slice_index_or next at 0)
              (sym (stays (omega arith))) (apart at below) outside
        ]
      ]

  row-itself : IsApart new.rows row → new.place < slice_index_or next row 0
  row-itself outside =
      elim (cases_lt old.place later) [
        | inl less ↦ omega (arith, ap (λ (turn : Turn). turn.place) (stays less))
        | inr more ↦
            let end : new.rows.end ≡ row + 1 = elim (cases_eq later old.place) [
              | inl same ↦ ap (λ (turn : Turn). turn.rows.end) (there same)
              | inr other ↦ ap (λ (turn : Turn). turn.rows.end) (earlier (omega arith))
            ] in
            let first : new.rows.first ≤ row = elim (cases_eq later old.place) [
              | inl same ↦ omega (arith, ap (λ (turn : Turn). turn.rows.first) (there same), within, ordered)
              | inr other ↦ omega (arith, ap (λ (turn : Turn). turn.rows.first) (earlier (omega arith)))
            ] in
            elim outside [
              | inl front ↦ absurd (omega arith)
              | inr behind ↦ absurd (omega arith)
            ]
      ]

  pub row-apart : AreBehind new.rows next (row + 1) new.place
  row-apart at below outside =
      elim (cases_eq at row) [
        | inl same ↦ subst (λ k. IsApart new.rows k → new.place < slice_index_or next k 0) (sym same) row-itself outside
        | inr other ↦ row-before at (omega arith) outside
      ]

  pub row-ends : (new.rows.end ≤ row + 1) × (new.rows.first ≤ new.rows.end)
  row-ends =
      elim (cases_lt old.place later) [
        | inl less ↦
            let end = ap (λ (turn : Turn). turn.rows.end) (stays less) in
            let first = ap (λ (turn : Turn). turn.rows.first) (stays less) in
            (omega (arith, end, within), omega (arith, end, first, ordered))
        | inr more ↦ elim (cases_eq later old.place) [
          | inl same ↦
              let end = ap (λ (turn : Turn). turn.rows.end) (there same) in
              let first = ap (λ (turn : Turn). turn.rows.first) (there same) in
              (omega (arith, end), omega (arith, end, first, within, ordered))
          | inr other ↦
              let end = ap (λ (turn : Turn). turn.rows.end) (earlier (omega arith)) in
              let first = ap (λ (turn : Turn). turn.rows.first) (earlier (omega arith)) in
              (omega (arith, end), omega (arith, end, first))
        ]
      ]

-- ---- what a turn says of the places up to it

pub rows-end : (turn : Turn) (place count : ℕ) → turn.rows.end ≤ count → (rows_at turn place).end ≤ count
rows-end turn place count within =
    elim (turn.place == place) as (λ b. (if b then turn.rows else (record { first = 0; end = 0 })).end ≤ count) [
      | true ↦ within
      | false ↦ omega arith
    ]

module _ {outlook : Outlook} {place to : ℕ} {next : List ℕ} {turn : Turn}
    (known : IsTurnBehind outlook place to next turn) where
  pub turn-ahead : (later : ℕ) → place ≤ later → AreAhead outlook later next
  turn-ahead later from =
      ahead-on outlook place later next
      (record { rows = known.rows; each = λ at within above. known.known at within }) from

  pub turn-later : (later : ℕ) → place ≤ later → later < turn.place →
      IsTurnBehind outlook later to next turn
  turn-later later from before =
      record {
        rows = known.rows;
        known = λ at within. (turn-ahead later from).each at within (omega (arith, before, known.nearest.each at within));
        nearest = known.nearest;
        apart = known.apart;
      }

  -- what is kept of the rows that don't turn at a place up to it stands behind that place
  pub rows-behind : (stop : ℕ) → stop ≤ turn.place → AreBehind (rows_at turn stop) next (length outlook.tags) stop
  rows-behind stop upto at within outside =
      elim (cases_eq turn.place stop) [
        | inl same ↦
            let rows : rows_at turn stop ≡ turn.rows =
            ap (λ b. if b then turn.rows else (record { first = 0; end = 0 })) (eq-eqb turn.place stop same) in
            omega (arith, same, known.apart at within (subst (λ (rows : Rows). IsApart rows at) rows outside))
        | inr other ↦ omega (arith, other, upto, known.nearest.each at within)
      ]

  pub turn-quiet : (stop : ℕ) → place < stop → stop ≤ turn.place →
      AreQuiet outlook (rows_at turn stop) stop
  turn-quiet stop above upto at within outside =
      let flags = shown_flags (slot_at outlook at) outlook.part in
      let behind : stop < next_change flags place =
      omega (arith, known.known at within, rows-behind stop upto at within outside) in
      flag-upto flags place stop above (omega (arith, behind))
      ∙ sym (flag-same flags place stop (omega (arith, above)) behind)

  pub turn-known : (stop : ℕ) → stop ≤ turn.place → AreKnownTo outlook place stop next
  turn-known stop upto =
      record {
        rows = known.rows;
        each = λ at within. (known.known at within, omega (arith, upto, known.nearest.each at within));
      }

  pub turn-stop : IsView outlook.part → place < to → to ≤ outlook.part.end - outlook.part.start →
      IsNextStop (has_tag_at (seen_by outlook)) place to turn.place
  turn-stop view some within =
      (tag-stop outlook place to turn.place next some within (λ slot is. length-shown_flags outlook.part slot view)
      known.known
      (λ at inside. next-above (shown_flags (slot_at outlook at) outlook.part) place
      (omega (arith, some, within, length-shown_flags outlook.part (slot_at outlook at) view))) known.nearest).1
