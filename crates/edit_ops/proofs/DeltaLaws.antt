-- What a deletion makes of the cells of a text, by its hunks and the cell that loses its slots.
use Rattle.edit_ops.proofs.Common.{◌≡◌, ℕ, zero, suc, ◌+◌, ◌-◌, ◌<◌, ◌≤◌, true, false, List, [], ◌∷◌, ◌++◌, Some, map}
use Rattle.edit_ops.proofs.Common.{length, take, drop, get_or, refl, sym, ap, ◌∙◌, arith, subst, inl, inr, eqb-true}
use Rattle.edit_ops.proofs.Common.{cases_lt, append_assoc, drop_at, drop_more, length-map, length-take-le, sum_by-cons}
use Rattle.edit_ops.proofs.Common.{take-append-drop, take_at, All, All-cons, All-nil, if◌then◌else◌, ◌==◌, slice_get}
use Rattle.edit_ops.proofs.Common.{slice_range, sum_by, Cell, characters, slot_sets, changed, without_slots}
use Rattle.edit_ops.proofs.Common.{length-removed, removed, removed-append_left, AreApart, removed_spans, removed_span}
use Rattle.edit_ops.proofs.Common.{State, Span, EditKind, Recording, AreHunksOf, deletion, taking, removed_all}
use Rattle.edit_ops.proofs.Common.{get_or_from_slice_get, patched_by, bare_cells, None, ap₂, length-append, get_or-map}
use Rattle.edit_ops.proofs.Common.{map-append, after_removal, anchors_removed, log_noted, IfSome, slotted, AreBareRuns}
use Rattle.edit_ops.proofs.Common.{Anchors, ClearTags, Content, Delete, Log, after_step, delete_set, deleted, in_spans}
use Rattle.edit_ops.proofs.Common.{runs_below, state_of, IsDelta, IsLostRun, bared, hunks_made, lost_run, Delta}
use Rattle.edit_ops.proofs.Common.{SlotRun}
use Rattle.edit_ops.proofs.HunkLaws.{taking-is, taking-of}
use Rattle.edit_ops.proofs.RunLaws.{apart-wider}
use Rattle.std.specs.FinSet as set

-- ---- spans, of which the last comes first

-- a span that stands below others
pub record IsBelow (border : ℕ) (span : Span) (others : List Span) : Type 0 where
  pub some : span.from < span.to
  pub below : span.to < border
  pub above : All (λ (other : Span). span.to ≤ other.from) others

pub apart-at : (border : ℕ) (spans : List Span) (at : ℕ) (d : Span) → at < length spans → AreApart border spans →
    IsBelow border (get_or spans at d) (take at spans)
apart-at border [] at d within apart = absurd (omega (arith, within))
apart-at border (span ∷ spans) zero d within apart =
    record { some = apart.0; below = apart.1; above = All-nil (λ (other : Span). span.to ≤ other.from) }
apart-at border (first ∷ spans) (suc at) d within apart =
    let rest = apart-at first.from spans at d (omega (arith, within)) apart.2 in
    let to = (get_or spans at d).to in
    let some = apart.0 in let below = apart.1 in let under = rest.below in
    record {
      some = rest.some;
      below = omega (arith, some, below, under);
      above = All-cons (λ (other : Span). to ≤ other.from) first (take at spans) (omega (arith, under)) rest.above;
    }

abbrev pub long : Span → ℕ
long span = span.to - span.from

-- spans that don't touch have less in them than there is below their border
pub counted : (border : ℕ) (spans : List Span) → 0 < border → AreApart border spans → sum_by long spans < border
counted border [] some apart = some
counted border (span ∷ spans) some apart =
    let above = apart.0 in let below = apart.1 in
    let sum = sum_by-cons long span spans in
    elim (cases_lt 0 span.from) [
      | inl inside ↦ (let rest = counted span.from spans inside apart.2 in omega (arith, sum, rest, above, below))
      | inr first ↦
          (let rest = none spans (subst (λ n. AreApart n spans) (omega (arith, first)) apart.2) in
          omega (arith, sum, rest, above, below))
    ]
  where
    none : (spans : List Span) → AreApart 0 spans → sum_by long spans ≡ 0
    none [] apart = refl
    none (span ∷ spans) apart = absurd (let below = apart.1 in omega (arith, below))

-- spans of the prefix of a list
pub removed-front : {A : Type 0} (spans : List Span) (border : ℕ) (front rest : List A) → AreApart border spans
    → border ≤ length front + 1
    → (removed_all spans (front ++ rest) ≡ removed_all spans front ++ rest)
    × (length (removed_all spans front) + sum_by long spans ≡ length front)
removed-front [] border front rest apart below = (refl, omega arith)
removed-front (span ∷ spans) border front rest apart below =
    let some = apart.0 in
    let within = apart.1 in
    let ordered : span.from ≤ span.to = omega (arith, some) in
    let inside : span.to ≤ length front = omega (arith, within, below) in
    let gone = length-removed span.from span.to front ordered inside in
    let others = removed-front spans span.from (removed span.from span.to front) rest apart.2
    (omega (arith, gone, inside, ordered)) in
    let left = others.1 in
    let counts = sum_by-cons long span spans in (
      ap (removed_all spans) (removed-append_left span.from span.to front rest ordered inside) ∙ others.0,
      omega (arith, left, gone, counts, ordered),
    )

-- what a deletion of spans leaves
pub spans-removed : (recording : Recording) (kind : EditKind) (spans : List Span) (state : State)
    → (removed_spans recording kind spans state).content.cells ≡ removed_all spans state.content.cells
spans-removed recording kind [] state = refl
spans-removed recording kind (span ∷ spans) state =
    spans-removed recording kind spans (removed_span recording kind span.from span.to state)
    ∙ ap (removed_all spans) (one span.from span.to)
  where
    one : (from to : ℕ) → (removed_span recording kind from to state).content.cells ≡ removed from to state.content.cells
    one from to =
        let made : State = record {
          content = after_removal from to state.content;
          anchors = map (anchors_removed (characters state.content.cells) from to) state.anchors;
          log = log_noted recording kind (record {
            inserts = false;
            at = from;
            text = slice_range (characters state.content.cells) from to;
          }) state.log;
        } in
        elim (from == to) as (λ b. (from == to) ≡ b
        → (if b then state else made).content.cells ≡ removed from to state.content.cells) [
          | true ↦ λ same. sym (ap (λ n. removed from n state.content.cells) (sym (eqb-true from to same))
              ∙ take-append-drop from state.content.cells)
          | false ↦ λ _. refl
        ] refl

-- ---- a cell that loses its slots

abbrev no_cell : Cell
no_cell = record { character = 0; tags = set.empty }

-- a cell after spans, and where it is without them
pub record IsLeft (cells : List Cell) (spans : List Span) (at : ℕ) (cell : Cell) (front rest : List Cell) : Type 0 where
  pub split : cells ≡ front ++ cell ∷ rest
  pub low : (new : Cell) → removed_all spans (front ++ new ∷ rest) ≡ removed_all spans front ++ new ∷ rest
  pub there : length (removed_all spans front) ≡ at
  pub long : length front + 1 ≤ length cells

left-at : (cells : List Cell) (spans : List Span) (last at : ℕ) → last < length cells → AreApart (last + 1) spans
    → at + sum_by long spans ≡ last
    → IsLeft cells spans at (get_or cells last no_cell) (take last cells) (drop (last + 1) cells)
left-at cells spans last at within apart counts =
    let front = take last cells in
    let length_is : length front ≡ last = length-take-le last cells (omega (arith, within)) in
    let sums = (removed-front spans (last + 1) front [] apart (omega (arith, length_is))).1 in
    record {
      split = sym (take-append-drop last cells) ∙ ap (λ xs. front ++ xs) (drop_more cells last no_cell within);
      low = λ new. (removed-front spans (last + 1) front (new ∷ drop (last + 1) cells) apart
          (omega (arith, length_is))).0;
      there = omega (arith, sums, length_is, counts);
      long = omega (arith, length_is, within);
    }

pub changed-at : (at : ℕ) (front : List Cell) (cell : Cell) (rest : List Cell) → length front ≡ at
    → changed without_slots at (at + 1) (front ++ cell ∷ rest) ≡ front ++ without_slots cell ∷ rest
changed-at at front cell rest there =
    let one : at + 1 - at ≡ 1 = omega arith in
    let after : at + 1 ≡ length (front ++ cell ∷ []) = omega (arith, there, length-append front (cell ∷ [])) in
    (λ i. take_at front (cell ∷ rest) at there i
    ++ map without_slots ((ap (λ n. take n (drop at (front ++ cell ∷ rest))) one
    ∙ ap (take 1) (drop_at front (cell ∷ rest) at there)) i)
    ++ (ap (drop (at + 1)) (sym (append_assoc front (cell ∷ []) rest))
    ∙ drop_at (front ++ cell ∷ []) rest (at + 1) (sym after)) i)
    ∙ append_assoc front (without_slots cell ∷ []) rest

-- ---- deletions

-- exactly what deletions do, counted by cells
pub exact-taking : (cells : List Cell) (end : ℕ) (runs : List Span) → AreApart end runs → end ≤ length cells
    → AreHunksOf (map (λ (run : Span). deletion (characters cells) run.from run.to) runs) (length cells) (taking runs)
exact-taking cells end runs apart within =
    let counts = length-map cells (λ (cell : Cell). cell.character) in
    subst (λ n. AreHunksOf (map (λ (run : Span). deletion (characters cells) run.from run.to) runs) n (taking runs))
    counts (taking-of (characters cells) runs
    (apart-wider end (length (characters cells)) runs apart (omega (arith, within, counts))))

pub taking-cells : (cells : List Cell) (end : ℕ) (runs : List Span) → AreApart end runs → end ≤ length cells
    → patched_by bare_cells 0 (taking runs) cells ≡ removed_all runs cells
taking-cells cells end runs apart within = taking-is bare_cells end runs cells refl apart within

pub plain-delta : (cells : List Cell) (end : ℕ) (runs : List Span) (delta : Delta) → AreApart end runs
    → end ≤ length cells → delta.hunks.items ≡ taking runs → lost_run delta ≡ None → delta.gained.items ≡ []
    → IsDelta (map (λ (run : Span). deletion (characters cells) run.from run.to) runs) cells (removed_all runs cells) delta
plain-delta cells end runs delta apart within hunks none nothing =
    let left = ap (λ hs. patched_by bare_cells 0 hs cells) hunks ∙ taking-cells cells end runs apart within in
    record {
      exact = subst (AreHunksOf (map (λ (run : Span). deletion (characters cells) run.from run.to) runs) (length cells))
          (sym hunks) (exact-taking cells end runs apart within);
      lost = subst (IsLostRun (hunks_made delta cells)) (sym none) tt;
      either = subst (λ lost. IfSome lost (λ _. delta.gained.items ≡ [])) (sym none) tt;
      bare = subst (λ runs. AreBareRuns 0 runs (bared (lost_run delta) (hunks_made delta cells))) (sym nothing) tt;
      cells = sym (ap₂ (λ gained lost. slotted gained (bared lost (hunks_made delta cells))) nothing none ∙ left);
    }

pub bared-delta : (cells : List Cell) (end : ℕ) (runs : List Span) (run : SlotRun) (delta : Delta) → 0 < end
    → AreApart end runs → end ≤ length cells → delta.hunks.items ≡ taking runs → lost_run delta ≡ Some run
    → delta.gained.items ≡ [] → run.from + sum_by long runs ≡ end - 1 → run.to ≡ run.from + 1
    → slice_get (slot_sets cells) (end - 1) ≡ Some run.slots
    → IsDelta (map (λ (run : Span). deletion (characters cells) run.from run.to) runs) cells
    (removed_all runs (changed without_slots (end - 1) end cells)) delta
bared-delta cells end runs run delta some apart within hunks is nothing counts one slots =
    let last = end - 1 in
    let ends : end ≡ last + 1 = omega (arith, some) in
    let cell = get_or cells last no_cell in
    let front = take last cells in
    let rest = drop (last + 1) cells in
    let left = left-at cells runs last run.from (omega (arith, within, some))
    (subst (λ n. AreApart n runs) ends apart) counts in
    let made : hunks_made delta cells ≡ removed_all runs front ++ cell ∷ rest =
    ap (λ hs. patched_by bare_cells 0 hs cells) hunks ∙ taking-cells cells end runs apart within
    ∙ ap (removed_all runs) left.split ∙ left.low cell in
    let own : cell.tags ≡ run.slots =
    sym (get_or-map (λ (c : Cell). c.tags) cells last no_cell set.empty (omega (arith, within, some)))
    ∙ get_or_from_slice_get (slot_sets cells) last run.slots set.empty slots in
    let bare_is : bared (lost_run delta) (hunks_made delta cells) ≡ removed_all runs front ++ without_slots cell ∷ rest =
    ap₂ bared is made ∙ ap (λ n. changed without_slots run.from n (removed_all runs front ++ cell ∷ rest)) one
    ∙ changed-at run.from (removed_all runs front) cell rest left.there in
    record {
      exact = subst (AreHunksOf (map (λ (run : Span). deletion (characters cells) run.from run.to) runs) (length cells))
          (sym hunks) (exact-taking cells end runs apart within);
      lost = subst (IsLostRun (hunks_made delta cells)) (sym is) (
        one,
        ap (λ cs. slice_get (slot_sets cs) run.from) made
            ∙ ap (λ sets. slice_get sets run.from)
            (map-append (λ (c : Cell). c.tags) (removed_all runs front) (cell ∷ rest))
            ∙ slice_get-seam (slot_sets (removed_all runs front)) cell.tags (slot_sets rest) run.from
            (length-map (removed_all runs front) (λ (c : Cell). c.tags) ∙ left.there) ∙ ap Some own,
      );
      either = subst (λ lost. IfSome lost (λ _. delta.gained.items ≡ [])) (sym is) nothing;
      bare = subst (λ runs. AreBareRuns 0 runs (bared (lost_run delta) (hunks_made delta cells))) (sym nothing) tt;
      cells = ap (λ n. removed_all runs (changed without_slots last n cells)) ends
          ∙ ap (λ cs. removed_all runs (changed without_slots last (last + 1) cs)) left.split
          ∙ ap (removed_all runs) (changed-at last front cell rest (length-take-le last cells (omega (arith, within, some))))
          ∙ left.low (without_slots cell)
          ∙ sym (ap (λ gained. slotted gained (bared (lost_run delta) (hunks_made delta cells))) nothing ∙ bare_is);
    }
  where
    slice_get-seam : {A : Type 0} (front : List A) (x : A) (rest : List A) (at : ℕ) → length front ≡ at
        → slice_get (front ++ x ∷ rest) at ≡ Some x
    slice_get-seam [] x rest at there = ap (slice_get (x ∷ rest)) (sym there)
    slice_get-seam (y ∷ front) x rest zero there = absurd (omega (arith, there))
    slice_get-seam (y ∷ front) x rest (suc at) there = slice_get-seam front x rest at (omega (arith, there))

-- what it leaves to delete spans of what a widget shows
pub deleted-cells : (recording : Recording) (start end : ℕ) (spans : List Span) (content : Content)
    (anchors : List Anchors) (log : Log) → 0 < end
    → (deleted recording start end spans (state_of content anchors log)).content.cells
    ≡ removed_all (runs_below (length content.cells) (delete_set (characters content.cells) start end (in_spans spans)))
    (if in_spans spans (end - 1) then changed without_slots (end - 1) end content.cells else content.cells)
deleted-cells recording start end spans content anchors log some =
    let state = state_of content anchors log in
    let runs = runs_below (length content.cells) (delete_set (characters content.cells) start end (in_spans spans)) in
    let bare : State = record state { content = after_step (ClearTags (end - 1)) content } in
    let ends : end - 1 + 1 ≡ end = omega (arith, some) in
    spans-removed recording Delete runs (if in_spans spans (end - 1) then bare else state)
    ∙ ap (removed_all runs) (elim (in_spans spans (end - 1)) as (λ b. (if b then bare else state).content.cells
    ≡ (if b then changed without_slots (end - 1) end content.cells else content.cells)) [
      | true ↦ ap (λ n. changed without_slots (end - 1) n content.cells) ends
      | false ↦ refl
    ])
