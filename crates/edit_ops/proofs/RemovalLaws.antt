-- What is taken out: where lines begin around it, where anchors stand, and what stands on both sides.
use Rattle.edit_ops.proofs.Common.{◌≡◌, ℕ, ◌+◌, ◌-◌, ◌<◌, ◌≤◌, ◌==◌, ◌&&◌, Bool, true, false, List, [], ◌∷◌, ◌++◌, map}
use Rattle.edit_ops.proofs.Common.{length, get_or, take, drop, refl, sym, ap, ◌∙◌, arith, subst, unwrap_or, not, nat_le}
use Rattle.edit_ops.proofs.Common.{slice_range, if◌then◌else◌, All, nat_tests, take-append-drop, All-map, Remove}
use Rattle.edit_ops.proofs.Common.{Content, characters, line_of, line_start, removed, after, line_start-le}
use Rattle.edit_ops.proofs.Common.{length-removed, EditKind, Anchors, Recording, AnchorsStand, start_drawn, end_drawn}
use Rattle.edit_ops.proofs.Common.{anchors_drawn, next_line, line-before, removed_span, Log, Outline, outlineed}
use Rattle.edit_ops.proofs.Common.{state_of, eq-eqb}
use Rattle.edit_ops.proofs.AnchorLaws.{if-mapped}
use Rattle.edit_ops.proofs.DeleteLaws.{span-out}

start-within : (line from to len anchor : ℕ) → anchor ≤ len → line ≤ from → from ≤ to → to ≤ len →
    start_drawn line from to anchor ≤ len - (to - from)
start-within line from to len anchor stands before ordered within = grind (arith, nat_tests)

end-within : (line next start from to len anchor : ℕ) → anchor ≤ len → line ≤ from → from ≤ to → to ≤ len →
    next ≤ len - (to - from) → end_drawn line next start from to anchor ≤ len - (to - from)
end-within line next start from to len anchor stands before ordered within bound =
    elim (nat_le start from && not (from == line)) as (λ b.
    (if nat_le anchor from then anchor else if nat_le anchor to then (if b then next else line)
    else anchor - (to - from)) ≤ len - (to - from)) [
      | true ↦ grind (arith, nat_tests)
      | false ↦ grind (arith, nat_tests)
    ]

-- the anchors of each widget still stand in the text
pub stand-drawn : (line next from to len : ℕ) (all : List Anchors) → All (AnchorsStand len) all → line ≤ from →
    from ≤ to → to ≤ len → next ≤ len - (to - from)
    → All (AnchorsStand (len - (to - from))) (map (anchors_drawn line next from to) all)
stand-drawn line next from to len all stand before ordered within bound =
    All-map (AnchorsStand (len - (to - from))) (anchors_drawn line next from to) all (λ k d inside.
    let anchors = get_or all k d in
    let maps = if-mapped (λ place. place ≤ len) (λ place. place ≤ len - (to - from)) in
    record {
      start = maps (start_drawn line from to) anchors.start
          (λ place stands. start-within line from to len place stands before ordered within) (stand k d inside).start;
      end = maps (end_drawn line next (unwrap_or anchors.start 0) from to) anchors.end
          (λ place stands. end-within line next (unwrap_or anchors.start 0) from to len place stands before ordered
          within bound) (stand k d inside).end;
    })

-- an edit that takes a span out
module _ (text : List ℕ) (line next from to : ℕ) {outline new : Outline} {anchors : List Anchors}
    (begun : outline ≡ record { steps = []; anchors = anchors; actions = [] })
    (made : new ≡ record {
      steps = outline.steps ++ Remove from to ∷ [];
      anchors = map (anchors_drawn line next from to) outline.anchors;
      actions = outline.actions ++ record { inserts = false; at = from; text = text } ∷ [];
    }) where
  pub taken-out : (keeps : Bool) (content : Content) → from < to
      → (keeps ≡ true → text ≡ slice_range (characters content.cells) from to)
      → line ≡ line_start (line_of (characters content.cells) from) (characters content.cells)
      → next ≡ next_line (removed from to (characters content.cells)) from
      → (recording : Recording) (kind : EditKind) (log : Log) → (recording.undo ≡ true → keeps ≡ true)
      → outlineed recording kind new (state_of content anchors log)
      ≡ removed_span recording kind from to (state_of content anchors log)
  taken-out keeps content some text_is line_is next_is recording kind log keeping =
      span-out recording kind (record { steps = []; anchors = anchors; actions = [] }) new
      (state_of content anchors log) text line next from to
      (made ∙ ap (λ (d : Outline). record {
        steps = d.steps ++ Remove from to ∷ [];
        anchors = map (anchors_drawn line next from to) d.anchors;
        actions = d.actions ++ record { inserts = false; at = from; text = text } ∷ [];
      }) begun)
      some (λ on. text_is (keeping on)) line_is next_is

  pub stand-out : (cells : List ℕ) (len : ℕ) → All (AnchorsStand len) anchors → length cells ≡ len → from ≤ to
      → to ≤ len → line ≡ line_start (line_of cells from) cells → next ≡ next_line (removed from to cells) from
      → All (AnchorsStand (len - (to - from))) new.anchors
  stand-out cells len stand counted ordered within line_is next_is =
      let before : line ≤ from = let h = line-before cells from (omega (arith, counted)) in omega (arith, line_is, h) in
      let bound : next ≤ len - (to - from) =
      let h = line_start-le (removed from to cells) (line_of (removed from to cells) from + 1) in
      let long = length-removed from to cells ordered (omega (arith, counted)) in
      omega (arith, next_is, h, long, counted) in
      subst (λ (d : Outline). All (AnchorsStand (len - (to - from))) d.anchors) (sym made)
      (subst (λ (d : Outline). All (AnchorsStand (len - (to - from)))
      (map (anchors_drawn line next from to) d.anchors)) (sym begun)
      (stand-drawn line next from to len anchors stand before ordered within bound))

-- ---- no cells are taken out

if-same : {A : Type 0} (b : Bool) (x y : A) → b ≡ true → x ≡ (if b then x else y)
if-same true x y is = refl
if-same false x y is = absurd (cc)

module _ {outline : Outline} {anchors : List Anchors} {from to : ℕ}
    (begun : outline ≡ record { steps = []; anchors = anchors; actions = [] }) (same : from ≡ to) where
  pub none-stand : (len : ℕ) → All (AnchorsStand len) anchors → All (AnchorsStand (len - (to - from))) outline.anchors
  none-stand len stand =
      let still : len ≡ len - (to - from) = omega arith in
      subst (λ (d : Outline). All (AnchorsStand (len - (to - from))) d.anchors) (sym begun)
      (subst (λ n. All (AnchorsStand n) anchors) still stand)

  pub none-cells : (content : Content) → (after outline.steps content).cells ≡ removed from to content.cells
  none-cells content =
      ap (λ (d : Outline). (after d.steps content).cells) begun ∙ sym (take-append-drop from content.cells)
      ∙ ap (λ n. take from content.cells ++ drop n content.cells) same

  pub none-out : (content : Content) (recording : Recording) (kind : EditKind) (log : Log)
      → outlineed recording kind outline (state_of content anchors log)
      ≡ removed_span recording kind from to (state_of content anchors log)
  none-out content recording kind log =
      ap (λ (d : Outline). outlineed recording kind d (state_of content anchors log)) begun
      ∙ if-same (from == to) (state_of content anchors log) _ (eq-eqb from to same)
