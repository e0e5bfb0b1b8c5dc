-- The history goes on fitting the text where a group is undone or redone.
use Rattle.edit_ops.proofs.Common.{◌≡◌, ℕ, ◌+◌, ◌-◌, ◌&&◌, Bool, true, false, List, [], ◌∷◌, Option, Some, None, length}
use Rattle.edit_ops.proofs.Common.{refl, sym, ap, ◌∙◌, subst, slice_range, slice_get, bytes_eq, nat_lt, nat_le}
use Rattle.edit_ops.proofs.Common.{if◌then◌else◌, option_and_then_some, Cell, Place, Content, characters, inserted}
use Rattle.edit_ops.proofs.Common.{removed, cells_of, map-inserted, map-removed, Action, FitsText, put_in, take_out}
use Rattle.edit_ops.proofs.Common.{repeated, reverted, repeated_group, reverted_group, next_undo, next_redo, after_undo}
use Rattle.edit_ops.proofs.Common.{after_redo, undo-goes, undo-fits, redo-goes, redo-fits, Recording, shared_slots}
use Rattle.edit_ops.proofs.Common.{IsKept, with_mark, put_back, taken_back, action_redone, action_undone, group_redone}
use Rattle.edit_ops.proofs.Common.{group_undone, undone_group, redone_group, undone, redone, State, characters-of}
use Rattle.edit_ops.proofs.Common.{and_parts, leb-true, ltb-true, map, map-append, not, option_and_then, replayed}
use Rattle.edit_ops.proofs.Common.{replays, reverse, reverse-append, ◌++◌, ◌<◌, ◌≤◌}

-- what is there behind a test
pub guarded : {A : Type 0} (test : Bool) (x y : A) → (if test then Some x else None) ≡ Some y → x ≡ y
guarded true x y is = let h : Some x ≡ Some y = is in cc
guarded false x y is = absurd (let h : None ≡ Some y = is in cc)

pub guarded-holds : {A : Type 0} (test : Bool) (x y : A) → (if test then Some x else None) ≡ Some y → test ≡ true
guarded-holds true x y is = refl
guarded-holds false x y is = absurd (let h : None ≡ Some y = is in cc)

-- ---- a text that goes in, or is taken out

pub record PutsIn (limit at : ℕ) (text all found : List ℕ) : Type 0 where
  pub inside : at < length all
  pub short : length all + length text ≤ limit
  pub is : inserted at text all ≡ found

pub puts-in : (limit at : ℕ) (text all found : List ℕ) → put_in limit at text all ≡ Some found →
    PutsIn limit at text all found
puts-in limit at text all found is =
    let test = nat_lt at (length all) && nat_le (length all + length text) limit in
    let tests = and_parts (nat_lt at (length all)) (nat_le (length all + length text) limit)
    (guarded-holds test (inserted at text all) found is) in
    record {
      inside = ltb-true at (length all) tests.0;
      short = leb-true (length all + length text) limit tests.1;
      is = guarded test (inserted at text all) found is;
    }

pub record TakesOut (at : ℕ) (text all found : List ℕ) : Type 0 where
  pub inside : at + length text < length all
  pub is : removed at (at + length text) all ≡ found

pub takes-out : (at : ℕ) (text all found : List ℕ) → take_out at text all ≡ Some found → TakesOut at text all found
takes-out at text all found is =
    let to = at + length text in
    let test = nat_lt to (length all) && bytes_eq (slice_range all at to) text in
    let tests = and_parts (nat_lt to (length all)) (bytes_eq (slice_range all at to) text)
    (guarded-holds test (removed at to all) found is) in
    record { inside = ltb-true to (length all) tests.0; is = guarded test (removed at to all) found is }

put-back-text : (limit at : ℕ) (text found : List ℕ) (state : State) →
    put_in limit at text (characters state.content.cells) ≡ Some found →
    characters (put_back at text state).content.cells ≡ found
put-back-text limit at text found state is =
    let slots = shared_slots at state.content.cells in
    map-inserted (λ (cell : Cell). cell.character) at (cells_of text slots) state.content.cells
    ∙ ap (λ new. inserted at new (characters state.content.cells)) (characters-of text slots)
    ∙ (puts-in limit at text (characters state.content.cells) found is).is

taken-back-text : (at : ℕ) (text found : List ℕ) (state : State) →
    take_out at text (characters state.content.cells) ≡ Some found
    → characters (taken_back at (at + length text) state).content.cells ≡ found
taken-back-text at text found state is =
    map-removed (λ (cell : Cell). cell.character) at (at + length text) state.content.cells
    ∙ (takes-out at text (characters state.content.cells) found is).is

pub redone-text : (limit : ℕ) (action : Action) (found : List ℕ) (state : State) →
    repeated limit action (characters state.content.cells) ≡ Some found →
    characters (action_redone action state).content.cells ≡ found
redone-text limit action found state is =
    elim action.inserts as (λ b. (if b then put_in limit action.at action.text (characters state.content.cells)
    else take_out action.at action.text (characters state.content.cells)) ≡ Some found
    → characters (if b then put_back action.at action.text state
    else taken_back action.at (action.at + length action.text) state).content.cells ≡ found) [
      | true ↦ put-back-text limit action.at action.text found state
      | false ↦ taken-back-text action.at action.text found state
    ] is

pub group-redone-text : (limit : ℕ) (group : List Action) (found : List ℕ) (state : State) →
    repeated_group limit group (characters state.content.cells) ≡ Some found
    → characters (group_redone group state).content.cells ≡ found
group-redone-text limit [] found state is = let h : Some (characters state.content.cells) ≡ Some found = is in cc
group-redone-text limit (action ∷ actions) found state is =
    option_and_then_some (repeated_group limit actions) (repeated limit action (characters state.content.cells)) found
    is (λ between one others.
    let first = redone-text limit action between state one in
    group-redone-text limit actions found (action_redone action state) (ap (repeated_group limit actions) first
    ∙ others))

-- ---- a group that is undone, by what reverts its actions

reverse-cons : (action : Action) (actions : List Action) → reverse (action ∷ actions) ≡ reverse actions ++ action ∷ []
reverse-cons action actions = reverse-append (action ∷ []) actions

pub back-cons : (action : Action) (actions : List Action) → replays true (action ∷ actions)
    ≡ replays true actions ++ replayed true action ∷ []
back-cons action actions =
    ap (map (replayed true)) (reverse-cons action actions) ∙ map-append (replayed true) (reverse actions) (action ∷ [])

redone-append : (actions others : List Action) (state : State) →
    group_redone (actions ++ others) state ≡ group_redone others (group_redone actions state)
redone-append [] others state = refl
redone-append (action ∷ actions) others state = redone-append actions others (action_redone action state)

flipped-is : (action : Action) (state : State) → action_redone (replayed true action) state ≡ action_undone action state
flipped-is action state =
    elim action.inserts as (λ b. (if not b then put_back action.at action.text state
    else taken_back action.at (action.at + length action.text) state)
    ≡ (if b then taken_back action.at (action.at + length action.text) state else put_back action.at action.text state))
    [ true ↦ refl | false ↦ refl ]

pub back-undone : (group : List Action) (state : State) →
    group_redone (replays true group) state ≡ group_undone group state
back-undone [] state = refl
back-undone (action ∷ actions) state =
    ap (λ all. group_redone all state) (back-cons action actions)
    ∙ redone-append (replays true actions) (replayed true action ∷ []) state
    ∙ flipped-is action (group_redone (replays true actions) state)
    ∙ ap (action_undone action) (back-undone actions state)

repeated-append : (limit : ℕ) (actions others : List Action) (text : List ℕ) →
    repeated_group limit (actions ++ others) text
    ≡ option_and_then (repeated_group limit others) (repeated_group limit actions text)
repeated-append limit [] others text = refl
repeated-append limit (action ∷ actions) others text =
    elim (repeated limit action text) as (λ found. option_and_then (repeated_group limit (actions ++ others)) found
    ≡ option_and_then (repeated_group limit others) (option_and_then (repeated_group limit actions) found)) [
      | None ↦ refl
      | Some next ↦ repeated-append limit actions others next
    ]

one-repeated : (limit : ℕ) (action : Action) (text : List ℕ) →
    repeated_group limit (action ∷ []) text ≡ repeated limit action text
one-repeated limit action text = elim (repeated limit action text) as (λ found.
    option_and_then (repeated_group limit []) found ≡ found) [ None ↦ refl | Some next ↦ refl ]

flipped-repeated : (limit : ℕ) (action : Action) (text : List ℕ) →
    repeated limit (replayed true action) text ≡ reverted limit action text
flipped-repeated limit action text =
    elim action.inserts as (λ b. (if not b then put_in limit action.at action.text text
    else take_out action.at action.text text)
    ≡ (if b then take_out action.at action.text text else put_in limit action.at action.text text))
    [ true ↦ refl | false ↦ refl ]

pub back-reverted : (limit : ℕ) (group : List Action) (text : List ℕ) →
    repeated_group limit (replays true group) text ≡ reverted_group limit group text
back-reverted limit [] text = refl
back-reverted limit (action ∷ actions) text =
    ap (λ all. repeated_group limit all text) (back-cons action actions)
    ∙ repeated-append limit (replays true actions) (replayed true action ∷ []) text
    ∙ ap (option_and_then (repeated_group limit (replayed true action ∷ []))) (back-reverted limit actions text)
    ∙ (elim (reverted_group limit actions text) as (λ found.
    option_and_then (repeated_group limit (replayed true action ∷ [])) found
    ≡ option_and_then (reverted limit action) found) [
      | None ↦ refl
      | Some next ↦ one-repeated limit (replayed true action) next ∙ flipped-repeated limit action next
    ])

pub group-undone-text : (limit : ℕ) (group : List Action) (found : List ℕ) (state : State) →
    reverted_group limit group (characters state.content.cells) ≡ Some found
    → characters (group_undone group state).content.cells ≡ found
group-undone-text limit group found state is =
    ap (λ (s : State). characters s.content.cells) (sym (back-undone group state))
    ∙ group-redone-text limit (replays true group) found state
    (back-reverted limit group (characters state.content.cells) ∙ is)

-- the mark doesn't matter
pub stood-cells : (number : ℕ) (place : Option Place) (content : Content) →
    (with_mark number place content).cells ≡ content.cells
stood-cells number None content = refl
stood-cells number (Some place) content = refl

none-first : (groups : List (List Action)) (k : ℕ) (group : List Action) → groups ≡ [] →
    slice_get groups k ≡ Some group → ⊥
none-first groups k group none is = let h : slice_get {X = List Action} [] k
    ≡ Some group = ap (λ gs. slice_get gs k) (sym none) ∙ is in let no : None ≡ Some group = h in absurd (cc)

undone-group-kept : (limit mark : ℕ) (recording : Recording) (found : Option (List Action)) (state : State) →
    next_undo state.log.history ≡ found → IsKept limit recording state →
    IsKept limit recording (undone_group mark found state)
undone-group-kept limit mark recording None state is kept = kept
undone-group-kept limit mark recording (Some group) state is kept =
    let goes = undo-goes limit state.log.history (characters state.content.cells) group kept.fits is in
    let made = group_undone group state in
    let text : characters (undone_group mark (Some group) state).content.cells ≡ goes.0 =
    ap characters (stood-cells mark _ made.content) ∙ group-undone-text limit group goes.0 state goes.1 in
    record {
      fits = subst (λ xs. FitsText limit xs (after_undo group state.log.history)) (sym text)
          (undo-fits limit state.log.history (characters state.content.cells) goes.0 group kept.fits is goes.1);
      groups = λ off. absurd (none-first state.log.history.groups (length state.log.history.groups - 1) group
          (kept.groups off) is);
      undone = λ off. absurd (none-first state.log.history.groups (length state.log.history.groups - 1) group
          (kept.groups off) is);
    }

redone-group-kept : (limit mark : ℕ) (recording : Recording) (found : Option (List Action)) (state : State) →
    next_redo state.log.history ≡ found → IsKept limit recording state →
    IsKept limit recording (redone_group mark found state)
redone-group-kept limit mark recording None state is kept = kept
redone-group-kept limit mark recording (Some group) state is kept =
    let goes = redo-goes limit state.log.history (characters state.content.cells) group kept.fits is in
    let made = group_redone group state in
    let text : characters (redone_group mark (Some group) state).content.cells ≡ goes.0 =
    ap characters (stood-cells mark _ made.content) ∙ group-redone-text limit group goes.0 state goes.1 in
    record {
      fits = subst (λ xs. FitsText limit xs (after_redo group state.log.most state.log.history)) (sym text)
          (redo-fits limit state.log.most state.log.history (characters state.content.cells) goes.0 group kept.fits is
          goes.1);
      groups = λ off. absurd (none-first state.log.history.undone 0 group (kept.undone off) is);
      undone = λ off. absurd (none-first state.log.history.undone 0 group (kept.undone off) is);
    }

pub undone-kept : (limit mark : ℕ) (recording : Recording) (state : State) → IsKept limit recording state →
    IsKept limit recording (undone mark state)
undone-kept limit mark recording state kept =
    undone-group-kept limit mark recording (next_undo state.log.history) state refl kept

pub redone-kept : (limit mark : ℕ) (recording : Recording) (state : State) → IsKept limit recording state →
    IsKept limit recording (redone mark state)
redone-kept limit mark recording state kept =
    redone-group-kept limit mark recording (next_redo state.log.history) state refl kept
