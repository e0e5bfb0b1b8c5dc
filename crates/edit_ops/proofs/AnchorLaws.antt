-- Anchors that are moved: one of them, and those of each widget by a loop.
use Rattle.edit_ops.proofs.Common.{◌≡◌, ℕ, ◌+◌, ◌<◌, List, ◌++◌, map, length, get_or, set, take, drop, sym, subst, ap}
use Rattle.edit_ops.proofs.Common.{◌∙◌, arith, All, get_or_default, All-get_or, Anchors, AnchorsStand, IfSome, None}
use Rattle.edit_ops.proofs.Common.{Option, Some, option_map, common_steps}
use Rattle.std.proofs.lemmas.List.Edits.{map_over_more}

pub if-mapped : (P Q : ℕ → Type 0) (f : ℕ → ℕ) (anchor : Option ℕ) → ((place : ℕ) → P place → Q (f place)) →
    IfSome anchor P → IfSome (option_map f anchor) Q
if-mapped P Q f None goes is = tt
if-mapped P Q f (Some place) goes is = goes place is

-- what is still to be moved stands as it did
later_same : (f : Anchors → Anchors) (old now : List Anchors) (i : ℕ) (d : Anchors) → i < length old →
    now ≡ map f (take i old) ++ drop i old → get_or now i d ≡ get_or old i d
later_same f old now i d within so_far = grind (arith, common_steps)

pub stands_yet : (f : Anchors → Anchors) (len : ℕ) (old now : List Anchors) (i : ℕ) (d : Anchors) → i < length old →
    All (AnchorsStand len) old
    → now ≡ map f (take i old) ++ drop i old → AnchorsStand len (get_or now i d)
stands_yet f len old now i d within stand so_far =
    let there : AnchorsStand len (get_or old i d) = All-get_or (AnchorsStand len) old i d within stand in
    subst (AnchorsStand len) (sym (later_same f old now i d within so_far)) there

-- the anchors of one widget more are moved
pub one_more : (f : Anchors → Anchors) (old now : List Anchors) (i : ℕ) (d there : Anchors) → i < length old →
    length now ≡ length old
    → now ≡ map f (take i old) ++ drop i old → there ≡ f (get_or now i d) →
    set now i there ≡ map f (take (i + 1) old) ++ drop (i + 1) old
one_more f old now i d there within long so_far is =
    let inside : i < length now = rw long within in
    ap (set now i) is ∙ map_over_more f old now i (get_or now i d) within so_far (get_or_default now i d _ inside)
