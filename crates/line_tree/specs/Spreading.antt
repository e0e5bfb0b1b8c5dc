-- What sharing before a line goes in leaves of trees.
use Rattle.std.specs.Prelude.{◌≡◌, ◌⊎◌, Bool, ℕ, suc, ◌+◌, ◌/◌, ◌++◌, ◌<◌, ◌≤◌, [], ◌∷◌, length, slice_get, IsSome}
use Rattle.std.specs.Bool.{MatchBool}
use Rattle.std.specs.Prelude.{false, if◌then◌else◌, nat_lt}
use Rattle.std.specs.FinMap as finite
use Rattle.std.specs.declared.option.Option.TheVariants.{Some}
use Rattle.raw_nodes.specs.Records.{Records}
use Rattle.raw_nodes.specs.Rows.{kids}
use Rattle.raw_nodes.specs.declared.names.NodePtr.{NodePtr}
use Rattle.line_tree.specs.Changes.{Among, Shares}
use Rattle.line_tree.specs.Finds.{HasRow}
use Rattle.line_tree.specs.Growth.{IsWide}
use Rattle.line_tree.specs.Shape.{tree_at}
use Rattle.line_tree.specs.Shrinking.{CanMend, Turns}
use Rattle.line_tree.specs.Trees.{names}
use Rattle.line_tree.specs.declared.find.Found.{Found}

-- neighbours below p can share their children, and each has six at least
pub record CanSpread (m : Records) (p : NodePtr) : Type 0 where
  pub row : HasRow m p
  pub pairs : CanMend m p
  pub each : (i : ℕ) (c : NodePtr) → slice_get (kids m p) i ≡ Some c → HasRow m c × (6 ≤ length (kids m c))

-- a child stands in this slot of p, and has room for four more
pub record IsRoomy (m : Records) (p : NodePtr) (i : ℕ) : Type 0 where
  pub child : NodePtr
  pub is : slice_get (kids m p) i ≡ Some child
  pub few : length (kids m child) + 4 ≤ 12

-- no child beside the one in this slot has
abbrev pub IsHemmed : Records → NodePtr → ℕ → Type 0
IsHemmed m p slot = (i : ℕ) → (suc i ≡ slot) ⊎ (i ≡ suc slot) → IsRoomy m p i → ⊥

-- of the children of p in the slot at and in the next one, one is that in this slot, and the other has room
pub record IsPair (m : Records) (p : NodePtr) (slot at : ℕ) : Type 0 where
  pub near : ((suc at ≡ slot) × IsRoomy m p at) ⊎ ((at ≡ slot) × IsRoomy m p (suc at))
  pub within : suc at < length (kids m p)

-- whether the left one of the two gets all that it can have: where lines come in order, and line number f.rest of the
-- right one is in its later half
abbrev pub is_filled : Found → ℕ → Bool → Bool
is_filled f at in_order =
    if in_order then (if nat_lt at f.slot then nat_lt (f.lines / 2) f.rest else false) else false

-- how many of so many children it gets
abbrev pub first_part : ℕ → Bool → ℕ
first_part count filled = if filled then 12 else count / 2

-- the child that was found below p and a neighbour that has room share their children
pub record Moves (m n : Records) (p : NodePtr) (f : Found) (in_order : Bool) : Type 0 where
  pub at : ℕ
  pub pair : IsPair m p f.slot at
  pub left : NodePtr
  pub right : NodePtr
  pub is_left : slice_get (kids m p) at ≡ Some left
  pub is_right : slice_get (kids m p) (suc at) ≡ Some right
  pub shares : Shares m n left right
  pub half : shares.half ≡ first_part (length (kids m left ++ kids m right)) (is_filled f at in_order)

-- they do where the child that was found is full and one beside it has room; else nothing is changed
abbrev pub Spreads : Records → Records → NodePtr → Found → Bool → Bool → Type 0
Spreads m n p f in_order moved =
    MatchBool moved (Moves m n p f in_order) ((n ≡ m) × ((length (kids m f.child) < 12) ⊎ IsHemmed m p f.slot))

-- below p there are the same lines in order and the same names, and p has as many children
pub record Respreads (m n : Records) (h : ℕ) (p : NodePtr) : Type 0 where
  pub turns : Turns m n h (tree_at m h p ∷ []) (tree_at n h p ∷ [])
  pub inside : (q : NodePtr) → Among q (names h (tree_at m h p)) → Among q (names h (tree_at n h p))
  pub kept : (q : NodePtr) → IsSome (finite.get m q) → IsSome (finite.get n q)
  pub old : (q : NodePtr) → IsSome (finite.get n q) → IsSome (finite.get m q)
  pub wide : (least : ℕ) → IsWide least h (tree_at m h p) → IsWide least h (tree_at n h p)
  pub same : finite.get n p ≡ finite.get m p
