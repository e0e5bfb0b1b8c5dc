-- Changes of records.
use Rattle.std.specs.Prelude.{◌≡◌, ◌≢◌, ◌++◌, Bool, ℕ, suc, ◌+◌, ◌^◌, ◌<◌, ◌≤◌, ◌⊎◌, List, [], ◌∷◌, slice_get, length}
use Rattle.std.specs.Prelude.{take, drop, IsSome, is_some, IfSome, MatchOption, ⊤}
use Rattle.std.specs.Bool.{MatchBool}
use Rattle.std.specs.FinMap as finite
use Rattle.std.specs.List.{insert}
use Rattle.std.specs.declared.option.Option.{Option}
use Rattle.std.specs.declared.option.Option.TheVariants.{None, Some}
use Rattle.toggle_sums.specs.Counts.{Count, no_text, plus}
use Rattle.raw_nodes.specs.Records.{Record, Records, blank, update, with_child, with_parent, with_sum}
use Rattle.raw_nodes.specs.Rows.{kids, row}
use Rattle.raw_nodes.specs.declared.names.NodePtr.{NodePtr}
use Rattle.line_tree.specs.Finds.{HasRow}
use Rattle.line_tree.specs.Shape.{Links, sum_at}

-- the child in slot i of p becomes o, and knows it
abbrev pub link_one : Records → NodePtr → ℕ → Option NodePtr → Records
link_one m p i None = update m p (λ r. with_child r i None)
link_one m p i (Some c) = update (update m p (λ r. with_child r i (Some c))) c (λ r. with_parent r (Some p) i)

-- the children in the slots of p from i on become these
abbrev pub relinked : Records → NodePtr → ℕ → List (Option NodePtr) → Records
relinked m p i [] = m
relinked m p i (o ∷ os) = relinked (link_one m p i o) p (suc i) os

-- the children before a slot are as they are to be
abbrev pub Stay : Records → NodePtr → ℕ → List (Option NodePtr) → Type 0
Stay m p from os = relinked m p 0 os ≡ relinked m p from (drop from os)

abbrev pub sum_or_none : Records → Option NodePtr → Count
sum_or_none m None = no_text
sum_or_none m (Some c) = sum_at m c

-- the sum of these
abbrev pub sums : Records → List (Option NodePtr) → Count
sums m [] = no_text
sums m (o ∷ os) = plus (sum_or_none m o) (sums m os)

-- the sum of p becomes that of these children
abbrev pub resummed : Records → NodePtr → List (Option NodePtr) → Records
resummed m p os = update m p (λ r. with_sum r (sums m os))

-- the children of p become these
abbrev pub refilled : Records → NodePtr → List (Option NodePtr) → Records
refilled m p os = resummed (relinked m p 0 os) p os

-- the sum of these children
abbrev pub sum_all : Records → List NodePtr → Count
sum_all m [] = no_text
sum_all m (c ∷ cs) = plus (sum_at m c) (sum_all m cs)

-- a sum whose numbers fit
pub record FitsSum (s : Count) : Type 0 where
  pub lines : s.lines < 2 ^ 64
  pub characters : s.characters < 2 ^ 64
  pub marks : s.marks < 2 ^ 64

-- q is one of these
abbrev pub Among : NodePtr → List NodePtr → Type 0
Among q [] = ⊥
Among q (c ∷ cs) = (q ≡ c) ⊎ Among q cs

-- no name stands twice
abbrev pub Distinct : List NodePtr → Type 0
Distinct [] = ⊤
Distinct (c ∷ cs) = (Among c cs → ⊥) × Distinct cs

-- p can be given these children
pub record CanFill (m : Records) (p : NodePtr) (cs : List NodePtr) : Type 0 where
  pub found : Record
  pub is : finite.get m p ≡ Some found
  pub inner : found.line ≡ None
  pub long : length found.children ≡ 12
  pub few : length cs ≤ 12
  pub each : (c : NodePtr) → Among c cs → IsSome (finite.get m c)
  pub apart : Among p cs → ⊥
  pub fits : FitsSum (sum_all m cs)

-- p can be given one more child
pub record CanPut (m : Records) (p : NodePtr) (at : ℕ) (x : NodePtr) : Type 0 where
  pub row : HasRow m p
  pub links : Links m p 0 (kids m p)
  pub place : at ≤ length (kids m p)
  pub named : IsSome (finite.get m x)
  pub apart : Among p (insert (kids m p) at x) → ⊥
  pub fits : FitsSum (sum_all m (insert (kids m p) at x))

-- all are the children of p now; s is new, and has all but the first six or seven
pub record Fills (m n : Records) (p : NodePtr) (all : List NodePtr) : Type 0 where
  pub few : length all ≤ 12
  pub same : n ≡ refilled m p (row all)

pub record Splits (m n : Records) (p : NodePtr) (all : List NodePtr) (s : NodePtr) : Type 0 where
  pub many : length all ≡ 13
  pub fresh : finite.get m s ≡ None
  pub half : ℕ
  pub low : 6 ≤ half
  pub high : half ≤ 7
  pub same : n ≡ refilled (refilled (finite.insert m s (blank None)) p (row (take half all))) s (row (drop half all))

abbrev pub Puts : Records → Records → NodePtr → List NodePtr → Option NodePtr → Type 0
Puts m n p all o = MatchOption o (Fills m n p all) (Splits m n p all)

-- the children of two nodes can be shared out anew
pub record CanEven (m : Records) (a b : NodePtr) : Type 0 where
  pub left : HasRow m a
  pub links : Links m a 0 (kids m a)
  pub right : HasRow m b
  pub two : a ≢ b
  pub off_left : Among a (kids m a ++ kids m b) → ⊥
  pub off_right : Among b (kids m a ++ kids m b) → ⊥
  pub sum_left : sum_at m a ≡ sum_all m (kids m a)
  pub sum_right : sum_at m b ≡ sum_all m (kids m b)
  pub fits : FitsSum (sum_all m (kids m a ++ kids m b))

-- a has all of them
pub record Merges (m n : Records) (a b : NodePtr) : Type 0 where
  pub few : length (kids m a ++ kids m b) ≤ 12
  pub same : n ≡ refilled m a (row (kids m a ++ kids m b))

-- so many of these many are the first part, where each part is a node's children below a root
pub record Halves (all half : ℕ) : Type 0 where
  pub low : 6 ≤ half
  pub high : half ≤ 12
  pub rest_low : half + 6 ≤ all
  pub rest_high : all ≤ half + 12

-- a has the first of them, and b the others
abbrev pub shared : Records → NodePtr → NodePtr → ℕ → Records
shared m a b half =
    refilled (refilled m a (row (take half (kids m a ++ kids m b)))) b (row (drop half (kids m a ++ kids m b)))

-- each has a part of them
pub record Shares (m n : Records) (a b : NodePtr) : Type 0 where
  pub half : ℕ
  pub parts : Halves (length (kids m a ++ kids m b)) half
  pub same : n ≡ shared m a b half

abbrev pub Evens : Records → Records → NodePtr → NodePtr → Bool → Type 0
Evens m n a b merged = MatchBool merged (Merges m n a b) (Shares m n a b)

-- two neighbours below p, one of them in this slot, share their children; o is the slot of the one that has none now
pub record Mends (m n : Records) (p : NodePtr) (slot : ℕ) (o : Option ℕ) : Type 0 where
  pub at : ℕ
  pub left : NodePtr
  pub right : NodePtr
  pub is_left : slice_get (kids m p) at ≡ Some left
  pub is_right : slice_get (kids m p) (suc at) ≡ Some right
  pub near : (at ≡ slot) ⊎ (suc at ≡ slot)
  pub evens : Evens m n left right (is_some o)
  pub gap : IfSome o (λ s. s ≡ suc at)
