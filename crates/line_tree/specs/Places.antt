-- Where a name stands in a tree.
use Rattle.std.specs.Prelude.{◌≡◌, ℕ, zero, suc, ◌+◌, take, slice_get, List, map}
use Rattle.std.specs.List.{sum_by}
use Rattle.std.specs.Option.{option_map}
use Rattle.std.specs.declared.option.Option.TheVariants.{Some}
use Rattle.raw_nodes.specs.Records.{Records}
use Rattle.raw_nodes.specs.Rows.{kids}
use Rattle.raw_nodes.specs.declared.names.NodePtr.{NodePtr}
use Rattle.line_tree.specs.Locating.{characters_at}
use Rattle.line_tree.specs.Shape.{IsTree, lines_at}
use Rattle.line_tree.specs.Trees.{Named}

-- how many lines the first children have
abbrev pub lines_before : Records → NodePtr → ℕ → ℕ
lines_before m p i = sum_by (lines_at m) (take i (kids m p))

-- child c, at height h, is number i of q
pub record IsChild (m : Records) (h : ℕ) (q : NodePtr) (i : ℕ) (c : NodePtr) : Type 0 where
  pub tree : IsTree m (suc h) q
  pub at : slice_get (kids m q) i ≡ Some c

-- p stands at height h, d levels below the root r, and o lines of r stand before it
abbrev pub Sits : Records → ℕ → ℕ → NodePtr → NodePtr → ℕ → Type 0
Sits m zero h r p o = (p ≡ r) × (o ≡ 0)
Sits m (suc d) h r p o =
    (q : NodePtr) × (i : ℕ) × (b : ℕ) × Sits m d (suc h) r q b × IsChild m h q i p × (o ≡ b + lines_before m q i)

-- how many characters the first children have
abbrev pub characters_before : Records → NodePtr → ℕ → ℕ
characters_before m p i = sum_by (characters_at m) (take i (kids m p))

-- p stands at height h, d levels below the root r, and b characters of r stand before it
abbrev pub Begins : Records → ℕ → ℕ → NodePtr → NodePtr → ℕ → Type 0
Begins m zero h r p b = (p ≡ r) × (b ≡ 0)
Begins m (suc d) h r p b =
    (q : NodePtr) × (i : ℕ) × (a : ℕ) × Begins m d (suc h) r q a × IsChild m h q i p × (b ≡ a + characters_before m q i)

-- line k has this name
abbrev pub IsLineAt : List Named → ℕ → NodePtr → Type 0
IsLineAt ls k p = option_map (λ l. l.0) (slice_get ls k) ≡ Some p

-- the names of lines
abbrev pub line_names : List Named → List NodePtr
line_names ls = map (λ l. l.0) ls
