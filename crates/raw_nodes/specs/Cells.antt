-- What owns the nodes, and where they lie.
use Rattle.std.specs.Prelude.{◌≢◌, ⊤, ℕ, suc, ◌<◌, List, [], ◌∷◌, cond, length, map, slice_index_or}
use Rattle.std.specs.Prelude.{zero, slice_set, Option, None, Some}
use Rattle.std.specs.Global.{Global}
use Rattle.std.specs.Ordering.{eq_by_cmp, nat_cmp}
use Rattle.std.specs.declared.cmp.Ordering.{Ordering}
use Rattle.std.specs.Ptr.{Ptr, lies_at}
use Rattle.std.specs.contracts.impls.GlobalAllocator.TheImpl.{ghosts}
use base.Fml.{Fml, Lft, ftrue, fsep, fex}
use base.Fraction.{full_share}
use denote.Memory.{lone}
use denote.RawPtr.{block_of}
use denote.Sharing.{nothing, beside}
use denote.Struct.Lending.{lent_at}
use mir.Raw.{raw}
use Rattle.raw_nodes.specs.declared.names.NodePtr.{NodePtr}
use Rattle.raw_nodes.specs.declared.nodes.Node.{Node}
use Rattle.raw_nodes.specs.contracts.nodes.Node as node

-- the right to free a node's block, by a handle to the heap
abbrev pub node_right : Ptr → Fml
node_right p = fex Global (λ a. ghosts.dealloc_token a (raw (lone node.the_row.mir)) p)

-- a node, and that right
abbrev pub node_owns : Ptr → Node → Fml
node_owns p x = fsep (lies_at node.the_row full_share p x) (node_right p)

-- each node: the values xs at the places ps
abbrev pub nodes_own : List Ptr → List Node → Fml
nodes_own [] xs = ftrue
nodes_own (p ∷ ps) [] = ftrue
nodes_own (p ∷ ps) (x ∷ xs) = fsep (node_owns p x) (nodes_own ps xs)

-- what a `&` holds of each
abbrev pub nodes_lent : List Ptr → List Node → Lft → Fml
nodes_lent [] xs = nothing
nodes_lent (p ∷ ps) [] = nothing
nodes_lent (p ∷ ps) (x ∷ xs) = beside (lent_at node.the_row p x) (nodes_lent ps xs)

-- names in order
abbrev pub name_cmp : NodePtr → NodePtr → Ordering
name_cmp p q = nat_cmp (block_of p.at) (block_of q.at)

-- where the nodes of names lie
abbrev pub ats : List NodePtr → List Ptr
ats = map (λ (p : NodePtr). p.at)

-- how many names stand before the first that is p
abbrev pub number_in : List NodePtr → NodePtr → ℕ
number_in [] p = 0
number_in (q ∷ ps) p = cond (eq_by_cmp name_cmp p q) 0 (suc (number_in ps p))

-- p is one of the names
abbrev pub IsPlace : List NodePtr → NodePtr → Type 0
IsPlace ps p = number_in ps p < length ps

-- the node of that name, where there is one
abbrev pub node_at : List NodePtr → List Node → NodePtr → Node → Node
node_at ps xs p none = slice_index_or xs (number_in ps p) none

-- the values with y for that of the name, if there is one
abbrev pub put_at : {Y : Type 0} → List NodePtr → List Y → Option NodePtr → Y → List Y
put_at ps ys None y = ys
put_at ps ys (Some p) y = slice_set ys (number_in ps p) y

-- a list but for its element of number i
abbrev pub without : {X : Type 0} → List X → ℕ → List X
without [] i = []
without (x ∷ xs) zero = xs
without (x ∷ xs) (suc i) = x ∷ without xs i

-- p is none of the places
abbrev pub NotIn : List Ptr → Ptr → Type 0
NotIn [] p = ⊤
NotIn (q ∷ ps) p = (q ≢ p) × NotIn ps p

-- no place stands twice
abbrev pub AreApart : List Ptr → Type 0
AreApart [] = ⊤
AreApart (p ∷ ps) = NotIn ps p × AreApart ps
