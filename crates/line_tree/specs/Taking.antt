-- One of a tree's lines that is changed, and a mark that is taken off it.
use Rattle.std.specs.Prelude.{◌≡◌, ◌<◌, ℕ, suc, List, ◌++◌, length, map, take, drop, option_map, option_to_list}
use Rattle.std.specs.FinMap as finite
use Rattle.std.specs.declared.option.Option.{Option}
use Rattle.std.specs.declared.option.Option.TheVariants.{Some}
use Rattle.toggle_sums.specs.Counts.{Count, plus}
use Rattle.segments.specs.Columns.{LineContent}
use Rattle.line_lists.specs.Edits.{without_mark}
use Rattle.raw_nodes.specs.Records.{Record, Records, update, with_line}
use Rattle.raw_nodes.specs.declared.names.NodePtr.{NodePtr}
use Rattle.line_tree.specs.Changes.{Among, Distinct}
use Rattle.line_tree.specs.Places.{IsLineAt}
use Rattle.line_tree.specs.Shape.{IsTree, line_of, lines_in, tree_at}
use Rattle.line_tree.specs.Trees.{Named, names, total}

-- the line of one number becomes f of it, and keeps its name
abbrev pub changed : ℕ → (LineContent → LineContent) → List Named → List Named
changed k f ls = take k ls ++ map (λ (l : Named). (l.0, f l.1)) (take 1 (drop k ls)) ++ drop (suc k) ls

-- where a record stands, and what stands below it
abbrev pub Linked : Type 0
Linked = Option NodePtr × (ℕ × List (Option NodePtr))

abbrev pub linked : Record → Linked
linked r = (r.parent, (r.slot, r.children))

-- the same names, with the same parents, slots and children
abbrev pub SameLinks : Records → Records → Type 0
SameLinks m n = (q : NodePtr) → option_map linked (finite.get n q) ≡ option_map linked (finite.get m q)

-- so many marks have a number, none or one
abbrev pub marked : ℕ → LineContent → ℕ
marked number line = length (option_to_list (finite.get line.marks number))

-- the mark of a number is taken off the line p, if it has one
pub record TakesOff (m n : Records) (p : NodePtr) (number gone : ℕ) : Type 0 where
  pub line : LineContent
  pub was : line_of (finite.get m p) ≡ Some line
  pub same : n ≡ update m p (λ r. with_line r (without_mark number line))
  pub few : gone ≡ marked number line

-- line k below p can be changed
pub record CanChange (m : Records) (h : ℕ) (p : NodePtr) (k : ℕ) : Type 0 where
  pub tree : IsTree m h p
  pub distinct : Distinct (names h (tree_at m h p))
  pub place : k < length (lines_in m h p)

-- line k below p becomes f of it; with it so much went from what is counted below p, and so much came
pub record Changes (m n : Records) (h : ℕ) (p : NodePtr) (k : ℕ) (f : LineContent → LineContent) (gone more : Count) :
    Type 0 where
  pub links : SameLinks m n
  pub other : (q : NodePtr) → (Among q (names h (tree_at m h p)) → ⊥) → finite.get n q ≡ finite.get m q
  pub tree : IsTree n h p
  pub lines : lines_in n h p ≡ changed k f (lines_in m h p)
  pub sum : plus (total (lines_in n h p)) gone ≡ plus (total (lines_in m h p)) more
  pub count : finite.len n ≡ finite.len m

-- the line with this name becomes f of it, whatever its number is
abbrev pub ChangesNamed : Records → Records → ℕ → NodePtr → NodePtr → (LineContent → LineContent) → Count → Count
    → Type 0
ChangesNamed m n h r p f gone more = (k : ℕ) → IsLineAt (lines_in m h r) k p → Changes m n h r k f gone more
