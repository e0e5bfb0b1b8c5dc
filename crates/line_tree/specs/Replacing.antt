-- A line of a tree that has another one's place, and its name, or that is edited where it lies.
use Rattle.std.specs.Prelude.{◌≡◌, ℕ}
use Rattle.std.specs.FinMap as finite
use Rattle.std.specs.declared.option.Option.TheVariants.{Some}
use Rattle.toggle_sums.specs.Counts.{Count, plus}
use Rattle.segments.specs.Columns.{LineContent, line_count}
use Rattle.raw_nodes.specs.Records.{Records, update, with_line}
use Rattle.raw_nodes.specs.declared.names.NodePtr.{NodePtr}
use Rattle.line_tree.specs.Changes.{Distinct, FitsSum}
use Rattle.line_tree.specs.Places.{IsLineAt}
use Rattle.line_tree.specs.Shape.{IsTree, line_of, lines_in, tree_at}
use Rattle.line_tree.specs.Taking.{ChangesNamed}
use Rattle.line_tree.specs.Trees.{names, total}

-- the line p becomes another; so much went with the old one, and so much came
pub record PutsOver (m n : Records) (p : NodePtr) (new : LineContent) (gone more : Count) : Type 0 where
  pub line : LineContent
  pub was : line_of (finite.get m p) ≡ Some line
  pub same : n ≡ update m p (λ r. with_line r new)
  pub went : gone ≡ line_count line
  pub came : more ≡ line_count new

-- the line p becomes what an edit makes of it
pub record EditsOver (m n : Records) (p : NodePtr) (edited : LineContent → LineContent) (gone more : Count) : Type 0
  where
    pub line : LineContent
    pub was : line_of (finite.get m p) ≡ Some line
    pub puts : PutsOver m n p (edited line) gone more

-- In the tree below r the line p became another, and the sums above it are those of before.
pub record IsStale (m : Records) (new : LineContent) (n : Records) (h : ℕ) (r p : NodePtr) (gone more : Count) : Type 0
  where
    pub tree : IsTree m h r
    pub distinct : Distinct (names h (tree_at m h r))
    pub named : (k : ℕ) × IsLineAt (lines_in m h r) k p
    pub fits : FitsSum (plus (total (lines_in m h r)) (line_count new))
    pub puts : PutsOver m n p new gone more

-- the line p can be edited: it fits, and can be counted then
abbrev pub CanEditNamed : (LineContent → Type 0) → (LineContent → LineContent) → Count → LineContent → Type 0
CanEditNamed Fits edited all line = Fits line × FitsSum (plus all (line_count (edited line)))

-- the line with this name became what an edit makes of it, and all sums are right
pub record EditsNamed (m n : Records) (h : ℕ) (r p : NodePtr) (edited : LineContent → LineContent) : Type 0 where
  pub line : LineContent
  pub was : line_of (finite.get m p) ≡ Some line
  pub gone : Count
  pub changes : ChangesNamed m n h r p (λ _. edited line) gone (line_count (edited line))
