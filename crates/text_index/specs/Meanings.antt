-- The place that a word stands for, by what the names in it mean (text(n), "INDICES").
use Rattle.std.specs.Prelude.{◌≡◌, ◌≤◌, ℕ, Bool, List, length, Option, None, Some, option_map, Result, Err}
use Rattle.mark_table.specs.SharedMarks.{Mark}
use Rattle.tag_table.specs.Tags.{Tag}
use Rattle.index_grammar.specs.Names.{known_marks, known_tags}
use Rattle.text_index.specs.Views.{Part, shown_mark, shown_flags}
use Rattle.index_grammar.specs.Grammar.{index_of, WholeIndex}
use Rattle.text_index.specs.Values.{index_value}
use Rattle.index_grammar.specs.declared.faults.IndexFault.{IndexFault}
use Rattle.index_grammar.specs.declared.faults.IndexFault.TheVariants.{BadIndex}

-- numbers for the names of marks and of tags; where a view shows each mark, if it does, and which of its characters
-- have each tag
pub record Meanings : Type 0 where
  pub marks : List ℕ → Option ℕ
  pub places : ℕ → Option ℕ
  pub tags : List ℕ → Option ℕ
  pub flags : ℕ → List Bool

abbrev pub value_of : (ℕ → Bool) → Meanings → List ℕ → Option WholeIndex → Result ℕ IndexFault
value_of is_word meanings text None = Err BadIndex
value_of is_word meanings text (Some index) = index_value is_word meanings.places meanings.flags text index.0 index.1

-- the place in a view of this text that a word stands for
abbrev pub word_value : (ℕ → Bool) → Meanings → List ℕ → List ℕ → Result ℕ IndexFault
word_value is_word meanings text word = value_of is_word meanings text (index_of meanings.marks meanings.tags word)

-- marks are shown in the text, and flags are of its characters
pub record AreWithin (meanings : Meanings) (text : List ℕ) : Type 0 where
  pub places : (number place : ℕ) → meanings.places number ≡ Some place → place ≤ length text
  pub flags : (slot : ℕ) → length (meanings.flags slot) ≤ length text

-- each name means the same, whatever its number is
pub record MeanTheSame (one other : Meanings) : Type 0 where
  pub marks : (name : List ℕ) → option_map one.places (one.marks name) ≡ option_map other.places (other.marks name)
  pub tags : (name : List ℕ) → option_map one.flags (one.tags name) ≡ option_map other.flags (other.tags name)

-- what the names of a document's tables, and a widget's own, mean to a view of its text
abbrev pub shown_meanings : List Mark → List Tag → ℕ → Part → Meanings
shown_meanings marks tags widget part = record {
  marks = known_marks marks widget;
  places = shown_mark part;
  tags = known_tags tags widget;
  flags = λ slot. shown_flags slot part;
}
