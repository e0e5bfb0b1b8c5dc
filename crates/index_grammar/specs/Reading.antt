-- What is read of the front of a word, and what is left of it.
use Rattle.std.specs.Prelude.{ℕ, ⊤, ◌≡◌, ◌<◌, ◌==◌, Bool, true, not, List, ◌++◌, drop, chars, Option, None, Some}
use Rattle.std.specs.Prelude.{option_map, if◌then◌else◌}
use Rattle.std.specs.List.{list_all}
use Rattle.std.specs.Borrow.{Bor}
use Rattle.text_model.specs.TagBits.{slot_count}
use Rattle.index_grammar.specs.Characters.{is_break, closes}
use Rattle.index_grammar.specs.Grammar.{saturated_base}
use Rattle.index_grammar.specs.declared.indices.Base.{Base}
use Rattle.index_grammar.specs.declared.indices.Base.TheVariants as base

abbrev pub is_dot : ℕ → Bool
is_dot c = c == 46

-- a base with its numbers as a machine has them, and the characters behind it
abbrev pub read_of : List ℕ → Option (Base × ℕ) → Option (Base × List ℕ)
read_of text found = option_map (λ (base : Base × ℕ). (saturated_base base.0, drop base.1 text)) found

abbrev pub found_of : Option (Base × Bor (List ℕ)) → Option (Base × List ℕ)
found_of found = option_map (λ (base : Base × Bor (List ℕ)). (base.0, chars base.1.now)) found

-- a text is a front without a blank, `+` or `-`, and a rest that closes the front
pub record IsClosed (text front rest : List ℕ) : Type 0 where
  pub whole : text ≡ front ++ rest
  pub unbroken : list_all (λ c. not (is_break c)) front ≡ true
  pub closed : closes rest ≡ true

-- what is read of a text, where what follows closes it
abbrev pub closed_of : Option (Base × Bor (List ℕ)) → Option (Base × List ℕ)
closed_of None = None
closed_of (Some found) = if closes found.1.now then Some (found.0, found.1.now) else None

-- a base and what follows it
abbrev pub with_rest : List ℕ → Option Base → Option (Base × List ℕ)
with_rest rest found = option_map (λ base. (base, rest)) found

-- what is read of a text, and closed, is what its front means, with the rest
abbrev pub Reads : (List ℕ → Option Base) → List ℕ → Option (Base × Bor (List ℕ)) → Type 0
Reads known text found = (front rest : List ℕ) → IsClosed text front rest →
    closed_of found ≡ with_rest rest (option_map saturated_base (known front))

-- the slot of a base is one that a store knows
abbrev pub HasSlot : Base → Type 0
HasSlot (base.At line character) = ⊤
HasSlot (base.LineEnd line) = ⊤
HasSlot base.End = ⊤
HasSlot (base.Mark number) = ⊤
HasSlot (base.First slot len) = slot.0 < slot_count
HasSlot (base.Last slot len) = slot.0 < slot_count
