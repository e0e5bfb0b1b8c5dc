-- The place of an index whose modifiers are read one at a time.
use Rattle.text_index.proofs.Common.{Part, ◌≡◌, ℕ, ◌<◌, Bool, List, [], ◌∷◌, length, refl, sym, ap, ◌∙◌, Option, Result}
use Rattle.text_index.proofs.Common.{Ok, Err, Some, None, chars, IsUtf8, IsView, shown, shown_mark, shown_flags}
use Rattle.text_index.proofs.Common.{is_word, base_value, then_modified, read_modified, value_of, word_value}
use Rattle.text_index.proofs.Common.{shown_meanings, IndexFault, BadIndex, Base, base_of, modifiers_of, tokens_of}
use Rattle.text_index.proofs.Common.{before, known_marks, known_tags, read_of, saturated, Modifier, most, Mark, Tag}
use Rattle.index_grammar.proofs.LowModifierLaws.{modifiers-chars}
use Rattle.index_grammar.proofs.WholeLaws.{whole-none, whole-bad, whole-ok}
use Rattle.text_index.proofs.BoundLaws.{value-found}

-- ---- the modifiers

pub modified-step : (is_word : ℕ → Bool) (text : List ℕ) (first : Modifier) (others : Option (List Modifier))
    (from : Result ℕ IndexFault) → read_modified is_word text (before (Some first) others) from
    ≡ read_modified is_word text others (then_modified is_word text (first ∷ []) from)
modified-step is_word text first None from = refl
modified-step is_word text first (Some others) (Err fault) = refl
modified-step is_word text first (Some others) (Ok place) = refl

pub modified-none : (is_word : ℕ → Bool) (text : List ℕ) (from : Result ℕ IndexFault) →
    read_modified is_word text (Some []) from ≡ from
modified-none is_word text (Err fault) = refl
modified-none is_word text (Ok place) = refl

-- ---- the index

module _ (marks : List Mark) (tags : List Tag) (widget : ℕ) (part : Part) (word : List ℕ) where
  -- a word without a base is no index
  pub value-absent : (result : Result ℕ IndexFault) → result ≡ Err BadIndex
      → read_of word (base_of (known_marks marks widget) (known_tags tags widget) word) ≡ None
      → result ≡ word_value is_word (shown_meanings marks tags widget part) (shown part) word
  value-absent result is none =
      is ∙ sym (ap (value_of is_word (shown_meanings marks tags widget part) (shown part))
      (whole-none (known_marks marks widget) (known_tags tags widget) word none))

  -- with a base it stands for the place to which the modifiers lead from there, if there are no others
  pub value-read : (bytes : List ℕ) (from : Base) (result : Result ℕ IndexFault) → IsView part
      → length part.content.cells < most → IsUtf8 bytes
      → read_of word (base_of (known_marks marks widget) (known_tags tags widget) word) ≡ Some (from, chars bytes)
      → result ≡ read_modified is_word (shown part) (saturated (modifiers_of (tokens_of bytes)))
      (base_value (shown_mark part) (λ slot. shown_flags slot part) (shown part) from)
      → result ≡ word_value is_word (shown_meanings marks tags widget part) (shown part) word
  value-read bytes from result view room text base found =
      let same : saturated (modifiers_of (tokens_of (chars bytes))) ≡ saturated (modifiers_of (tokens_of bytes)) =
      ap saturated (sym (modifiers-chars bytes text)) in
      elim (saturated (modifiers_of (tokens_of bytes))) as (λ o. saturated (modifiers_of (tokens_of bytes)) ≡ o
      → result ≡ read_modified is_word (shown part) o
      (base_value (shown_mark part) (λ slot. shown_flags slot part) (shown part) from)
      → result ≡ word_value is_word (shown_meanings marks tags widget part) (shown part) word) [
        | None ↦ λ none is. is ∙ sym (ap (value_of is_word (shown_meanings marks tags widget part) (shown part))
            (whole-bad (known_marks marks widget) (known_tags tags widget) word (chars bytes) from base (same ∙ none)))
        | Some steps ↦ λ some is. value-found marks tags widget part word from steps result view room
            (whole-ok (known_marks marks widget) (known_tags tags widget) word (chars bytes) from steps base
            (same ∙ some)) is
      ] refl found
