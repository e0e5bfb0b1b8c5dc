-- Characters that make no words.
use Rattle.std.specs.Prelude.{◌≡◌, false, refl}
use Rattle.ucd_category.proofs.Computing.{ucd_category}
use Rattle.text_index.specs.Words.{is_word}

pub newline-is-no-word : is_word 10 ≡ false
unfolding ucd_category
newline-is-no-word = refl
