-- Words that are written over others.
use Rattle.tcl_words.proofs.Common.{◌≡◌, ℕ, ◌+◌, ◌<◌, List, [], ◌∷◌, ◌++◌, map, length, take, slice_set, String}
use Rattle.tcl_words.proofs.Common.{string_bytes, ap, sym, ◌∙◌, add-one, length-map, map-set, take-map, take-suc-set}
use Rattle.tcl_words.proofs.Common.{take-length}

pub written_over : {Z : Type 0} (words : List (String Z)) (place : ℕ) (word : String Z) (text : List ℕ) →
    place < length words → string_bytes word ≡ text
    → take (place + 1) (map (λ w. string_bytes w) (slice_set words place word))
    ≡ take place (map (λ w. string_bytes w) words) ++ text ∷ []
written_over words place word text within is =
    let all = map (λ w. string_bytes w) words in
    ap (take (place + 1)) (map-set (λ w. string_bytes w) words place word)
    ∙ ap (λ n. take n (slice_set all place (string_bytes word))) (add-one place)
    ∙ take-suc-set all place (string_bytes word) (rw (length-map words (λ w. string_bytes w)) within)
    ∙ ap (λ b. take place all ++ b ∷ []) is

-- those behind the last are cut off
pub written_all : {Z T : Type 0} (words cut : List (String Z)) (texts : List T) (spells : T → List ℕ) (place : ℕ) →
    place ≡ length texts → cut ≡ take (length texts) words
    → take place (map (λ w. string_bytes w) words) ≡ map spells (take place texts)
    → map (λ w. string_bytes w) cut ≡ map spells texts
written_all words cut texts spells place end is written =
    ap (map (λ w. string_bytes w)) is ∙ sym (take-map (λ w. string_bytes w) (length texts) words)
    ∙ ap (λ n. take n (map (λ w. string_bytes w) words)) (sym end) ∙ written
    ∙ ap (λ n. map spells (take n texts)) end ∙ ap (map spells) (take-length texts)
