-- Words, and which are among some.
use Rattle.reports.proofs.Common.{◌≡◌, ℕ, ◌+◌, true, false, List, [], ◌∷◌, ◌++◌, length, refl, ◌<◌, get_or, take, sym}
use Rattle.reports.proofs.Common.{ap, ◌∙◌, map-append, take_more, bytes_eq-Decides, texts_of, is_among, is_same, chars}
use Rattle.reports.proofs.Common.{string_bytes, ◌||◌, String}

pub same-word : (word : List ℕ) → is_same word word ≡ true
same-word word = (bytes_eq-Decides word word).1 refl

pub words-are : (a b : List ℕ) → is_same a b ≡ true → a ≡ b
words-are a b = (bytes_eq-Decides a b).0

pub among-last : (name word : List ℕ) (names : List (List ℕ)) → is_same name word ≡ true →
    is_among name (names ++ word ∷ []) ≡ true
among-last name word [] is = ap (λ b. b || false) is
among-last name word (first ∷ names) is =
    elim (is_same name first) as (λ b. (b || is_among name (names ++ word ∷ [])) ≡ true)
    [ true ↦ refl | false ↦ among-last name word names is ]

pub among-other : (name word : List ℕ) (names : List (List ℕ)) → is_same name word ≡ false →
    is_among name (names ++ word ∷ []) ≡ is_among name names
among-other name word [] other = ap (λ b. b || false) other
among-other name word (first ∷ names) other =
    ap (λ b. is_same name first || b) (among-other name word names other)

-- the characters of one word more
pub texts-more : {Z : Type 0} (words : List (String Z)) (at : ℕ) (word : String Z) (bytes : List ℕ)
    → at < length words → word ≡ get_or words at word → bytes ≡ string_bytes word
    → texts_of (take at words) ++ chars bytes ∷ [] ≡ texts_of (take (at + 1) words)
texts-more {Z} words at word bytes within is spelled =
    ap (λ bs. texts_of (take at words) ++ chars bs ∷ []) (spelled ∙ ap (λ (w : String Z). string_bytes w) is)
    ∙ sym (map-append (λ (w : String Z). chars (string_bytes w)) (take at words) (get_or words at word ∷ []))
    ∙ ap texts_of (sym (take_more words at word within))
