-- Words that are read one after another.
use Rattle.handles.proofs.Common.{◌≡◌, ℕ, ◌+◌, ◌<◌, ◌≤◌, arith, List, [], ◌∷◌, ◌++◌, length, take, drop, sym, ap, subst}
use Rattle.handles.proofs.Common.{◌∙◌, append_assoc, chars, IsUtf8, String, string_bytes, length-drop, texts_of}
use Rattle.handles.proofs.Common.{add-one, append-nil, length-map, map-set, take-map, slice_set, take-append-drop}
use Rattle.handles.proofs.Common.{IsUtf8-append, cut, total, words_at, AreTexts, Ok, Err, Result, is_err, MatchResult}
use Rattle.handles.proofs.Common.{true≢false, false}
use Rattle.std.proofs.Math.Seq.{take-suc-set}

-- Of bytes and lengths these are left.
pub record Cutting (lengths bytes left rest : List ℕ) : Type 0 where
  pub sums : total lengths + length rest ≡ length bytes + total left
  pub texts : AreTexts (cut lengths bytes) → AreTexts (cut left rest)

pub cutting-more : (lengths bytes left rest : List ℕ) (n : ℕ) (others : List ℕ) → Cutting lengths bytes left rest
    → left ≡ n ∷ others → n ≤ length rest → Cutting lengths bytes others (drop n rest)
cutting-more lengths bytes left rest n others is next fits =
    let at = rw next at is in
    let long : length (drop n rest) + n ≡ length rest = omega (arith, length-drop n rest) in
    record { sums = omega (arith, at.sums, long); texts = λ t. (at.texts t).1 }

-- a word isn't UTF-8
pub cutting-not_text : (lengths bytes left rest : List ℕ) (n : ℕ) (others : List ℕ) → Cutting lengths bytes left rest
    → left ≡ n ∷ others → ¬ IsUtf8 (take n rest) → ¬ AreTexts (cut lengths bytes)
cutting-not_text lengths bytes left rest n others is next wrong are =
    let at = rw next at is in wrong (at.texts are).0

-- what is left is UTF-8 only where what a word more is cut from is
pub whole-more : (bytes rest : List ℕ) (n : ℕ) → (IsUtf8 rest → IsUtf8 bytes) → IsUtf8 (take n rest)
    → IsUtf8 (drop n rest) → IsUtf8 bytes
whole-more bytes rest n whole text later =
    whole (subst IsUtf8 (take-append-drop n rest) (IsUtf8-append (take n rest) (drop n rest) text later))

-- bytes are UTF-8 where this wasn't refused
pub text-valid : {A E : Type 0} (found : Result A E) (bytes : List ℕ) (same : A → Type 0) (wrong : E → Type 0)
    → MatchResult found (λ text. same text × IsUtf8 bytes) wrong → is_err found ≡ false → IsUtf8 bytes
text-valid (Ok text) bytes same wrong cases valid = cases.1
text-valid (Err fault) bytes same wrong cases valid = absurd (true≢false valid)

-- Of bytes and lengths these are left, and these words were made.
pub record Reading (lengths bytes left rest : List ℕ) (made : List (List ℕ)) : Type 0 where
  pub cutting : Cutting lengths bytes left rest
  pub whole : words_at lengths bytes ≡ made ++ words_at left rest
  pub back : AreTexts (cut left rest) → AreTexts (cut lengths bytes)

pub reading-more : (lengths bytes left rest : List ℕ) (made : List (List ℕ)) (n : ℕ) (others : List ℕ)
    → Reading lengths bytes left rest made → left ≡ n ∷ others → n ≤ length rest → IsUtf8 (take n rest)
    → Reading lengths bytes others (drop n rest) (made ++ chars (take n rest) ∷ [])
reading-more lengths bytes left rest made n others is next fits text =
    let at = rw next at is in
    record {
      cutting = cutting-more lengths bytes left rest n others is.cutting next fits;
      whole = at.whole ∙ sym (append_assoc made (chars (take n rest) ∷ []) (words_at others (drop n rest)));
      back = λ t. at.back (text, t);
    }

-- all words were made
pub reading-all : (lengths bytes left rest : List ℕ) (made : List (List ℕ)) → Reading lengths bytes left rest made
    → left ≡ [] → rest ≡ []
    → (words_at lengths bytes ≡ made) × (total lengths ≡ length bytes) × AreTexts (cut lengths bytes)
reading-all lengths bytes left rest made is none end =
    let at = rw (none, end) at is in
    (at.whole ∙ append-nil made, omega (arith, at.cutting.sums), at.back tt)

-- a word is written over another one
pub written-over : {Z : Type 0} (words : List (String Z)) (index : ℕ) (word : String Z) (text : List ℕ)
    → index < length words → string_bytes word ≡ text
    → take (index + 1) (texts_of (slice_set words index word)) ≡ take index (texts_of words) ++ chars text ∷ []
written-over words index word text within is =
    let all = texts_of words in
    ap (take (index + 1)) (map-set (λ w. chars (string_bytes w)) words index word)
    ∙ ap (λ n. take n (slice_set all index (chars (string_bytes word)))) (add-one index)
    ∙ take-suc-set all index (chars (string_bytes word)) (rw (length-map words (λ w. chars (string_bytes w))) within)
    ∙ ap (λ b. take index all ++ chars b ∷ []) is

-- the words after these are dropped
pub written-all : {Z : Type 0} (words all : List (String Z)) (count : ℕ) → words ≡ take count all
    → texts_of words ≡ take count (texts_of all)
written-all words all count is =
    ap texts_of is ∙ sym (take-map (λ w. chars (string_bytes w)) count all)
