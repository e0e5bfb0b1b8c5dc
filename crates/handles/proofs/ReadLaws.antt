-- What C reads of words, of changes and of names.
use Rattle.handles.proofs.Common.{◌≡◌, ℕ, ◌<◌, ◌≤◌, List, [], length, get_or, refl, sym, ap, subst, ◌∙◌}
use Rattle.handles.proofs.Common.{encode_utf8_all, option_map, slice_get, encodes-chars, texts_of, bytes_of, word_given}
use Rattle.handles.proofs.Common.{Option, Some, None, chars, IsUtf8, String, string_bytes}
use Rattle.std.proofs.lemmas.Option.{slice_get-map, slice_get_past, slice_get_read}

-- the element at a place of a list, which is another one's
element : {A : Type 0} (shown all : List A) (index : ℕ) (x : A) → shown ≡ all → index < length shown
    → x ≡ get_or shown index x → slice_get all index ≡ Some x
element shown all index x same within is =
    subst (λ xs. slice_get xs index ≡ Some x) same (slice_get_read shown (length shown) index x refl within is)

past : {A : Type 0} (shown all : List A) (index : ℕ) → shown ≡ all → length shown ≤ index → slice_get all index ≡ None
past shown all index same beyond = subst (λ xs. slice_get xs index ≡ None) same (slice_get_past shown index beyond)

pub word-found : {Z : Type 0} (shown words : List (String Z)) (index : ℕ) (word : String Z) (bytes : List ℕ)
    → shown ≡ words → index < length shown → word ≡ get_or shown index word → bytes ≡ string_bytes word → IsUtf8 bytes
    → bytes ≡ word_given (texts_of words) index
word-found shown words index word bytes same within is spelled text =
    sym (ap bytes_of (slice_get-map (λ w. chars (string_bytes w)) words index
    ∙ ap (option_map (λ w. chars (string_bytes w))) (element shown words index word same within is))
    ∙ ap (λ b. encode_utf8_all (chars b)) (sym spelled) ∙ encodes-chars bytes text)

pub no-word : {Z : Type 0} (shown words : List (String Z)) (index : ℕ) → shown ≡ words → length shown ≤ index
    → word_given (texts_of words) index ≡ []
no-word shown words index same beyond =
    ap bytes_of (slice_get-map (λ w. chars (string_bytes w)) words index
    ∙ ap (option_map (λ w. chars (string_bytes w))) (past shown words index same beyond))

-- what is read of the element at a place, or where there is none
pub read-found : {A B : Type 0} (shown all : List A) (index : ℕ) (x : A) (read : Option A → B) → shown ≡ all
    → index < length shown → x ≡ get_or shown index x → read (Some x) ≡ read (slice_get all index)
read-found shown all index x read same within is = sym (ap read (element shown all index x same within is))

pub read-none : {A B : Type 0} (shown all : List A) (index : ℕ) (read : Option A → B) → shown ≡ all
    → length shown ≤ index → read None ≡ read (slice_get all index)
read-none shown all index read same beyond = sym (ap read (past shown all index same beyond))
