-- A text with one character more, and that characters are Unicode scalar values.
use Rattle.text_model.proofs.Common.{◌≡◌, ℕ, Bool, true, false, ◌&&◌, List, [], ◌∷◌, ◌++◌, refl, sym, ap, subst, ◌∙◌}
use Rattle.text_model.proofs.Common.{chars, IsUtf8, encode_utf8, IsScalar, All, All-cons, All-nil, append-nil}
use Rattle.text_model.proofs.Common.{chars-append, chars_past_char, chars-encodes, chars-nil, IsUtf8-encode}
use Rattle.text_model.proofs.Common.{all_scalars}

pub chars-push : (bytes : List ℕ) (c : ℕ) → IsUtf8 bytes → IsScalar c →
    chars (bytes ++ encode_utf8 c) ≡ chars bytes ++ c ∷ []
chars-push bytes c text scalar =
    chars-append bytes (encode_utf8 c) text
    ∙ ap (λ cs. chars bytes ++ cs)
    (chars_past_char (encode_utf8 c) [] c (IsUtf8-encode c scalar) (sym (append-nil _)) ∙ ap (λ cs. c ∷ cs) chars-nil)

first_scalar : (first rest : Bool) → (first && rest) ≡ true → first ≡ true
first_scalar true rest both = refl
first_scalar false rest both = both

other_scalars : (first rest : Bool) → (first && rest) ≡ true → rest ≡ true
other_scalars true rest both = both
other_scalars false rest both = absurd (let no : false ≡ true = both in cc)

each_scalar : (text : List ℕ) → all_scalars text ≡ true → All IsScalar text
each_scalar [] all = All-nil IsScalar
each_scalar (c ∷ text) all = All-cons IsScalar c text (first_scalar _ _ all) (each_scalar text (other_scalars _ _ all))

pub chars-scalars : (bytes : List ℕ) → IsUtf8 bytes → All IsScalar (chars bytes)
chars-scalars bytes text =
    let same : chars bytes ≡ text.0 = ap chars (sym text.1.1) ∙ chars-encodes text.0 text.1.0 in
    subst (All IsScalar) (sym same) (each_scalar text.0 text.1.0)
