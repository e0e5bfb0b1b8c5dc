-- Names by their bytes.
use Rattle.index_grammar.proofs.Common.{◌≡◌, ℕ, ◌+◌, ◌*◌, Bool, true, false, List, [], ◌∷◌, Some, refl, sym, ap, ◌∙◌}
use Rattle.index_grammar.proofs.Common.{bytes_eq, codes, IsUtf8, encode_utf8_all, same_from_decides, bytes_eq-Decides}
use Rattle.index_grammar.proofs.Common.{encodes-chars, IsUtf8-from_ascii, Mark, known_marks}
use Rattle.std.specs.Str.{chars}
use Rattle.mark_table.specs.SharedMarks.{number_of}
use Rattle.index_grammar.proofs.LowLaws.{ascii_of}

abbrev pub insert_bytes : List ℕ
insert_bytes = 105 ∷ 110 ∷ 115 ∷ 101 ∷ 114 ∷ 116 ∷ []

abbrev pub current_bytes : List ℕ
current_bytes = 99 ∷ 117 ∷ 114 ∷ 114 ∷ 101 ∷ 110 ∷ 116 ∷ []

chars-insert : chars insert_bytes ≡ codes "insert"
unfolding chars
chars-insert = refl

chars-current : chars current_bytes ≡ codes "current"
unfolding chars
chars-current = refl

insert-utf8 : IsUtf8 insert_bytes
insert-utf8 = IsUtf8-from_ascii insert_bytes (ascii_of insert_bytes refl)

current-utf8 : IsUtf8 current_bytes
current-utf8 = IsUtf8-from_ascii current_bytes (ascii_of current_bytes refl)

bytes_eq-chars : (a b : List ℕ) → IsUtf8 a → IsUtf8 b → bytes_eq a b ≡ bytes_eq (chars a) (chars b)
bytes_eq-chars a b text other =
    let bytes = bytes_eq-Decides a b in
    let characters = bytes_eq-Decides (chars a) (chars b) in
    let back : chars a ≡ chars b → a ≡ b = λ same. sym (encodes-chars a text) ∙ ap encode_utf8_all same
    ∙ encodes-chars b other in
    same_from_decides _ _ bytes (λ same. back (characters.0 same), λ same. characters.1 (ap chars same))

is-insert : (name : List ℕ) (b : Bool) → IsUtf8 name → bytes_eq name insert_bytes ≡ b →
    bytes_eq (chars name) (codes "insert") ≡ b
is-insert name b text is =
    ap (bytes_eq (chars name)) (sym chars-insert) ∙ sym (bytes_eq-chars name insert_bytes text insert-utf8) ∙ is

is-current : (name : List ℕ) (b : Bool) → IsUtf8 name → bytes_eq name current_bytes ≡ b →
    bytes_eq (chars name) (codes "current") ≡ b
is-current name b text is =
    ap (bytes_eq (chars name)) (sym chars-current) ∙ sym (bytes_eq-chars name current_bytes text current-utf8) ∙ is

pub known-insert : (marks : List Mark) (widget : ℕ) (name : List ℕ) → IsUtf8 name → bytes_eq name insert_bytes ≡ true
    → Some (2 * widget) ≡ known_marks marks widget (chars name)
known-insert marks widget name text is = rw (is-insert name true text is) refl

pub known-current : (marks : List Mark) (widget : ℕ) (name : List ℕ) → IsUtf8 name →
    bytes_eq name insert_bytes ≡ false → bytes_eq name current_bytes ≡ true
    → Some (2 * widget + 1) ≡ known_marks marks widget (chars name)
known-current marks widget name text isn't is =
    rw (is-insert name false text isn't) (rw (is-current name true text is) refl)

pub known-shared : (marks : List Mark) (widget : ℕ) (name : List ℕ) → IsUtf8 name → bytes_eq name insert_bytes ≡ false →
    bytes_eq name current_bytes ≡ false
    → number_of (chars name) marks ≡ known_marks marks widget (chars name)
known-shared marks widget name text isn't nor =
    rw (is-insert name false text isn't) (rw (is-current name false text nor) refl)
