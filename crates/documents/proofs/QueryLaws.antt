-- What the queries of a document's store and tables answer.
use Rattle.documents.proofs.Common.{◌≡◌, ℕ, List, sym, chars, encode_utf8_all, string_bytes, IsUtf8-string_bytes}
use Rattle.documents.proofs.Common.{chars_from_encodes, list_text, String}

-- a text that spells a list
pub spelled : {Z : Type 0} (text : String Z) (elements : List (List ℕ)) →
    string_bytes text ≡ encode_utf8_all (list_text elements) → chars (string_bytes text) ≡ list_text elements
spelled text elements is =
    sym (chars_from_encodes (list_text elements) (string_bytes text) (IsUtf8-string_bytes text) (sym is))
