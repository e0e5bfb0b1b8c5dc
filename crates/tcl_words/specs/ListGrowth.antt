-- A list that grows at its end.
use Rattle.std.specs.Prelude.{◌≡◌, ℕ, List, ◌++◌, encode_utf8_all}
use Rattle.tcl_words.specs.ListText.{element_text, list_text, space_behind}

-- the bytes of a text with one more element behind them, and a space before it where something stands there
abbrev pub pushed : List ℕ → List ℕ → List ℕ
pushed bytes element = (bytes ++ space_behind bytes) ++ encode_utf8_all (element_text element)

-- the bytes of a list's text become those with some elements more
abbrev pub Goes : List ℕ → List ℕ → List (List ℕ) → Type 0
Goes old new more =
    (list : List (List ℕ)) → old ≡ encode_utf8_all (list_text list) → new ≡ encode_utf8_all (list_text (list ++ more))
